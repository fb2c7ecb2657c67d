-- The invariants of `injection_back::ring_sum`.
use Rattle.std.proofs.Common.{◌≡◌, List, ◌++◌}
use Rattle.definition.specs.declared.Block.{Block}
use Rattle.back_definition.specs.Injection.{ring_sum}
use Rattle.injection_back.proofs.ring_sum.Given as goal

abbrev pub invariant-loop-b : goal.invariant-loop-b
invariant-loop-b l = (summed : List Block) × (l.y ≡ l.b-iterator.iter.rest.now ++ summed) × (l.r ≡ ring_sum summed)

-- The invariants of `permutation_back::ended`.
use Rattle.std.proofs.Common.{◌≡◌, ◌≤◌}
use Rattle.generator.specs.Turns.{applied}
use Rattle.permutation_back.proofs.ended.Given as goal

abbrev pub invariant-loop : goal.invariant-loop
invariant-loop l = (l.counter ≤ 16) × (l.t ≡ applied l.counter l.start)

-- `injection_back::ring_sum` meets its contract. The loop's invariant: the blocks taken from the end are summed.
-- Assumes nothing.
use Rattle.std.proofs.Common.{◌≡◌, [], ◌∷◌, ◌++◌, refl, sym, ap, ◌∙◌, append-nil, append_assoc, rules}
use Rattle.definition.specs.Block.{◌⊕◌}
use Rattle.definition.specs.Field.{double}
use Rattle.back_definition.specs.Injection.{ring_sum}
use Rattle.injection_back.proofs.ring_sum.Goals as goal

pub loop-b-init : goal.loop-b-init
unfolding ring_sum
loop-b-init c =
    let e : c.into_iter-b-iterator.result.iter.rest.now ≡ c.args.y.now = search rules in
    ([], sym e ∙ sym (append-nil _), refl)

pub loop-b-preserved : goal.loop-b-preserved
unfolding ring_sum
loop-b-preserved c =
    let b = c.in-Some.b.now in
    let done = c.loop-b.invariant in (
      b ∷ done.0,
      done.1 ∙ ap (λ xs. xs ++ done.0) c.in-Some.ensures.steps ∙ append_assoc _ (b ∷ []) done.0,
      c.bitxor-r.ensures ∙ ap (λ r. b ⊕ r) (c.double.ensures ∙ ap double done.2),
    )

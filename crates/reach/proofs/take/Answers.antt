-- `reach::take` meets its contract. The loop's invariant: what the links left name and what is in the set are all.
-- Assumes nothing.
use mathlib.Core.Path.{sym, ap, ◌∙◌, fun_ext}
use mathlib.Core.Bool.{Bool, ◌||◌}
use Prim.Native.Nat.{ℕ, ◌+◌}
use native.Mathlib.Omega.{arith}
use lib.Dec.{eqb}
use lib.ListN.{get_or, drop, drop_of_length-le}
use Rattle.std.proofs.lemmas.List.{at_drop_more}
use Rattle.plan_definition.specs.Some.{some}
use Rattle.plan_definition.specs.Well.{no_link}
use Rattle.plan_numbers.specs.Numbers.{has, plus}
use Rattle.plan.proofs.Passed.{either_first}
use Rattle.reach_definition.specs.Reach.{names}
use Rattle.reach.specs.Sets.{plus_named}
use Rattle.reach.proofs.take.Goals as goal

pub loop-l-preserved : goal.loop-l-preserved
unfolding plus some names
loop-l-preserved c =
    let links = c.args.links.now in
    let l = c.loop-l in
    let rest = drop (l.l-index + 1) links in
    λ j. ap (λ (f : ℕ → Bool). some (names j) rest || f j) c.put.ensures
    ∙ either_first (eqb (get_or links l.l-index no_link).injector j) (some (names j) rest) (has l.taken j)
    ∙ ap (λ (b : Bool). b || has l.taken j) (sym (at_drop_more (λ ls. some (names j) ls) links l.l-index no_link (omega arith)))
    ∙ l.invariant j

pub returns : goal.returns
unfolding plus_named some
returns c =
    let l = c.loop-l in
    fun_ext (λ j. rw (drop_of_length-le c.args.links.now {i = l.l-index} (omega arith)) at (l.invariant j))

-- `reach::touched` meets its contract, kind by kind.
-- Assumes nothing.
use mathlib.Core.Path.{sym, ◌∙◌}
use borrow.Author.Tests.{eq-eqb, ne_eqb}
use Rattle.definition.specs.Refusal.{pick}
use Rattle.plan_definition.specs.Rules.{injector, used}
use Rattle.plan_numbers.specs.Numbers.{has}
use Rattle.reach.specs.Sets.{takes, touches}
use Rattle.reach.proofs.Wells.{any_is}
use Rattle.reach.proofs.touched.Goals as goal

pub returns-then-w-kind : goal.returns-then-w-kind
unfolding touches
returns-then-w-kind c = rw (ne_eqb _ _ c.if-w-kind.true)

pub returns-then-w-eq-INJECTOR : goal.returns-then-w-eq-INJECTOR
unfolding touches injector pick
returns-then-w-eq-INJECTOR c =
    c.has.ensures ∙ sym (rw (eq-eqb _ _ c.if-w-kind.false, eq-eqb _ _ c.if-w-eq-INJECTOR.true))

pub returns : goal.returns
unfolding touches injector pick takes used
returns c =
    (rw c.from.ensures at c.one_taken.ensures)
    ∙ sym (any_is (takes (has c.args.taken.now)) (used c.args.w))
    ∙ sym (rw (eq-eqb _ _ c.if-w-kind.false, ne_eqb _ _ c.if-w-eq-INJECTOR.false))

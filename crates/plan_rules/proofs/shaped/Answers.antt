-- `plan_rules::shaped` meets its contract: at each return the tests that led there say which rule is first.
-- Assumes nothing.
use mathlib.Core.Path.{◌≡◌, sym, ◌∙◌}
use mathlib.Core.Bool.{Bool, false}
use native.Mathlib.Omega.{arith}
use borrow.Author.Tests.{eq-eqb, ne_eqb, lt-ltb, le-ltb}
use lib.Dec.{ltb}
use Rattle.definition.specs.Refusal.{pick, first_of}
use Rattle.plan_definition.specs.declared.Well.{Well}
use Rattle.plan_definition.specs.Rules.{breaks_number, breaks_kind, breaks_link_count, breaks_rate, rules_by}
use Rattle.plan_rules.specs.Parts.{shape_rules}
use Rattle.plan_rules.proofs.shaped.Goals as goal

pub returns-then-w-eq0 : goal.returns-then-w-eq0
unfolding first_of pick shape_rules rules_by breaks_number
returns-then-w-eq0 c = rw (eq-eqb _ _ c.if-w-eq0.true)

-- the rules before a test hold where it is made
number : (w : Well) → (w.number ≡ 0 → ⊥) → breaks_number w ≡ false
unfolding breaks_number
number w n = ne_eqb _ _ n

pub returns-then-kind_breaks : goal.returns-then-kind_breaks
unfolding first_of pick shape_rules rules_by
returns-then-kind_breaks c = rw (number c.args.w c.if-w-eq0.false, sym c.kind_breaks.ensures ∙ c.if-kind_breaks.true)

pub returns-then-count_breaks : goal.returns-then-count_breaks
unfolding first_of pick shape_rules rules_by
returns-then-count_breaks c =
    rw (
      number c.args.w c.if-w-eq0.false,
      sym c.kind_breaks.ensures ∙ c.if-kind_breaks.false,
      sym c.count_breaks.ensures ∙ c.if-count_breaks.true,
    )

-- the rate alone is left
rate : (w : Well) {k l : Bool} → (w.number ≡ 0 → ⊥) → k ≡ breaks_kind w → k ≡ false → l ≡ breaks_link_count w → l ≡ false
    → first_of (shape_rules w) ≡ pick (ltb 100000 w.rate) 4 0
unfolding first_of pick shape_rules rules_by breaks_rate
rate w n k k-no l l-no = rw (number w n, sym k ∙ k-no, sym l ∙ l-no)

pub returns-then-w-gt-RATE_MOST : goal.returns-then-w-gt-RATE_MOST
unfolding pick
returns-then-w-gt-RATE_MOST c =
    let w = c.args.w in
    sym (rate w c.if-w-eq0.false c.kind_breaks.ensures c.if-kind_breaks.false c.count_breaks.ensures c.if-count_breaks.false
    ∙ rw (lt-ltb 100000 w.rate (omega arith)))

pub returns-else-w-gt-RATE_MOST : goal.returns-else-w-gt-RATE_MOST
unfolding pick
returns-else-w-gt-RATE_MOST c =
    let w = c.args.w in
    sym (rate w c.if-w-eq0.false c.kind_breaks.ensures c.if-kind_breaks.false c.count_breaks.ensures c.if-count_breaks.false
    ∙ rw (le-ltb 100000 w.rate (omega arith)))

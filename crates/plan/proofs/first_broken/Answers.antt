-- `plan::first_broken` meets its contract. The loop's invariant: what is left decides, and the set has the numbers of the places passed.
-- Assumes nothing.
use mathlib.Core.Path.{◌≡◌, sym, ap, ◌∙◌}
use mathlib.Core.Bool.{Bool, ◌||◌}
use mathlib.Core.List.{List}
use Prim.Native.Nat.{ℕ, suc, ◌*◌, ◌<◌, ◌≤◌}
use native.Mathlib.Numerals.{add-one}
use native.Mathlib.Omega.{arith}
use lib.Dec.{eqb}
use lib.ListN.{length}
use Rattle.definition.specs.Refusal.{first_of}
use Rattle.plan_definition.specs.declared.Well.{Well}
use Rattle.plan_definition.specs.declared.Rule.{Rule}
use Rattle.plan_definition.specs.declared.Verdict.{Verdict}
use Rattle.plan_definition.specs.declared.Verdict.TheVariants.{Fault}
use Rattle.plan_definition.specs.Well.{well_of, wells}
use Rattle.plan_definition.specs.Rules.{struck, has_number, rule_number, rules_at}
use Rattle.plan_definition.specs.Check.{found_at, first_fault}
use Rattle.plan_definition.proofs.Struck.{exempt_rules}
use Rattle.plan_definition.proofs.Places.{well_at, left, left_all, left_step, left_none, before_none, before-step}
use Rattle.plan_definition.proofs.Faults.{found, rule-number, rule-back}
use Rattle.plan_numbers.specs.Numbers.{plus}
use Rattle.plan_numbers.proofs.Numbers.{none_has}
use Rattle.plan_record.specs.Total.{well_in}
use Rattle.plan_record.proofs.Total.{well_read}
use Rattle.plan.specs.Sets.{count_of}
use Rattle.plan.proofs.Passed.{by_sets}
use Rattle.plan.proofs.first_broken.Goals as goal

pub loop-i-init : goal.loop-i-init
loop-i-init c =
    let a = c.args in
    (λ k. none_has 1024 k ∙ sym (before_none (count_of a.records.now) a.records.now k), ap (first_fault _) (left_all (count_of a.records.now) a.records.now))

-- the well that is read is the one at the place, and it is told whether it is struck
at : (n : ℕ) (sheet : List ℕ) (i : ℕ) {w : Well} {b : Bool} → i < n → 40 * n ≤ length sheet → w ≡ well_in sheet i → b ≡ struck w
    → (w ≡ well_at i sheet) × (struck (well_at i sheet) ≡ b)
at n sheet i h room w-is told = let e = w-is ∙ well_read _ _ (omega arith) in (e, sym (told ∙ ap struck e))

-- what is left from the place on is its first broken rule or what is left after it
step : (n : ℕ) (sheet : List ℕ) (i : ℕ) {v : Verdict} → i < n → first_fault (wells n sheet) (left i n sheet) ≡ v
    → found_at (first_of (rules_at (wells n sheet) (well_at i sheet))) i (first_fault (wells n sheet) (left (suc i) n sheet)) ≡ v
unfolding first_fault well_of
step n sheet i h e = rw (left_step n sheet i h) at e

-- a rule that is broken at a place is its fault
faulted : (rule : Rule) (i : ℕ) (rest : Verdict) → Fault rule i ≡ found_at (rule_number rule) i rest
faulted rule i rest = sym (found (rule_number rule) i rest (rule-number rule).0 ∙ ap (λ r. Fault r i) (rule-back rule))

pub returns-in-Some : goal.returns-in-Some
unfolding well_of
returns-in-Some c =
    let a = c.args in
    let l = c.loop-i in
    let here = at (count_of a.records.now) a.records.now l.i c.loop-i-test.true (omega arith) c.read-w.ensures c.struck.ensures in
    let rule = c.in-Some.ensures ∙ by_sets _ _ _ _ _ c.requires l.invariant.0 here.0 (here.1 ∙ c.if-struck.false) in
    faulted c.in-Some.rule l.i _ ∙ (rw (sym rule) at (step (count_of a.records.now) a.records.now l.i c.loop-i-test.true l.invariant.1))

pub loop-i-preserved-then-struck : goal.loop-i-preserved-then-struck
unfolding found_at first_of has_number
loop-i-preserved-then-struck c =
    let a = c.args in
    let l = c.loop-i in
    let here = at (count_of a.records.now) a.records.now l.i c.loop-i-test.true (omega arith) c.read-w.ensures c.struck.ensures in
    let gone = here.1 ∙ c.if-struck.true in (
      λ k. rw (add-one l.i) (l.invariant.0 k ∙ sym (rw gone at (before-step (count_of a.records.now) a.records.now l.i k c.loop-i-test.true))),
      rw (add-one l.i) (rw (exempt_rules _ _ gone) at (step (count_of a.records.now) a.records.now l.i c.loop-i-test.true l.invariant.1)),
    )

pub loop-i-preserved : goal.loop-i-preserved
unfolding plus found_at has_number well_of
loop-i-preserved c =
    let a = c.args in
    let l = c.loop-i in
    let here = at (count_of a.records.now) a.records.now l.i c.loop-i-test.true (omega arith) c.read-w.ensures c.struck.ensures in
    let stands = here.1 ∙ c.if-struck.false in
    let rule = c.in_default.ensures ∙ by_sets _ _ _ _ _ c.requires l.invariant.0 here.0 stands in (
      λ k. rw (add-one l.i) (ap (λ (f : ℕ → Bool). f k) c.put.ensures ∙ (λ j. eqb (here.0 j).number k || l.invariant.0 k j)
          ∙ sym (rw stands at (before-step (count_of a.records.now) a.records.now l.i k c.loop-i-test.true))),
      rw (add-one l.i) (rw (sym rule) at (step (count_of a.records.now) a.records.now l.i c.loop-i-test.true l.invariant.1)),
    )

pub returns : goal.returns
unfolding first_fault
returns c =
    let l = c.loop-i in
    let a = c.args in
    let e : l.i ≡ count_of a.records.now = omega arith in
    rw (left_none (count_of a.records.now) a.records.now) at (rw e at l.invariant.1)

-- `plan::put_injectors` meets its contract. The loop's invariant: the injectors of what is left and those in the set are all.
-- Assumes nothing.
use mathlib.Core.Path.{◌≡◌, ◌∙◌, fun_ext}
use mathlib.Core.Bool.{◌||◌}
use mathlib.Core.List.{◌∷◌}
use Prim.Native.Nat.{ℕ, suc}
use native.Mathlib.Numerals.{add-one}
use native.Mathlib.Omega.{arith}
use borrow.Author.Tests.{eq-eqb, ne_eqb}
use Rattle.plan_definition.specs.Some.{some}
use Rattle.plan_definition.specs.Rules.{injector, is_injector_of}
use Rattle.plan_definition.proofs.Places.{well_at, left, left_all, left_step, left_none}
use Rattle.plan_numbers.specs.Numbers.{has}
use Rattle.plan_record.proofs.Total.{well_read}
use Rattle.plan.specs.Sets.{count_of, wells_of, plus_injectors}
use Rattle.plan.proofs.Passed.{with_injector, with_other}
use Rattle.plan.proofs.put_injectors.Goals as goal
use Rattle.plan.proofs.put_injectors.Goals.{then-w-eq-INJECTOR, else-w-eq-INJECTOR}

pub loop-i-init : goal.loop-i-init
loop-i-init c = λ k. rw (left_all (count_of c.args.records.now) c.args.records.now)

-- the well that is read is the one at the place
read : (c : goal.Joined-w-eq-INJECTOR) → c.read-w.result ≡ well_at c.loop-i.i c.args.records.now
read c = c.read-w.ensures ∙ well_read _ _ (omega arith)

-- what is left from the place on, and the set before it
step : (c : goal.Joined-w-eq-INJECTOR) (k : ℕ) →
    let l = c.loop-i in
    let a = c.args in
    (is_injector_of (c.read-w.result ∷ left (suc l.i) (count_of a.records.now) a.records.now) k || has l.t k)
    ≡ (is_injector_of (wells_of a.records.now) k || has a.t.now k)
step c k =
    let l = c.loop-i in
    let a = c.args in
    rw (read c) (rw (left_step (count_of a.records.now) a.records.now l.i (omega arith)) at (l.invariant k))

pub loop-i-preserved : goal.loop-i-preserved
unfolding injector
loop-i-preserved c =
    let a = c.args in
    let i = c.loop-i.i in
    let ws = left (suc i) (count_of a.records.now) a.records.now in
    let w = c.read-w.result in
    let t = c.loop-i.t in
    λ k. rw (add-one i) (elim c.if-w-eq-INJECTOR.branch [
      | then-w-eq-INJECTOR s ↦ with_injector w ws t k c.if-w-eq-INJECTOR.t (eq-eqb w.kind 2 (omega (arith, s.if-w-eq-INJECTOR.true))) (rw s.t-is s.put.ensures) ∙ step c k
      | else-w-eq-INJECTOR s ↦ rw s.t-is (with_other w ws t k (ne_eqb w.kind 2 (λ e. omega (arith, s.if-w-eq-INJECTOR.false))) ∙ step c k)
    ])

pub returns : goal.returns
unfolding plus_injectors is_injector_of some
returns c =
    let l = c.loop-i in
    let a = c.args in
    let e : l.i ≡ count_of a.records.now = omega arith in
    fun_ext (λ k. rw (left_none (count_of a.records.now) a.records.now) at (rw e at (l.invariant k)))

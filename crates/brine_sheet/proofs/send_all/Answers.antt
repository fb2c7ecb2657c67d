-- `brine_sheet::send_all` meets its contract. The loop's invariant: what is there and what the wells left send are the whole.
-- Assumes nothing.
use mathlib.Core.Path.{◌≡◌, refl, ◌∙◌}
use mathlib.Core.List.{List, ◌∷◌}
use Prim.Native.Nat.{ℕ, suc, ◌+◌, ◌<◌, ◌≤◌}
use native.Mathlib.Numerals.{add-one}
use native.Mathlib.Omega.{arith}
use Rattle.plan_definition.specs.declared.Well.{Well}
use Rattle.plan_definition.specs.Well.{wells}
use Rattle.plan_definition.specs.Rules.{used}
use Rattle.plan_definition.proofs.Places.{well_at, left, left_all, left_step, left_none, wells_at}
use Rattle.plan_record.proofs.Total.{well_read}
use Rattle.plan.specs.Sets.{count_of}
use Rattle.brine_sheet.specs.Sent.{Named, AllNamed, sent_to, Added, Takes}
use Rattle.brine_sheet.proofs.Sends.{sent_producer, sent_other}
use Rattle.brine_sheet.proofs.send_all.Goals as goal
use Rattle.brine_sheet.proofs.send_all.Goals.{then-w-eq-PRODUCER, else-w-eq-PRODUCER}

pub loop-i-init : goal.loop-i-init
loop-i-init c = record { long = refl; whole = λ q. rw (left_all (count_of c.args.records.now) c.args.records.now) }

-- what is there, what the well that is read sends and what those after it send are the whole
step : (n : ℕ) (sheet t : List ℕ) (i q x m : ℕ) {w : Well} → w ≡ well_at i sheet → i < n → x + sent_to t (left i n sheet) q ≡ m
    → x + sent_to t (w ∷ left (suc i) n sheet) q ≡ m
step n sheet t i q x m r h e = rw r (rw (left_step n sheet i h) at e)

-- a producer's links are few and lead to places of the list
named : (n : ℕ) (sheet t : List ℕ) (i m k : ℕ) {w : Well} → w ≡ well_at i sheet → i < n → AllNamed t m (wells n sheet) → w.kind ≡ 1 → k ≡ m
    → (w.count ≤ 4) × Named t k (used w)
unfolding AllNamed
named n sheet t i m k {w = w} r h names e f = rw f (names w ((wells_at n sheet w).1 (i, h, r)) e)

pub shared_ref_as_front-links : goal.shared_ref_as_front-links
shared_ref_as_front-links c =
    let e : c.read-w.result.kind ≡ 1 = omega (arith, c.if-w-eq-PRODUCER.true) in
    rw c.from.ensures (named _ _ _ _ _ _ (c.read-w.ensures ∙ well_read _ _ (omega arith)) (omega arith) c.requires.0 e c.loop-i.invariant.long).0

pub send-requires : goal.send-requires
unfolding Takes used
send-requires c =
    let l = c.loop-i in
    let e : c.read-w.result.kind ≡ 1 = omega (arith, c.if-w-eq-PRODUCER.true) in
    let r = c.read-w.ensures ∙ well_read c.args.records.now l.i (omega arith) in
    let ws = left (suc l.i) (count_of c.args.records.now) c.args.records.now in
    rw (c.from.ensures, c.from-then-w-eq-PRODUCER.ensures) (
      (named _ _ _ _ _ _ r (omega arith) c.requires.0 e l.invariant.long).1,
      λ q h. let whole = step _ _ _ _ q _ _ r (omega arith) (l.invariant.whole q) in
          omega (arith, c.requires.1 q (rw (← l.invariant.long) h), whole, sent_producer c.args.places.now c.read-w.result ws q e),
    )

pub loop-i-preserved : goal.loop-i-preserved
unfolding Added used
loop-i-preserved c =
    let a = c.args in
    let l = c.loop-i in
    let w = c.read-w.result in
    let ws = left (suc l.i) (count_of a.records.now) a.records.now in
    let whole = λ (q : ℕ). step _ _ _ _ q _ _ (c.read-w.ensures ∙ well_read _ _ (omega arith)) (omega arith) (l.invariant.whole q) in
    record {
      long = c.if-w-eq-PRODUCER.auto.intake ∙ l.invariant.long;
      whole = λ q. rw (add-one l.i) (elim c.if-w-eq-PRODUCER.branch [
        | then-w-eq-PRODUCER s ↦ rw s.intake-is (omega (
          arith,
          whole q,
          (rw (s.from.ensures, s.from-then-w-eq-PRODUCER.ensures) at (s.send.ensures q)),
          sent_producer a.places.now w ws q (omega (arith, s.if-w-eq-PRODUCER.true)),
        ))
        | else-w-eq-PRODUCER s ↦ rw s.intake-is (omega (arith, whole q, sent_other a.places.now w ws q (λ e. omega (arith, s.if-w-eq-PRODUCER.false))))
      ]);
    }

pub returns : goal.returns
unfolding Added sent_to
returns c =
    let l = c.loop-i in
    let a = c.args in
    let e : l.i ≡ (count_of a.records.now) = omega arith in
    λ q. omega (arith, rw (left_none (count_of a.records.now) a.records.now) at (rw e at (l.invariant.whole q)))

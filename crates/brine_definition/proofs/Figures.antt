-- Every figure of a batch that isn't refused fits its type: no intake, no total and no count passes 64 bits, and no spare 64 with a sign.
-- Assumes nothing.
use mathlib.Core.Path.{◌≡◌, refl}
use mathlib.Core.Bool.{Bool, true, false, ◌&&◌}
use mathlib.Core.List.{List, [], ◌∷◌, map}
use Prim.Native.Nat.{ℕ, ◌*◌, ◌^◌, ◌<◌, ◌≤◌}
use native.Mathlib.Omega.{arith}
use lib.IntN.{ℤ}
use lib.ListN.{length, get_or, drop}
use lib.Signed.{mag}
use mir.Syntax.{w64}
use mir.Val.{SFits}
use Rattle.definition.specs.Buffer.{Every}
use Rattle.definition.proofs.Every.{every_append, every_at}
use Rattle.plan_definition.specs.declared.Well.{Well}
use Rattle.plan_definition.specs.Some.{Among}
use Rattle.plan_definition.specs.Some.Among.{here, later}
use Rattle.plan_definition.specs.Well.{wells}
use Rattle.plan_definition.specs.Rules.{injector}
use Rattle.plan_definition.specs.Sound.{Sound, KeepsRate}
use Rattle.plan_definition.specs.Check.{sound}
use Rattle.plan_definition.proofs.Tested.{sound_tested}
use Rattle.plan_definition.proofs.Listed.{length-wells}
use Rattle.plan_definition.proofs.Exactly.{equal}
use Rattle.plan_definition.proofs.Struck.{of_kind}
use Rattle.brine_definition.specs.Count.{sum}
use Rattle.brine_definition.specs.Page.{Row, row_of, row_when, rows, intake_from, row_in}
use Rattle.brine_definition.specs.Statement.{batch, page, spares, below_zero, statement_of}
use Rattle.brine_definition.specs.Said.{no_row, AnswerFits}
use Rattle.brine_definition.proofs.Sums.{count_most, length-spares}
use Rattle.brine_definition.proofs.Sound.{length-batch, length-page}
use Rattle.brine_definition.proofs.Bounds.{intake-most}
use Rattle.brine_definition.proofs.Conserved.{total-most}
use Rattle.brine_definition.proofs.Spare.{spare-within}
use Rattle.brine_definition.proofs.Outcomes.{given}
use Rattle.brine_definition.proofs.Totals.{each_counted}
use Rattle.brine_definition.proofs.Refused.{none_refused}

-- the answer's figures within 64 bits
-- both figures of a row are within a bound
abbrev Within : ℕ → Row → Type 0
Within m r = (r.intake ≤ m) × (mag r.spare ≤ m)

among-length : {A : Type 0} {a : A} {l : List A} → Among a l → 1 ≤ length l
among-length here = omega arith
among-length (later m) = omega arith

-- as those of a sheet are, within 100,000,000 for each record
module _ (ws : List Well) (m : ℕ) (h : 100000000 * length ws ≤ m) where
  well_within : (w : Well) → Among w ws → (s i : Bool) → sound ws ≡ s → injector w ≡ i → Within m (row_when (s && i) (row_of ws w))
  unfolding row_when row_of injector Sound KeepsRate
  well_within w a true true e k =
      let keeps = (sound_tested ws).0 e in
      let most = intake-most ws keeps w.number in
      let rate = (keeps w a (of_kind w (λ z. omega (arith, (equal w.kind 2).0 k)))).rate in
      let one = among-length a in
      (omega arith, spare-within w.rate (intake_from ws w.number) (omega arith) (omega arith))
  well_within w a true false e k = (omega arith, omega arith)
  well_within w a false i e k = (omega arith, omega arith)

  rows-within : Every (Within m) (rows ws)
  unfolding rows
  rows-within = go ws (λ w a. a)
    where
      go : (vs : List Well) → ((w : Well) → Among w vs → Among w ws)
          → Every (Within m) (map (row_in ws) vs)
      go [] i = tt
      go (v ∷ vs) i = (well_within v (i v here) (sound ws) (injector v) refl refl, go vs (λ w a. i w (later a)))

page-within : (m : ℕ) (counts sheets : List ℕ) → 100000000 * sum counts ≤ m → Every (Within m) (page (batch counts sheets))
unfolding batch page sum
page-within m [] sheets h = tt
page-within m (n ∷ ns) sheets h =
    let rest = drop (40 * n) sheets in
    every_append (Within m) (rows (wells n sheets)) (page (batch ns rest))
    (rows-within (wells n sheets) m (omega (arith, length-wells n sheets))) (page-within m ns rest (omega arith))

-- and there are at most 65,536 records
sum-most : (m : ℕ) (l : List ℕ) → ((n : ℕ) → Among n l → n ≤ m) → sum l ≤ m * length l
unfolding sum
sum-most m [] h = omega arith
sum-most m (n ∷ l) h = omega (arith, h n here, sum-most m l (λ k a. h k (later a)))

module _ (sheets counts intake : List ℕ) (spare : List ℤ) (e : given sheets counts intake spare ≡ 0) where
  pub records-most : sum counts ≤ 65536
  records-most =
      let kept = (none_refused (length sheets) counts (length intake) (length spare)).0 e in
      omega (arith, sum-most 1024 counts kept.1.0.0, kept.0)

  row_fits : (p : ℕ) → Within 6553600000000 (get_or (page (batch counts sheets)) p no_row)
  row_fits =
      every_at (Within 6553600000000) (page (batch counts sheets)) no_row (omega arith, omega arith)
      (page-within 6553600000000 counts sheets (omega (arith, records-most)))

  -- each place of the page
  pub intake_fits : (p : ℕ) → (get_or (page (batch counts sheets)) p no_row).intake < 2 ^ 64
  intake_fits p = omega (arith, (row_fits p).0)

  pub spare_fits : (p : ℕ) → SFits w64 (get_or (page (batch counts sheets)) p no_row).spare
  spare_fits p = record { sfits = omega (arith, (row_fits p).1) }

  -- and the answer
  pub answer_fits : AnswerFits (statement_of (batch counts sheets))
  unfolding statement_of
  answer_fits =
      let wss = batch counts sheets in
      let kept = (none_refused (length sheets) counts (length intake) (length spare)).0 e in
      record {
        sound = omega (arith, each_counted wss, length-batch counts sheets, kept.0);
        faulted = omega (arith, each_counted wss, length-batch counts sheets, kept.0);
        intake = omega (arith, total-most counts sheets, records-most);
        overloaded = omega (arith, count_most below_zero (spares (page wss)), length-spares (page wss), length-page counts sheets, records-most);
      }

-- Where a row stands: record i of sheet k has place (records of the sheets before) + i, in the page and in both lists; a struck record has zeros there.
-- Assumes nothing.
use mathlib.Core.Path.{◌≡◌, ap, ◌∙◌}
use mathlib.Core.Bool.{true, and-false}
use mathlib.Core.List.{List, [], ◌∷◌, ◌++◌, map}
use Prim.Native.Nat.{ℕ, zero, suc, ◌+◌, ◌*◌, ◌<◌}
use native.Mathlib.Omega.{arith}
use lib.IntN.{ℤ, pos}
use lib.ListN.{length, get_or, take, drop, length-map, get_or-append, get_or-map}
use lib.Seq.{drop-drop, get_or-append-add}
use Rattle.sheet_definition.specs.Struck.{all_zero}
use Rattle.plan_definition.specs.Well.{wells}
use Rattle.plan_definition.specs.Rules.{injector}
use Rattle.plan_definition.specs.Check.{sound}
use Rattle.plan_definition.proofs.Struck.{nothing-set, struck_by_bytes}
use Rattle.plan_definition.proofs.Places.{well_at}
use Rattle.plan_definition.proofs.Listed.{length-wells, each_at}
use Rattle.brine_definition.specs.Count.{sum}
use Rattle.brine_definition.specs.Page.{Row, row_when, rows, row_in}
use Rattle.brine_definition.specs.Statement.{batch, page, intakes, spares, brine_outcome}
use Rattle.brine_definition.specs.Said.{before, sheet_at, row_at, no_row}
use Rattle.brine_definition.proofs.Sound.{length-rows, length-page}
use Rattle.brine_definition.proofs.Outcomes.{given, done}

-- the row of a well
sheet-row : (n i : ℕ) (sheet : List ℕ) → i < n → get_or (rows (wells n sheet)) i no_row ≡ row_at n i sheet
unfolding rows
sheet-row n i sheet h = each_at n sheet (row_in (wells n sheet)) no_row i h

-- that of a struck record is zeros
no_row_lem : (n i : ℕ) (sheet : List ℕ) → all_zero (take 40 (drop (40 * i) sheet)) ≡ true → row_at n i sheet ≡ no_row
unfolding row_when injector
no_row_lem n i sheet z = rw (((nothing-set (well_at i sheet)).0 (struck_by_bytes i _ ∙ z)).1.0, and-false (sound (wells n sheet)))

-- the row of record i of sheet k
pub row_at_lem : (counts sheets : List ℕ) (k i : ℕ) → k < length counts → i < get_or counts k 0
    → get_or (page (batch counts sheets)) (before counts k + i) no_row ≡ row_at (get_or counts k 0) i (sheet_at counts sheets k)
unfolding page batch sum
row_at_lem [] sheets k i h l = absurd (omega arith)
row_at_lem (n ∷ ns) sheets zero i h l =
    let rest = page (batch ns (drop (40 * n) sheets)) in
    let e : 0 + i ≡ i = omega arith in
    rw e
    (get_or-append (rows (wells n sheets)) rest no_row i (omega (arith, length-rows (wells n sheets), length-wells n sheets))
    ∙ sheet-row n i sheets l)
row_at_lem (n ∷ ns) sheets (suc k) i h l =
    let rest = drop (40 * n) sheets in
    let e : n + before ns k + i ≡ length (rows (wells n sheets)) + (before ns k + i) =
    omega (arith, length-rows (wells n sheets), length-wells n sheets) in
    let f : 40 * (n + before ns k) ≡ 40 * n + 40 * before ns k = omega arith in
    rw (e, f, ← drop-drop (40 * before ns k) (40 * n) sheets)
    (get_or-append-add (rows (wells n sheets)) (page (batch ns rest)) (before ns k + i) no_row ∙ row_at_lem ns rest k i (omega arith) l)

-- which lies within the records of the batch
within : (counts : List ℕ) (k i : ℕ) → k < length counts → i < get_or counts k 0 → before counts k + i < sum counts
unfolding sum
within [] k i h l = absurd (omega arith)
within (n ∷ ns) zero i h l = omega arith
within (n ∷ ns) (suc k) i h l = omega (arith, within ns k i (omega arith) l)

-- so a done call leaves the row's figures there in both lists
figure_at : {B : Type 0} (f : Row → B) (rs : List Row) (rest : List B) (p : ℕ) → p < length rs
    → get_or (map f rs ++ rest) p (f no_row) ≡ f (get_or rs p no_row)
figure_at f rs rest p h = get_or-append (map f rs) rest (f no_row) p (omega (arith, length-map rs f)) ∙ get_or-map f rs p no_row

module _ (sheets counts intake : List ℕ) (spare : List ℤ) (e : given sheets counts intake spare ≡ 0) (k i : ℕ) (h : k < length counts)
    (l : i < get_or counts k 0) where
  in_page : before counts k + i < length (page (batch counts sheets))
  in_page = omega (arith, length-page counts sheets, within counts k i h l)

  pub intake_at : get_or (brine_outcome sheets counts intake spare).intake (before counts k + i) 0
      ≡ (row_at (get_or counts k 0) i (sheet_at counts sheets k)).intake
  unfolding intakes
  intake_at =
      rw (done sheets counts intake spare e, ← row_at_lem counts sheets k i h l)
      (figure_at (λ r. r.intake) (page (batch counts sheets)) (drop (sum counts) intake) (before counts k + i) in_page)

  pub spare_at : get_or (brine_outcome sheets counts intake spare).spare (before counts k + i) (pos 0)
      ≡ (row_at (get_or counts k 0) i (sheet_at counts sheets k)).spare
  unfolding spares
  spare_at =
      rw (done sheets counts intake spare e, ← row_at_lem counts sheets k i h l)
      (figure_at (λ r. r.spare) (page (batch counts sheets)) (drop (sum counts) spare) (before counts k + i) in_page)

  -- "it has 0 in both lists"
  pub struck-row : all_zero (take 40 (drop (40 * i) (sheet_at counts sheets k))) ≡ true
      → (get_or (brine_outcome sheets counts intake spare).intake (before counts k + i) 0 ≡ 0)
      × (get_or (brine_outcome sheets counts intake spare).spare (before counts k + i) (pos 0) ≡ pos 0)
  struck-row z =
      let r = no_row_lem (get_or counts k 0) i (sheet_at counts sheets k) z in
      (intake_at ∙ ap (λ (r : Row). r.intake) r, spare_at ∙ ap (λ (r : Row). r.spare) r)

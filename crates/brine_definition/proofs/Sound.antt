-- Every row of a sheet that is not sound is zeros; how long page and lists are; and each sheet begins where the one before it ends.
-- Assumes nothing.
use mathlib.Core.Path.{◌≡◌, refl, ap}
use mathlib.Core.Bool.{false}
use mathlib.Core.List.{List, [], ◌∷◌, map}
use Prim.Native.Nat.{ℕ, suc, ◌*◌}
use lib.IntN.{pos}
use lib.ListN.{length, drop, replicate, length-append, length-map}
use Rattle.plan_definition.specs.declared.Well.{Well}
use Rattle.plan_definition.specs.Well.{wells}
use Rattle.plan_definition.specs.Check.{sound}
use Rattle.plan_definition.proofs.Listed.{length-wells}
use Rattle.brine_definition.specs.Count.{sum}
use Rattle.brine_definition.specs.Page.{row_when, row_in, rows}
use Rattle.brine_definition.specs.Statement.{batch, page, intakes, spares}
use Rattle.brine_definition.specs.Said.{no_row}
use Rattle.brine_definition.proofs.Sums.{map_replicate}

module _ (ws : List Well) (faulted : sound ws ≡ false) where
  -- any other has only rows of zeros
  pub faulted-rows : rows ws ≡ replicate (length ws) no_row
  unfolding rows row_when
  faulted-rows = go ws
    where
      go : (vs : List Well) → map (row_in ws) vs ≡ replicate (length vs) no_row
      go [] = refl
      go (v ∷ vs) = rw (faulted, go vs)

  pub faulted-intakes : intakes (rows ws) ≡ replicate (length ws) 0
  unfolding intakes
  faulted-intakes = rw faulted-rows (map_replicate (λ r. r.intake) (length ws) no_row)

  pub faulted-spares : spares (rows ws) ≡ replicate (length ws) (pos 0)
  unfolding spares
  faulted-spares = rw faulted-rows (map_replicate (λ r. r.spare) (length ws) no_row)

-- a sheet has a row for each record
pub length-rows : (ws : List Well) → length (rows ws) ≡ length ws
unfolding rows
length-rows ws = length-map ws _

-- and the page one for each of the batch
pub length-page : (counts sheets : List ℕ) → length (page (batch counts sheets)) ≡ sum counts
unfolding page batch sum
length-page [] sheets = refl
length-page (n ∷ ns) sheets = simp (length-append, length-rows, length-wells, length-page ns)

pub length-batch : (counts sheets : List ℕ) → length (batch counts sheets) ≡ length counts
unfolding batch
length-batch [] sheets = refl
length-batch (n ∷ ns) sheets = ap suc (length-batch ns _)

-- each sheet begins where the one before it ends, faulted or not
pub next-sheet : (n : ℕ) (ns sheets : List ℕ) → batch (n ∷ ns) sheets ≡ wells n sheets ∷ batch ns (drop (40 * n) sheets)
unfolding batch
next-sheet n ns sheets = refl

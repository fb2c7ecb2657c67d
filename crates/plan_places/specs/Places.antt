-- The places of wells by their numbers: entry k is the place of the well that has number k.
use Rattle.std.specs.Prelude.{ℕ, zero, suc, ◌%◌, List, set}
use Rattle.plan_record.specs.Total.{well_in}

-- the places of a sheet's first n records put into the entries
unfoldable pub placed : (sheet : List ℕ) → (n : ℕ) → List ℕ → List ℕ
placed sheet zero t = t
placed sheet (suc i) t = set (placed sheet i t) (well_in sheet i).number (i % 65536)

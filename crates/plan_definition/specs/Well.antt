-- The wells of a sheet: document 02, Q-1, "In each record". A record is 40 bytes; of the note, bytes 24 to 39, only whether it is zeros is read.
use Rattle.std.specs.Prelude.{ℕ, suc, ◌+◌, ◌*◌, not, List, [], ◌∷◌, get_or, drop}
use Rattle.sheet_definition.specs.Struck.{all_zero}
use Rattle.plan_definition.specs.declared.Link.{Link}
use Rattle.plan_definition.specs.declared.Well.{Well}
use Rattle.sheet_definition.specs.Sheet.{cut}

-- "High byte first": two bytes from byte i on, and four
unfoldable pub two : List ℕ → (i : ℕ) → ℕ
two x i = 256 * get_or x i 0 + get_or x (i + 1) 0

unfoldable pub four : List ℕ → (i : ℕ) → ℕ
four x i = 65536 * two x i + two x (i + 2)

-- "each an injector number and a share in thousandths, two bytes each"
unfoldable pub link_at : List ℕ → (i : ℕ) → Link
link_at x i = record { injector = two x i; share = two x (i + 2) }

-- a link of zeros
abbrev pub no_link : Link
no_link = record { injector = 0; share = 0 }

-- "well number (bytes 0-1 ..), kind (byte 2 ..), link count (byte 3), rate in tonnes a day (4-7 ..), four links (8-23 ..)"
unfoldable pub well_of : (place : ℕ) → List ℕ → Well
well_of place x =
    record {
      place = place;
      number = two x 0;
      kind = get_or x 2 0;
      count = get_or x 3 0;
      rate = four x 4;
      links = link_at x 8 ∷ link_at x 12 ∷ link_at x 16 ∷ link_at x 20 ∷ [];
      noted = not (all_zero (drop 24 x));
    }

-- records as wells, the first of them at a place
unfoldable pub wells_from : (place : ℕ) → List (List ℕ) → List Well
wells_from place [] = []
wells_from place (x ∷ xs) = well_of place x ∷ wells_from (suc place) xs

-- the wells of a sheet of n records, in the order of their places: every record has its entry, a struck one too
unfoldable pub wells : (n : ℕ) → (sheet : List ℕ) → List Well
wells n sheet = wells_from 0 (cut n sheet)

-- Struck records, and what closing up makes of a list of records: document 02, Q-11. A record is told by its 40 bytes alone.
use Rattle.std.specs.Prelude.{ℕ, suc, Bool, true, ◌&&◌, List, [], ◌∷◌, eqb}
use Rattle.definition.specs.Refusal.{pick}

-- "a struck record: all 40 bytes zero"
unfoldable pub all_zero : List ℕ → Bool
all_zero [] = true
all_zero (b ∷ x) = eqb b 0 && all_zero x

-- "removes them, keeps the rest in order"
unfoldable pub standing : List (List ℕ) → List (List ℕ)
standing [] = []
standing (x ∷ xs) = pick (all_zero x) (standing xs) (x ∷ standing xs)

-- "writes for each new place the old one", of records from a place on
unfoldable pub old_places : (place : ℕ) → List (List ℕ) → List ℕ
old_places p [] = []
old_places p (x ∷ xs) = pick (all_zero x) (old_places (suc p) xs) (p ∷ old_places (suc p) xs)

-- "the first struck place"; where none is struck the place past the last, whose group's mark is "the last mark"
unfoldable pub first_struck : List (List ℕ) → ℕ
first_struck [] = 0
first_struck (x ∷ xs) = pick (all_zero x) 0 (suc (first_struck xs))

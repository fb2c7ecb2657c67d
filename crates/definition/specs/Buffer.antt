-- What a call leaves in a buffer, some elements written at a place, the others as they were; whether two buffers hold the same, pieces joined, and
-- a property of every element of a list.
use Rattle.std.specs.Prelude.{ℕ, ◌+◌, List, [], ◌∷◌, ◌++◌, Bool, true, false, ◌&&◌, eqb, length, take, drop}

-- p written from place i on
unfoldable pub overwrite_at : ℕ → List ℕ → List ℕ → List ℕ
overwrite_at i p l = take i l ++ p ++ drop (i + length p) l

-- p written in front: document 01, "a digest stands in the first bytes of the output buffer and the bytes after it are untouched"
abbrev pub overwrite : List ℕ → List ℕ → List ℕ
overwrite = overwrite_at 0

-- the same elements, and as many
abbrev pub same : List ℕ → List ℕ → Bool
same [] [] = true
same [] (y ∷ ys) = false
same (x ∷ xs) [] = false
same (x ∷ xs) (y ∷ ys) = eqb x y && same xs ys

-- the pieces one after the other
unfoldable pub joined : List (List ℕ) → List ℕ
joined [] = []
joined (p ∷ ps) = p ++ joined ps

-- a property of every element of a list
abbrev pub Every : {A : Type 0} → (A → Type 0) → List A → Type 0
Every P [] = Unit
Every P (a ∷ l) = P a × Every P l

-- A property of every element of a list, and what keeps it.
-- Assumes nothing.
use mathlib.Core.List.{List, [], ◌∷◌, ◌++◌}
use Prim.Native.Nat.{ℕ, zero, suc}
use lib.ListN.{get_or, take, set}
use Rattle.definition.specs.Buffer.{Every}

module _ {A : Type 0} (P : A → Type 0) where
  -- kept by the front of a list
  pub every_take : (l : List A) (n : ℕ) → Every P l → Every P (take n l)
  every_take l zero h = tt
  every_take [] (suc n) h = tt
  every_take (a ∷ l) (suc n) h = (h.0, every_take l n h.1)

  -- by two lists, one after the other
  pub every_append : (l m : List A) → Every P l → Every P m → Every P (l ++ m)
  every_append [] m h k = k
  every_append (a ∷ l) m h k = (h.0, every_append l m h.1 k)

  -- and by an element replaced
  pub every_set : (l : List A) (n : ℕ) (x : A) → P x → Every P l → Every P (set l n x)
  every_set [] n x p h = tt
  every_set (a ∷ l) zero x p h = (p, h.1)
  every_set (a ∷ l) (suc n) x p h = (h.0, every_set l n x p h.1)

  -- and so of the element at each place, where it holds of what stands for no element
  pub every_at : (l : List A) (d : A) → P d → Every P l → (i : ℕ) → P (get_or l i d)
  every_at [] d p h zero = p
  every_at [] d p h (suc i) = p
  every_at (a ∷ l) d p h zero = h.0
  every_at (a ∷ l) d p h (suc i) = every_at l d p h.1 i

-- what follows from it holds of every element too
pub every_so : {A : Type 0} (P Q : A → Type 0) (l : List A) → ((a : A) → P a → Q a) → Every P l → Every Q l
every_so P Q [] f h = tt
every_so P Q (a ∷ l) f h = (f a h.0, every_so P Q l f h.1)

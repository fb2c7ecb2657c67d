-- The sum of numbers, and how many elements of a list pass a test.
use Rattle.std.specs.Prelude.{ℕ, ◌+◌, Bool, List, [], ◌∷◌}
use Rattle.definition.specs.Refusal.{pick}

unfoldable pub sum : List ℕ → ℕ
sum [] = 0
sum (a ∷ l) = a + sum l

module _ {A : Type 0} where
  unfoldable pub count : (A → Bool) → List A → ℕ
  count f [] = 0
  count f (a ∷ l) = pick (f a) 1 0 + count f l

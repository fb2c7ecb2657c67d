-- Sums and counts: of lists one after another, of zeros, what bounds them, and of a page by its sheets.
-- Assumes nothing.
use mathlib.Core.Path.{◌≡◌, refl}
use mathlib.Core.Bool.{Bool, true, false, not}
use mathlib.Core.List.{List, [], ◌∷◌, ◌++◌, map, map-append}
use Prim.Native.Nat.{ℕ, zero, suc, ◌+◌, ◌≤◌}
use native.Mathlib.Omega.{arith}
use lib.IntN.{ℤ}
use lib.ListN.{length, get_or, replicate, length-map}
use Rattle.definition.specs.Refusal.{pick}
use Rattle.plan_definition.specs.declared.Well.{Well}
use Rattle.brine_definition.specs.Count.{sum, count}
use Rattle.brine_definition.specs.Page.{Row, rows}
use Rattle.brine_definition.specs.Statement.{page, intakes, spares}

-- of two lists, one after the other
pub sum-append : (l m : List ℕ) → sum (l ++ m) ≡ sum l + sum m
unfolding sum
sum-append [] m = omega arith
sum-append (a ∷ l) m = omega (arith, sum-append l m)

pub intakes-append : (rs ss : List Row) → intakes (rs ++ ss) ≡ intakes rs ++ intakes ss
unfolding intakes
intakes-append rs ss = map-append (λ r. r.intake) rs ss

pub spares-append : (rs ss : List Row) → spares (rs ++ ss) ≡ spares rs ++ spares ss
unfolding spares
spares-append rs ss = map-append (λ r. r.spare) rs ss

pub length-intakes : (rs : List Row) → length (intakes rs) ≡ length rs
unfolding intakes
length-intakes rs = length-map rs (λ r. r.intake)

pub length-spares : (rs : List Row) → length (spares rs) ≡ length rs
unfolding spares
length-spares rs = length-map rs (λ r. r.spare)

-- a number that counts only where a test passes is within a bound if it is so there
pub pick-most : (b : Bool) (a m : ℕ) → (b ≡ true → a ≤ m) → pick b a 0 ≤ m
unfolding pick
pick-most true a m h = h refl
pick-most false a m h = omega arith

-- nothing is nothing, let in or not
pub pick-zero : (b : Bool) → pick {A = ℕ} b 0 0 ≡ 0
unfolding pick
pick-zero true = refl
pick-zero false = refl

-- zeros add up to nothing
pub sum_zeros : (n : ℕ) → sum (replicate n 0) ≡ 0
unfolding sum
sum_zeros zero = refl
sum_zeros (suc n) = omega (arith, sum_zeros n)

-- an element is at most the sum
pub at_most_sum : (l : List ℕ) (i : ℕ) → get_or l i 0 ≤ sum l
unfolding sum
at_most_sum [] i = omega arith
at_most_sum (a ∷ l) zero = omega arith
at_most_sum (a ∷ l) (suc i) = omega (arith, at_most_sum l i)

pub map_replicate : {A B : Type 0} (f : A → B) (n : ℕ) (a : A) → map f (replicate n a) ≡ replicate n (f a)
map_replicate f zero a = refl
map_replicate f (suc n) a = rw (map_replicate f n a)

module _ {A : Type 0} where
  pub count-append : (f : A → Bool) (l m : List A) → count f (l ++ m) ≡ count f l + count f m
  unfolding count
  count-append f [] m = omega arith
  count-append f (a ∷ l) m = omega (arith, count-append f l m)

  -- no more pass than there are
  pub count_most : (f : A → Bool) (l : List A) → count f l ≤ length l
  unfolding count
  count_most f [] = omega arith
  count_most f (a ∷ l) = omega (arith, count_most f l, pick-most (f a) 1 1 (λ e. omega arith))

  -- each element passes a test or fails it
  pub count_not : (f : A → Bool) (l : List A) → count f l + count (λ a. not (f a)) l ≡ length l
  unfolding count pick
  count_not f [] = refl
  count_not f (a ∷ l) = omega (arith, count_not f l, one (f a))
    where
      one : (b : Bool) → pick b 1 0 + pick (not b) 1 0 ≡ 1
      one true = refl
      one false = refl

-- the figures of a page are those of its sheets
module _ (ws : List Well) (wss : List (List Well)) where
  pub page-intakes : sum (intakes (page (ws ∷ wss))) ≡ sum (intakes (rows ws)) + sum (intakes (page wss))
  unfolding page
  page-intakes = rw (intakes-append (rows ws) (page wss)) (sum-append (intakes (rows ws)) (intakes (page wss)))

  pub page-spares : (f : ℤ → Bool) → count f (spares (page (ws ∷ wss))) ≡ count f (spares (rows ws)) + count f (spares (page wss))
  unfolding page
  page-spares f = rw (spares-append (rows ws) (page wss)) (count-append f (spares (rows ws)) (spares (page wss)))

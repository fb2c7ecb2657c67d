-- Struck records taken out of a list: how many stand, which, where they stood, and what stays in front of the first that is struck.
-- Assumes nothing.
use mathlib.Core.Path.{◌≡◌, refl, ap}
use mathlib.Core.Bool.{Bool, true, false}
use mathlib.Core.List.{List, [], ◌∷◌, ◌++◌}
use Prim.Native.Nat.{ℕ, zero, suc, ◌+◌, ◌<◌, ◌≤◌}
use native.Mathlib.Omega.{arith}
use lib.ListN.{length, take, get_or}
use borrow.Author.Tests.{lt-ltb}
use Rattle.definition.specs.Buffer.{Every}
use Rattle.definition.specs.Refusal.{pick, rising}
use Rattle.definition.proofs.Every.{every_so}
use Rattle.sheet_definition.specs.Struck.{all_zero, standing, old_places, first_struck}
use Rattle.sheet_definition.specs.Said.{Stand, OldPlaces}

-- what holds of no records, goes on over a struck one and goes on with one that stands, holds of any records and those of them that stand
by_standing : (P : List (List ℕ) → List (List ℕ) → Type 0) → P [] []
    → ((x : List ℕ) (xs ys : List (List ℕ)) → all_zero x ≡ true → P xs ys → P (x ∷ xs) ys)
    → ((x : List ℕ) (xs ys : List (List ℕ)) → all_zero x ≡ false → P xs ys → P (x ∷ xs) (x ∷ ys))
    → (rs : List (List ℕ)) → P rs (standing rs)
unfolding standing pick
by_standing P a f g [] = a
by_standing P a f g (x ∷ xs) = go (all_zero x) refl (by_standing P a f g xs)
  where
    go : (b : Bool) → all_zero x ≡ b → P xs (standing xs) → P (x ∷ xs) (pick b (standing xs) (x ∷ standing xs))
    go true e i = f x xs (standing xs) e i
    go false e i = g x xs (standing xs) e i

-- no more stand than there were, and none is struck in front of the first that is
pub fewer : (rs : List (List ℕ)) → length (standing rs) ≤ length rs
fewer = by_standing (λ xs ys. length ys ≤ length xs) (omega arith) (λ x xs ys e i. omega arith) (λ x xs ys e i. omega arith)

pub first_stands : (rs : List (List ℕ)) → first_struck rs ≤ length (standing rs)
unfolding first_struck pick
first_stands = by_standing (λ xs ys. first_struck xs ≤ length ys) (omega arith) (λ x xs ys e i. rw e (omega arith)) (λ x xs ys e i. rw e (omega arith))

pub front-stays : (rs : List (List ℕ)) → take (first_struck rs) (standing rs) ≡ take (first_struck rs) rs
unfolding first_struck pick
front-stays =
    by_standing (λ xs ys. take (first_struck xs) ys ≡ take (first_struck xs) xs) refl (λ x xs ys e i. rw e) (λ x xs ys e i. rw e (ap (λ (l : List (List ℕ)). x ∷ l) i))

-- what holds of every record holds of those that stand, and those stand
pub every_standing : (P : List ℕ → Type 0) (rs : List (List ℕ)) → Every P rs → Every P (standing rs)
every_standing P = by_standing (λ xs ys. Every P xs → Every P ys) (λ h. h) (λ x xs ys e i h. i h.1) (λ x xs ys e i h. (h.0, i h.1))

pub all_stand : (rs : List (List ℕ)) → Stand (standing rs)
all_stand = by_standing (λ xs ys. Stand ys) tt (λ x xs ys e i. i) (λ x xs ys e i. (e, i))

-- where all stand none goes, and each keeps its place
pub none_goes : (rs : List (List ℕ)) → Stand rs → (standing rs ≡ rs) × (first_struck rs ≡ length rs)
unfolding standing first_struck pick
none_goes [] h = (refl, refl)
none_goes (x ∷ xs) h = let i = none_goes xs h.1 in rw h.0 (ap (λ (l : List (List ℕ)). x ∷ l) i.0, ap suc i.1)

pub same_places : (p : ℕ) (rs : List (List ℕ)) → Stand rs → (k : ℕ) → k < length rs → get_or (old_places p rs) k 0 ≡ p + k
unfolding old_places pick
same_places p [] h k l = absurd (omega arith)
same_places p (x ∷ xs) h zero l = rw h.0 (omega arith)
same_places p (x ∷ xs) h (suc k) l = rw h.0 (omega (arith, same_places (suc p) xs h.1 k (omega arith)))

-- one record more behind others
pub standing_one : (xs : List (List ℕ)) (y : List ℕ) → standing (xs ++ y ∷ []) ≡ standing xs ++ pick (all_zero y) [] (y ∷ [])
unfolding standing pick
standing_one xs y =
    by_standing (λ xs ys. standing (xs ++ y ∷ []) ≡ ys ++ pick (all_zero y) [] (y ∷ [])) refl
    (λ x xs ys e i. rw e i) (λ x xs ys e i. rw e (ap (λ (l : List (List ℕ)). x ∷ l) i)) xs

pub places_one : (p : ℕ) (xs : List (List ℕ)) (y : List ℕ) → old_places p (xs ++ y ∷ []) ≡ old_places p xs ++ pick (all_zero y) [] ((p + length xs) ∷ [])
unfolding old_places pick
places_one p xs y =
    by_standing (λ xs ys. (p : ℕ) → old_places p (xs ++ y ∷ []) ≡ old_places p xs ++ pick (all_zero y) [] ((p + length xs) ∷ []))
    (λ p. let e : p + 0 ≡ p = omega arith in rw e)
    (λ x xs ys e i p. let n : p + suc (length xs) ≡ suc p + length xs = omega arith in rw (e, n) (i (suc p)))
    (λ x xs ys e i p. let n : p + suc (length xs) ≡ suc p + length xs = omega arith in rw (e, n) (ap (λ (l : List ℕ). p ∷ l) (i (suc p)))) xs p

-- an old place for each that stands
pub one_each : (p : ℕ) (rs : List (List ℕ)) → length (old_places p rs) ≡ length (standing rs)
unfolding old_places pick
one_each p rs =
    by_standing (λ xs ys. (p : ℕ) → length (old_places p xs) ≡ length ys) (λ p. refl) (λ x xs ys e i p. rw e (i (suc p))) (λ x xs ys e i p. rw e (ap suc (i (suc p)))) rs p

-- they rise, each from the place of its record on
rise-on : (p : ℕ) (ps : List ℕ) → Every (λ q. p < q) ps → rising ps ≡ true → rising (p ∷ ps) ≡ true
unfolding rising
rise-on p [] h e = refl
rise-on p (r ∷ ps) h e = rw (lt-ltb p r h.0) e

rises : (rs : List (List ℕ)) (p : ℕ) → (rising (old_places p rs) ≡ true) × Every (λ q. p ≤ q) (old_places p rs)
unfolding rising old_places pick
rises =
    by_standing (λ xs ys. (p : ℕ) → (rising (old_places p xs) ≡ true) × Every (λ q. p ≤ q) (old_places p xs)) (λ p. (refl, tt))
    (λ x xs ys e i p. rw e ((i (suc p)).0, on p (old_places (suc p) xs) (i (suc p)).1))
    (λ x xs ys e i p. rw e (rise-on p (old_places (suc p) xs) (i (suc p)).1 (i (suc p)).0, (omega arith, on p (old_places (suc p) xs) (i (suc p)).1)))
  where
    on : (p : ℕ) (ps : List ℕ) → Every (λ q. p < q) ps → Every (λ q. p ≤ q) ps
    on p ps = every_so _ _ ps (λ q h. omega arith)

-- each is the old place, d past the first, of the record that now stands there, which isn't struck
abbrev Stood : (p : ℕ) (rs : List (List ℕ)) (place : ℕ) (record' : List ℕ) → Type 0
Stood p rs place x = (d : ℕ) × (place ≡ p + d) × (d < length rs) × (x ≡ get_or rs d []) × (all_zero (get_or rs d []) ≡ false)

-- one record further on
later : (x : List ℕ) (xs : List (List ℕ)) (p place : ℕ) (y : List ℕ) → Stood (suc p) xs place y → Stood p (x ∷ xs) place y
later x xs p place y s = (suc s.0, omega (arith, s.1), omega (arith, s.2), s.3, s.4)

stood : (rs : List (List ℕ)) (p k : ℕ) → k < length (standing rs) → Stood p rs (get_or (old_places p rs) k 0) (get_or (standing rs) k [])
unfolding old_places pick
stood =
    by_standing (λ xs ys. (p k : ℕ) → k < length ys → Stood p xs (get_or (old_places p xs) k 0) (get_or ys k [])) (λ p k h. absurd (omega arith))
    (λ x xs ys e i p k h. rw e (later x xs p _ _ (i (suc p) k h))) stands
  where
    stands : (x : List ℕ) (xs ys : List (List ℕ)) → all_zero x ≡ false
        → ((p k : ℕ) → k < length ys → Stood p xs (get_or (old_places p xs) k 0) (get_or ys k []))
        → (p k : ℕ) → k < length (x ∷ ys) → Stood p (x ∷ xs) (get_or (old_places p (x ∷ xs)) k 0) (get_or (x ∷ ys) k [])
    stands x xs ys e i p zero h = rw e (0, omega arith, omega arith, refl, e)
    stands x xs ys e i p (suc k) h = rw e (later x xs p _ _ (i (suc p) k (omega arith)))

-- and none that stands is left out
found : (p : ℕ) (rs : List (List ℕ)) (d : ℕ) → d < length rs → all_zero (get_or rs d []) ≡ false
    → (k : ℕ) × (k < length (standing rs)) × (get_or (old_places p rs) k 0 ≡ p + d)
unfolding standing old_places pick
found p [] d h e = absurd (omega arith)
found p (x ∷ xs) zero h e = rw e (0, omega arith, omega arith)
found p (x ∷ xs) (suc d) h e = go (all_zero x) (found (suc p) xs d (omega arith) e)
  where
    go : (b : Bool) → (k : ℕ) × (k < length (standing xs)) × (get_or (old_places (suc p) xs) k 0 ≡ suc p + d)
        → (k : ℕ) × (k < length (pick b (standing xs) (x ∷ standing xs))) × (get_or (pick b (old_places (suc p) xs) (p ∷ old_places (suc p) xs)) k 0 ≡ p + suc d)
    go true f = (f.0, f.1, omega (arith, f.2))
    go false f = (suc f.0, omega (arith, f.1), omega (arith, f.2))

-- the list that closing up writes
pub old_places_lem : (rs : List (List ℕ)) → OldPlaces rs (old_places 0 rs)
old_places_lem rs =
    record {
      rise = (rises rs 0).0;
      one_each = one_each 0 rs;
      stood = λ k h. let s = stood rs 0 k (omega (arith, one_each 0 rs)) in
          let e : get_or (old_places 0 rs) k 0 ≡ s.0 = omega (arith, s.1) in
          rw e (s.2, s.3, s.4);
      none_left_out = λ p h e. let f = found 0 rs p h e in (f.0, omega (arith, f.1, one_each 0 rs), omega (arith, f.2));
    }

-- The wells of a sheet as a list: how many, which stands where, a column of their figures, and that their numbers have two bytes.
-- Assumes nothing.
use mathlib.Core.Path.{◌≡◌, refl, ap, ◌∙◌}
use mathlib.Core.List.{List, [], ◌∷◌, map}
use Prim.Native.Nat.{ℕ, zero, suc, ◌+◌, ◌*◌, ◌<◌}
use native.Mathlib.Omega.{arith}
use lib.ListN.{length, get_or, take, drop, drop_of_length-le}
use lib.Seq.{drop-drop, drop-cons, get_or-take, get_or-drop}
use Rattle.sheet_definition.specs.Sheet.{cut}
use Rattle.sheet_definition.proofs.Joined.{length_cut}
use Rattle.plan_definition.specs.declared.Well.{Well}
use Rattle.plan_definition.specs.Well.{two, well_of, wells_from, wells}
use Rattle.plan_definition.proofs.Places.{well_at, left, left_all, left_step, left_none}

wells-from : (i : ℕ) (xs : List (List ℕ)) → length (wells_from i xs) ≡ length xs
unfolding wells_from
wells-from i [] = refl
wells-from i (x ∷ xs) = ap suc (wells-from (suc i) xs)

pub length-wells : (n : ℕ) (sheet : List ℕ) → length (wells n sheet) ≡ n
unfolding wells
length-wells n sheet = wells-from 0 (cut n sheet) ∙ length_cut n sheet

-- the well at a place of a sheet
from_place : (n p i : ℕ) (sheet : List ℕ) (d : Well) → i < n
    → get_or (wells_from p (cut n sheet)) i d ≡ well_of (p + i) (take 40 (drop (40 * i) sheet))
unfolding wells_from cut
from_place zero p i sheet d h = absurd (omega arith)
from_place (suc n) p zero sheet d h = let e : p + 0 ≡ p = omega arith in rw e
from_place (suc n) p (suc i) sheet d h =
    let e : p + suc i ≡ suc p + i = omega arith in
    let f : 40 * suc i ≡ 40 + 40 * i = omega arith in
    rw (from_place n (suc p) i (drop 40 sheet) d (omega arith), drop-drop (40 * i) 40 sheet, e, f)

pub well_at_lem : (n i : ℕ) (sheet : List ℕ) (d : Well) → i < n → get_or (wells n sheet) i d ≡ well_at i sheet
unfolding wells
well_at_lem n i sheet d h = let e : 0 + i ≡ i = omega arith in rw e at (from_place n 0 i sheet d h)

map_at : {A B : Type 0} (f : A → B) (l : List A) (i : ℕ) (a : A) (b : B) → i < length l → get_or (map f l) i b ≡ f (get_or l i a)
map_at f [] i a b h = absurd (omega arith)
map_at f (x ∷ l) zero a b h = refl
map_at f (x ∷ l) (suc i) a b h = map_at f l i a b (omega arith)

-- what each well has, in a list of it
pub each_at : {A : Type 0} (n : ℕ) (sheet : List ℕ) (f : Well → A) (d : A) (i : ℕ) → i < n → get_or (map f (wells n sheet)) i d ≡ f (well_at i sheet)
each_at n sheet f d i h =
    map_at f (wells n sheet) i (well_at i sheet) d (omega (arith, length-wells n sheet))
    ∙ rw (well_at_lem n i sheet (well_at i sheet) h)

-- a list that has it at each place is that list
module _ (n : ℕ) (sheet : List ℕ) where
  module _ {A : Type 0} (f : Well → A) (d : A) (x : List A) (long : length x ≡ n) (each : (q : ℕ) → q < n → get_or x q d ≡ f (well_at q sheet)) where
    from : (k i : ℕ) → i + k ≡ n → drop i x ≡ map f (left i n sheet)
    from zero i e =
        let z : i ≡ n = omega arith in
        drop_of_length-le x {i = i} (omega arith) ∙ rw (z, left_none n sheet)
    from (suc k) i e =
        drop-cons x i d (omega arith) ∙ rw (each i (omega arith), from k (suc i) (omega arith), left_step n sheet i (omega arith))

    pub column : x ≡ map f (wells n sheet)
    column = rw (← left_all n sheet) (from n 0 (omega arith))

-- a well's number is below 65,536
pub number_fits : (sheet : List ℕ) → ((i : ℕ) → get_or sheet i 0 < 256) → (p : ℕ) → (well_at p sheet).number < 65536
unfolding well_of two
number_fits sheet bytes p = omega (arith, byte 0 (omega arith), byte 1 (omega arith))
  where
    byte : (j : ℕ) → j < 40 → get_or (take 40 (drop (40 * p) sheet)) j 0 < 256
    byte j h = rw (get_or-take 40 (drop (40 * p) sheet) j 0 h, get_or-drop (40 * p) sheet j 0) (bytes (40 * p + j))

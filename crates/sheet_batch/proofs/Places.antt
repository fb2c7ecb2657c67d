-- Whether places rise and whether the sheet has them, as the slice's methods tell it; and the records written at them one by one.
-- Assumes nothing.
use mathlib.Core.Path.{◌≡◌, refl, sym, ap}
use mathlib.Core.Bool.{Bool, true, false, ◌||◌}
use mathlib.Core.List.{List, [], ◌∷◌, ◌++◌}
use Prim.Native.Nat.{ℕ, zero, suc, ◌+◌, ◌*◌, ◌<◌}
use native.Mathlib.Omega.{arith}
use lib.Dec.{leb, ltb}
use lib.ListN.{length, get_or}
use lib.Seq.{take-append_seam, drop-append_seam}
use Rattle.std.proofs.Math.Bool.{and-false}
use Rattle.std.specs.List.{AllAdjacentBelow, IsAllAdjacentAnswer, list_any}
use Rattle.definition.specs.Buffer.{Every, overwrite_at}
use Rattle.definition.specs.Refusal.{rising}
use Rattle.sheet_definition.specs.Sheet.{record_bytes}
use Rattle.sheet_definition.specs.Refusals.{any_past}
use Rattle.sheet_definition.specs.SheetCalls.{written_at}

-- places rise where each is below the next, and don't where one isn't
all_rise : (t : List ℕ) → AllAdjacentBelow (λ x y. true ≡ ltb x y) t (length t) → rising t ≡ true
unfolding rising
all_rise [] h = refl
all_rise (p ∷ []) h = refl
all_rise (p ∷ r ∷ t) h =
    let e : (k : ℕ) → suc k + 1 ≡ suc (k + 1) = λ k. omega arith in
    rw (← h 0 p (omega arith)) (all_rise (r ∷ t) (λ k d l. rw e at (h (suc k) d (omega arith))))

one_falls : (t : List ℕ) (k : ℕ) → k + 1 < length t → false ≡ ltb (get_or t k 0) (get_or t (k + 1) 0) → rising t ≡ false
unfolding rising
one_falls [] k h e = absurd (omega arith)
one_falls (p ∷ []) k h e = absurd (omega arith)
one_falls (p ∷ r ∷ t) zero h e = rw (← e)
one_falls (p ∷ r ∷ t) (suc k) h e =
    let s : suc k + 1 ≡ suc (k + 1) = omega arith in
    rw (one_falls (r ∷ t) k (omega arith) (rw s at e)) (and-false (ltb p r))

pub told_rising : (t : List ℕ) (r : Bool) → IsAllAdjacentAnswer (λ x y b. b ≡ ltb x y) t r → r ≡ rising t
told_rising t true h = sym (all_rise t h)
told_rising t false h = sym (one_falls t h.0 h.1 (h.2 0))

-- a place is past the end where one of them is
pub told_past : (n : ℕ) (t : List ℕ) → list_any (leb n) t ≡ any_past n t
unfolding any_past
told_past n [] = refl
told_past n (p ∷ t) = ap (λ (b : Bool). leb n p || b) (told_past n t)

-- nothing is written where there is no place; else the first record, and then those after it
pub none_written : (t x sheet : List ℕ) → length t ≡ 0 → written_at t x sheet ≡ sheet
unfolding written_at
none_written [] x sheet h = refl
none_written (p ∷ t) x sheet h = absurd (omega arith)

pub one_written : (p : ℕ) (t x y sheet : List ℕ) → length x ≡ record_bytes
    → written_at (p ∷ t) (x ++ y) sheet ≡ written_at t y (overwrite_at (record_bytes * p) x sheet)
unfolding written_at
one_written p t x y sheet e = rw (← e, take-append_seam x y, drop-append_seam x y)

-- what holds of every place holds of the first
pub first_of_lem : (P : ℕ → Type 0) (t : List ℕ) → 0 < length t → Every P t → P (get_or t 0 0)
first_of_lem P [] h e = absurd (omega arith)
first_of_lem P (p ∷ t) h e = e.0

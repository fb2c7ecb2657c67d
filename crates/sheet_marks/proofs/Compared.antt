-- Two lists compared element by element.
-- Assumes nothing.
use mathlib.Core.Path.{◌≡◌, refl, ap, ◌∙◌}
use mathlib.Core.Bool.{Bool, true, false, not, ◌&&◌, ◌||◌, and-false}
use mathlib.Core.List.{List, [], ◌∷◌}
use Prim.Native.Nat.{ℕ, suc}
use native.Mathlib.Omega.{arith}
use lib.Dec.{eqb}
use lib.ListN.{length}
use Rattle.std.specs.List.{fold, zip}
use Rattle.definition.specs.Buffer.{same}

-- lists of other lengths aren't the same
pub other_length : (x y : List ℕ) → (length x ≡ length y → ⊥) → same x y ≡ false
other_length [] [] h = absurd (h refl)
other_length [] (b ∷ y) h = refl
other_length (a ∷ x) [] h = refl
other_length (a ∷ x) (b ∷ y) h = rw (other_length x y (λ e. h (ap suc e))) (and-false (eqb a b))

either_other : (o b c : Bool) → ((o || not b) || not c) ≡ (o || not (b && c))
either_other true b c = refl
either_other false true c = refl
either_other false false c = refl

-- they differ where a pair of their elements does
pub differing : (o : Bool) (x y : List ℕ) → length x ≡ length y → fold (λ a (p : ℕ × ℕ). a || not (eqb p.0 p.1)) o (zip x y) ≡ (o || not (same x y))
differing true [] [] h = refl
differing false [] [] h = refl
differing o [] (b ∷ y) h = absurd (omega arith)
differing o (a ∷ x) [] h = absurd (omega arith)
differing o (a ∷ x) (b ∷ y) h = differing (o || not (eqb a b)) x y (omega arith) ∙ either_other o (eqb a b) (same x y)

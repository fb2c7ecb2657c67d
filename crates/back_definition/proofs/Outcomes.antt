-- A step back answers by its list, 3 and then 18, each exactly when it is due; its outcome is determined, and a refused one alters nothing.
-- Assumes nothing.
use mathlib.Core.Path.{◌≡◌, refl}
use mathlib.Core.List.{List, [], ◌∷◌}
use Prim.Native.Nat.{ℕ}
use native.Mathlib.Omega.{arith}
use lib.ListN.{length}
use Rattle.definition.specs.Refusal.{RECORD, BACK, Judged, numbers_of}
use Rattle.definition.proofs.Determined.{Determined, determined}
use Rattle.definition.proofs.Refusals.{judged, not_done}
use Rattle.hash_definition.specs.Calls.{outcome, record_refusal}
use Rattle.back_definition.specs.Back.{back_refusal, back_refusals, back_outcome}

-- "18 .. after 3", each exactly when
pub back-judged : (b block : List ℕ) → Judged (back_outcome b block).number (back_refusals b (length block)) (RECORD ∷ BACK ∷ [])
unfolding back_outcome outcome back_refusals numbers_of record_refusal back_refusal
back-judged b block = judged _ (omega arith) refl

pub back_determined : (b block : List ℕ) → Determined (back_outcome b block)
back_determined b block = determined (back_outcome b block)

-- refused, the record stays
pub back_untouched : (b block : List ℕ) → ((back_outcome b block).number ≡ 0 → ⊥) → (back_outcome b block).buffer ≡ b
unfolding back_outcome outcome
back_untouched b block h = not_done _ _ _ h

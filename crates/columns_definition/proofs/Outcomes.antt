-- The four calls: each answers by its list, 1 and then 24, or 24 alone, exactly when it is due; its outcome is determined, and a refused one alters
-- nothing.
-- Assumes nothing.
use mathlib.Core.Path.{◌≡◌, refl}
use mathlib.Core.List.{List, [], ◌∷◌}
use Prim.Native.Nat.{ℕ}
use native.Mathlib.Omega.{arith}
use lib.ListN.{length}
use Rattle.definition.specs.Refusal.{WIDTH, COLUMNS, Judged, numbers_of, width_refusal}
use Rattle.definition.proofs.Determined.{Determined, determined}
use Rattle.definition.proofs.Refusals.{judged, not_done}
use Rattle.hash_definition.specs.Calls.{outcome}
use Rattle.columns_definition.specs.Columns.{columns_refusal, words_refusals, inject_refusals, message_refusals, from_words_outcome, to_words_outcome, from_message_outcome, inject_outcome}

-- "1; 24 COLUMNS .., after it", each exactly when
pub from_words_judged : (code : ℕ) (ws d : List ℕ) → Judged (from_words_outcome code ws d).number (words_refusals code (length d) (length ws)) (WIDTH ∷ COLUMNS ∷ [])
unfolding from_words_outcome outcome words_refusals numbers_of width_refusal columns_refusal
from_words_judged code ws d = judged _ (omega arith) refl

pub to_words_judged : (code : ℕ) (d ws : List ℕ) → Judged (to_words_outcome code d ws).number (words_refusals code (length d) (length ws)) (WIDTH ∷ COLUMNS ∷ [])
unfolding to_words_outcome outcome words_refusals numbers_of width_refusal columns_refusal
to_words_judged code d ws = judged _ (omega arith) refl

pub from_message_judged : (block d : List ℕ) → Judged (from_message_outcome block d).number (message_refusals (length block) (length d)) (COLUMNS ∷ [])
unfolding from_message_outcome outcome message_refusals numbers_of columns_refusal
from_message_judged block d = judged _ (omega arith) refl

pub inject-judged : (code : ℕ) (d m : List ℕ) → Judged (inject_outcome code d m).number (inject_refusals code (length d) (length m)) (WIDTH ∷ COLUMNS ∷ [])
unfolding inject_outcome outcome inject_refusals numbers_of width_refusal columns_refusal
inject-judged code d m = judged _ (omega arith) refl

pub from_words_determined : (code : ℕ) (ws d : List ℕ) → Determined (from_words_outcome code ws d)
from_words_determined code ws d = determined (from_words_outcome code ws d)

pub to_words_determined : (code : ℕ) (d ws : List ℕ) → Determined (to_words_outcome code d ws)
to_words_determined code d ws = determined (to_words_outcome code d ws)

pub from_message_determined : (block d : List ℕ) → Determined (from_message_outcome block d)
from_message_determined block d = determined (from_message_outcome block d)

pub inject_determined : (code : ℕ) (d m : List ℕ) → Determined (inject_outcome code d m)
inject_determined code d m = determined (inject_outcome code d m)

-- refused, what is lent for writing stays
pub from_words_untouched : (code : ℕ) (ws d : List ℕ) → ((from_words_outcome code ws d).number ≡ 0 → ⊥) → (from_words_outcome code ws d).buffer ≡ d
unfolding from_words_outcome outcome
from_words_untouched code ws d h = not_done _ _ _ h

pub to_words_untouched : (code : ℕ) (d ws : List ℕ) → ((to_words_outcome code d ws).number ≡ 0 → ⊥) → (to_words_outcome code d ws).buffer ≡ ws
unfolding to_words_outcome outcome
to_words_untouched code d ws h = not_done _ _ _ h

pub from_message_untouched : (block d : List ℕ) → ((from_message_outcome block d).number ≡ 0 → ⊥) → (from_message_outcome block d).buffer ≡ d
unfolding from_message_outcome outcome
from_message_untouched block d h = not_done _ _ _ h

pub inject_untouched : (code : ℕ) (d m : List ℕ) → ((inject_outcome code d m).number ≡ 0 → ⊥) → (inject_outcome code d m).buffer ≡ d
unfolding inject_outcome outcome
inject_untouched code d m h = not_done _ _ _ h

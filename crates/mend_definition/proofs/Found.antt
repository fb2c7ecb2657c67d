-- What is said of the marks that were found: how many differ from the right ones, and which is the lowest, or that none is.
-- Assumes nothing.
use mathlib.Core.Path.{◌≡◌, refl, sym, ap, ◌∙◌}
use mathlib.Core.Logic.{◌↔◌}
use mathlib.Core.Bool.{Bool, true, false, not, false≢true}
use mathlib.Core.List.{List, [], ◌∷◌, ◌++◌}
use Prim.Native.Nat.{ℕ, zero, suc, ◌+◌, ◌<◌}
use native.Mathlib.Decide.{dec_le, ℕ_discrete}
use native.Mathlib.Omega.{arith}
use lib.ListN.{length, length-append}
use Rattle.std.specs.Prelude.{Option, None, Some, unwrap_or}
use Rattle.std.proofs.lemmas.Option.{none-some}
use Rattle.definition.specs.Buffer.{same}
use Rattle.definition.specs.Refusal.{pick}
use Rattle.sheet_definition.specs.Sheet.{World}
use Rattle.sheet_definition.specs.Marks.{mark_at}
use Rattle.sheet_definition.proofs.Writes.{same_refl, same_eq}
use Rattle.mend_definition.specs.Mend.{true_mark, is_wrong, wrong_of, first_in}
use Rattle.mend_definition.specs.Said.{differing, Lowest}

-- marks differ from themselves in none
pub none_differing : (l : List ℕ) (k : ℕ) → differing l l k ≡ 0
unfolding differing pick
none_differing l zero = refl
none_differing l (suc k) = rw (same_refl (mark_at l k)) (omega (arith, none_differing l k))

-- right are words whose first marks, below k, are the true ones
module _ (w : World) (right : List ℕ) where
  abbrev found : List ℕ
  found = w.marks

  -- whether one of them is wrong, by the words
  judged_by_lem : (m : ℕ) → mark_at right m ≡ true_mark w m → is_wrong w m ≡ not (same (mark_at found m) (mark_at right m))
  unfolding is_wrong
  judged_by_lem m e = rw e

  pub wrong-counted : (k : ℕ) → ((m : ℕ) → m < k → mark_at right m ≡ true_mark w m) → length (wrong_of w k) ≡ differing right found k
  unfolding wrong_of differing pick
  wrong-counted zero t = refl
  wrong-counted (suc k) t =
      rw (judged_by_lem k (t k (omega arith))) (go (wrong-counted k (λ m h. t m (omega arith))) (same (mark_at found k) (mark_at right k)))
    where
      go : length (wrong_of w k) ≡ differing right found k → (b : Bool) → length (wrong_of w k ++ pick (not b) (k ∷ []) []) ≡ differing right found k + pick b 0 1
      go n true = omega (arith, n, length-append (wrong_of w k) [])
      go n false = omega (arith, n, length-append (wrong_of w k) (k ∷ []))

  -- none of k marks is wrong, or the list begins with the lowest
  data Begins (k : ℕ) : List ℕ → Type 0 where
    nothing : ((m : ℕ) → m < k → mark_at found m ≡ mark_at right m) → Begins k []
    lowest : {m : ℕ} {ms : List ℕ} → Lowest right found k m → Begins k (m ∷ ms)

  begins : (k : ℕ) → ((m : ℕ) → m < k → mark_at right m ≡ true_mark w m) → Begins k (wrong_of w k)
  unfolding wrong_of pick
  begins zero t = nothing (λ m h. absurd (omega arith))
  begins (suc k) t = rw (judged_by_lem k (t k (omega arith))) (go (wrong_of w k) (begins k (λ m h. t m (omega arith))) (same (mark_at found k) (mark_at right k)) refl)
    where
      go : (l : List ℕ) → Begins k l → (b : Bool) → same (mark_at found k) (mark_at right k) ≡ b → Begins (suc k) (l ++ pick (not b) (k ∷ []) [])
      go [] (nothing s) true e = nothing (λ m h. elim (ℕ_discrete m k) [ yes f ↦ rw f (same_eq (mark_at found k) (mark_at right k) e) | no f ↦ s m (omega arith) ])
      go [] (nothing s) false e =
          lowest {m = k}
          (record {
            among = omega arith;
            differs = λ f. false≢true (sym e ∙ rw f (same_refl (mark_at right k)));
            before = λ j h. s j h;
          })
      go (m ∷ ms) (lowest s) b e =
          lowest {m = m} (record { among = omega (arith, s.among); differs = s.differs; before = s.before })

  -- so the first that is said is the lowest
  pub first_lowest : (k m : ℕ) → ((m : ℕ) → m < k → mark_at right m ≡ true_mark w m) → (first_in (wrong_of w k) ≡ Some m) ↔ Lowest right found k m
  unfolding first_in
  first_lowest k m t = go (wrong_of w k) (begins k t)
    where
      one : (i j : ℕ) → Lowest right found k i → Lowest right found k j → i ≡ j
      one i j a b =
          elim (dec_le i j) [
            | yes d ↦ elim (ℕ_discrete i j) [ yes e ↦ e | no e ↦ absurd (a.differs (b.before i (omega arith))) ]
            | no d ↦ absurd (b.differs (a.before j (omega arith)))
          ]

      go : (l : List ℕ) → Begins k l → (first_in l ≡ Some m) ↔ Lowest right found k m
      go [] (nothing s) = (λ e. absurd (none-some m e), λ o. absurd (o.differs (s m o.among)))
      go (i ∷ l) (lowest o) = (λ e. rw (← ap (λ (f : Option ℕ). unwrap_or f 0) e) o, λ p. rw (one i m o p))

  -- and none is wrong exactly when no mark differs
  pub none_differs : (k : ℕ) → ((m : ℕ) → m < k → mark_at right m ≡ true_mark w m)
      → (length (wrong_of w k) ≡ 0) ↔ ((m : ℕ) → m < k → mark_at found m ≡ mark_at right m)
  none_differs k t = go (wrong_of w k) (begins k t)
    where
      go : (l : List ℕ) → Begins k l → (length l ≡ 0) ↔ ((m : ℕ) → m < k → mark_at found m ≡ mark_at right m)
      go [] (nothing s) = (λ e. s, λ h. refl)
      go (m ∷ l) (lowest o) = (λ e. absurd (omega arith), λ h. absurd (o.differs (h m o.among)))

-- no first is said exactly when the number is 0
pub none_first : (l : List ℕ) → (first_in l ≡ None) ↔ (length l ≡ 0)
unfolding first_in
none_first [] = (λ e. refl, λ e. refl)
none_first (m ∷ l) = (λ e. absurd (none-some m (sym e)), λ e. absurd (omega arith))

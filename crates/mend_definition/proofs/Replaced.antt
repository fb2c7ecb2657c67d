-- The marks with the wrong ones among the first k replaced: each of the k is the true state as it is written, and what lies behind them is as it was.
-- Assumes nothing.
use mathlib.Core.Path.{◌≡◌, refl, ap, ◌∙◌}
use mathlib.Core.Bool.{Bool, true, false}
use mathlib.Core.List.{List}
use Prim.Native.Nat.{ℕ, zero, suc, ◌+◌, ◌-◌, ◌*◌, ◌<◌, ◌≤◌}
use native.Mathlib.Nat.{le_refl}
use native.Mathlib.Decide.{ℕ_discrete}
use native.Mathlib.Omega.{arith}
use borrow.Author.Tests.{not-false}
use lib.ListN.{length, take, drop}
use lib.Seq.{drop-drop}
use Rattle.definition.specs.Buffer.{overwrite_at, same}
use Rattle.definition.specs.Refusal.{pick}
use Rattle.definition.proofs.Buffer.{length-overwrite_at, take-overwrite_at, drop-overwrite_at}
use Rattle.sheet_definition.specs.Sheet.{World, mark_words}
use Rattle.sheet_definition.specs.Marks.{mark_at}
use Rattle.sheet_definition.proofs.Fair.{read-written}
use Rattle.sheet_definition.proofs.Marks.{length-mark}
use Rattle.sheet_definition.proofs.Writes.{same_eq, marks-kept}
use Rattle.mend_definition.specs.Mend.{true_mark, is_wrong, replaced}

pub record Replaced (w : World) (k : ℕ) (l : List ℕ) : Type 0 where
  pub size : length l ≡ length w.marks
  pub true_marks : (m : ℕ) → m < k → mark_at l m ≡ true_mark w m
  pub behind : drop (mark_words * k) l ≡ drop (mark_words * k) w.marks

module _ (w : World) where
  length_true : (m : ℕ) → length (true_mark w m) ≡ mark_words
  unfolding true_mark
  length_true m = length-mark _

  -- a mark behind those that were looked at is the one that was found
  pub not_yet : (k : ℕ) (l : List ℕ) → Replaced w k l → mark_at l k ≡ mark_at w.marks k
  unfolding mark_at
  not_yet k l r = ap (take mark_words) r.behind

  -- and so is every word from there on
  pub all_behind : (k : ℕ) (l : List ℕ) → Replaced w k l → (m : ℕ) → k ≤ m → drop (mark_words * m) l ≡ drop (mark_words * m) w.marks
  all_behind k l r m h =
      let n : ℕ = mark_words * k in
      let e : mark_words * m ≡ n + (mark_words * m - n) = omega arith in
      rw (e, ← drop-drop (mark_words * m - n) n l, ← drop-drop (mark_words * m - n) n w.marks, r.behind)

  -- one more mark looked at, wrong or not
  one_more : (k : ℕ) (l : List ℕ) → Replaced w k l → mark_words * suc k ≤ length w.marks → (b : Bool) → is_wrong w k ≡ b
      → Replaced w (suc k) (pick b (overwrite_at (mark_words * k) (true_mark w k) l) l)
  unfolding pick mark_at is_wrong
  one_more k l r h true e =
      let t : List ℕ = true_mark w k in
      let i : ℕ = mark_words * k in
      record {
        size = length-overwrite_at i t l (omega (arith, length_true k, r.size)) ∙ r.size;
        true_marks = λ m d. elim (ℕ_discrete m k) [
          | yes f ↦ rw f (read-written i mark_words t l (length_true k) (omega (arith, r.size)))
          | no f ↦ marks-kept m m _ l (take-overwrite_at i (mark_words * (m + 1)) t l (omega arith) (omega (arith, r.size))) (le_refl m)
              ∙ r.true_marks m (omega arith)
        ];
        behind =
            drop-overwrite_at i (mark_words * suc k) t l (omega (arith, length_true k)) (omega (arith, r.size))
            ∙ all_behind k l r (suc k) (omega arith);
      }
  one_more k l r h false e =
      let t : List ℕ = true_mark w k in
      let f : mark_at w.marks k ≡ t = same_eq (mark_at w.marks k) t (not-false (same (mark_at w.marks k) t) e) in
      record {
        size = r.size;
        true_marks = λ m d. elim (ℕ_discrete m k) [ yes g ↦ rw g (not_yet k l r ∙ f) | no g ↦ r.true_marks m (omega arith) ];
        behind = all_behind k l r (suc k) (omega arith);
      }

  pub replaced_so : (k : ℕ) → mark_words * k ≤ length w.marks → Replaced w k (replaced w k)
  unfolding replaced
  replaced_so zero h = record { size = refl; true_marks = λ m d. absurd (omega arith); behind = refl }
  replaced_so (suc k) h = one_more k (replaced w k) (replaced_so k (omega arith)) h (is_wrong w k) refl

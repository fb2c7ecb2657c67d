-- What stays of a buffer when a piece is written into it, and the lengths of what the sheet calls write.
-- Assumes nothing.
use mathlib.Core.Path.{◌≡◌, refl, sym, ap, ◌∙◌}
use mathlib.Core.Bool.{true}
use mathlib.Core.List.{List, [], ◌∷◌}
use Prim.Native.Nat.{ℕ, zero, suc, ◌+◌, ◌-◌, ◌*◌, ◌≤◌}
use native.Mathlib.Nat.{zero-add, suc-add}
use native.Mathlib.Omega.{arith}
use lib.ListN.{length, take, drop, length-drop, take-append-drop}
use lib.Seq.{length-take-le, take-take, take-add, take-nil}
use borrow.Author.Tests.{eq-eqb}
use Rattle.definition.specs.declared.Block.{Block}
use Rattle.definition.specs.declared.Width.{Width}
use Rattle.definition.specs.Block.{words_of, words_of_all}
use Rattle.definition.specs.State.{five}
use Rattle.definition.specs.Round.{chain}
use Rattle.definition.specs.Padding.{blocks}
use Rattle.definition.specs.Width.{width_at}
use Rattle.definition.specs.Luffa.{words_at, bytes_at, output_of_bits, digest_after}
use Rattle.definition.specs.Buffer.{overwrite_at, same}
use Rattle.sheet_definition.specs.Sheet.{group_bytes, mark_words, q}
use Rattle.sheet_definition.specs.Marks.{held, mark_at, state_from, mark_of, marks_after, worked}
use Rattle.definition.proofs.Cases.{same→eq}
use Rattle.definition.proofs.Buffer.{overwrite_at-none, length-overwrite_at, take-overwrite_at, drop-overwrite_at}
use Rattle.definition.proofs.Output.{length-output}

-- the test of two lists is true exactly when they are equal
pub same_refl : (xs : List ℕ) → same xs xs ≡ true
same_refl [] = refl
same_refl (x ∷ xs) = rw (eq-eqb x x refl) (same_refl xs)

pub same_eq : (xs ys : List ℕ) → same xs ys ≡ true → xs ≡ ys
same_eq xs ys e = same→eq xs ys (rw e tt)

-- what was there, written again where only it may have changed, makes the old list
pub put_back : (i n : ℕ) (l' l : List ℕ) → i + n ≤ length l → take i l' ≡ take i l → drop (i + n) l' ≡ drop (i + n) l
    → overwrite_at i (take n (drop i l)) l' ≡ l
unfolding overwrite_at
put_back i n l' l h a b =
    let m : length (take n (drop i l)) ≡ n = length-take-le n (drop i l) (omega (arith, length-drop i l)) in
    rw (m, a, b, ← take-add i n l) (take-append-drop (i + n) l)

pub drop-take : (d n : ℕ) (l : List ℕ) → drop d (take (d + n) l) ≡ take n (drop d l)
drop-take zero n l = rw zero-add
drop-take (suc d) n [] = rw (suc-add, take-nil)
drop-take (suc d) n (a ∷ l) = rw suc-add (drop-take d n l)

mark_in_front : (m k : ℕ) (l : List ℕ) → k ≤ m → drop (mark_words * k) (take (mark_words * k + mark_words) (take (mark_words * (m + 1)) l)) ≡ mark_at l k
unfolding mark_at
mark_in_front m k l h = rw (take-take (mark_words * k + mark_words) (mark_words * (m + 1)) l (omega arith)) (drop-take (mark_words * k) mark_words l)

-- marks 0 to m are as they were where the words up to them are
pub marks-kept : (m k : ℕ) (l' l : List ℕ) → take (mark_words * (m + 1)) l' ≡ take (mark_words * (m + 1)) l → k ≤ m → mark_at l' k ≡ mark_at l k
marks-kept m k l' l e h =
    sym (mark_in_front m k l' h) ∙ ap (λ (z : List ℕ). drop (mark_words * k) (take (mark_words * k + mark_words) z)) e ∙ mark_in_front m k l h

pub length-marks_after : (w : Width) (k : ℕ) (h : List Block) (x : List ℕ) → length (marks_after w k h x) ≡ mark_words * k
unfolding marks_after mark_of words_of_all words_of five
length-marks_after w zero h x = refl
length-marks_after w (suc k) h x = omega (arith, length-marks_after w k (chain w h (blocks (take group_bytes x))) (drop group_bytes x))

-- the work from mark m writes the marks after it and no others
pub record Rewritten (n m : ℕ) (marks' marks : List ℕ) : Type 0 where
  pub size : length marks' ≡ length marks
  pub before : take (mark_words * (m + 1)) marks' ≡ take (mark_words * (m + 1)) marks
  pub behind : (e : ℕ) → q n ≤ e → drop (mark_words * (e + 1)) marks' ≡ drop (mark_words * (e + 1)) marks

pub rewritten : (code n m : ℕ) (sheet marks : List ℕ) → m ≤ q n → mark_words * (q n + 1) ≤ length marks
    → Rewritten n m (worked code n sheet marks m).marks marks
unfolding worked
rewritten code n m sheet marks h l =
    let i : ℕ = mark_words * (m + 1) in
    let s : List Block = state_from (width_at code) (mark_at marks m) in
    let p : List ℕ = marks_after (width_at code) (q n - m) s (drop (group_bytes * m) (held n sheet)) in
    let k : length p ≡ mark_words * (q n - m) = length-marks_after (width_at code) (q n - m) s (drop (group_bytes * m) (held n sheet)) in
    record {
      size = length-overwrite_at i p marks (omega arith);
      before = take-overwrite_at i i p marks (omega arith) (omega arith);
      behind = λ e f. drop-overwrite_at i (mark_words * (e + 1)) p marks (omega arith) (omega arith);
    }

-- from the last mark on no mark is written
pub nothing_written : (w : Width) (n : ℕ) (h : List Block) (x marks : List ℕ)
    → overwrite_at (mark_words * (q n + 1)) (marks_after w (q n - q n) h x) marks ≡ marks
unfolding marks_after
nothing_written w n h x marks =
    let j : q n - q n ≡ 0 = omega arith in
    rw j (overwrite_at-none (mark_words * (q n + 1)) marks)

-- so the check leaves the marks
pub check_leaves : (code n : ℕ) (sheet marks : List ℕ) → (worked code n sheet marks (q n)).marks ≡ marks
unfolding worked
check_leaves code n sheet marks = nothing_written _ n _ _ marks

-- a digest has the length that its code names, whatever the marks
pub length-digest : (code n m : ℕ) (sheet marks : List ℕ) → length (worked code n sheet marks m).digest ≡ bytes_at code
unfolding worked digest_after output_of_bits bytes_at
length-digest code n m sheet marks = length-output code (words_at code) _

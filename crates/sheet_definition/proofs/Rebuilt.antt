-- Marks that are equal one by one are equal as words; so marks that are laid are, word for word, those that a build of the sheet would leave.
-- Assumes nothing.
use mathlib.Core.Path.{◌≡◌, refl, sym, ap₂, ◌∙◌}
use mathlib.Core.List.{List, ◌++◌}
use Prim.Native.Nat.{ℕ, zero, suc, ◌+◌, ◌*◌, ◌<◌}
use native.Mathlib.Omega.{arith}
use lib.ListN.{take, drop, take-append-drop}
use lib.Seq.{take-add}
use Rattle.sheet_definition.specs.Sheet.{World, mark_words, q}
use Rattle.sheet_definition.specs.Marks.{mark_at}
use Rattle.sheet_definition.specs.SheetCalls.{build_outcome}
use Rattle.sheet_definition.specs.Run.{left}
use Rattle.sheet_definition.specs.Said.{Written}
use Rattle.sheet_definition.proofs.Build.{build_made, build-stays}

-- words that agree at each mark
marks-equal : (k : ℕ) (l' l : List ℕ) → ((m : ℕ) → m < k → mark_at l' m ≡ mark_at l m) → take (mark_words * k) l' ≡ take (mark_words * k) l
unfolding mark_at
marks-equal zero l' l h = refl
marks-equal (suc k) l' l h =
    let e : mark_words * suc k ≡ mark_words * k + mark_words = omega arith in
    rw (e, take-add (mark_words * k) mark_words l', take-add (mark_words * k) mark_words l)
    (ap₂ ◌++◌ (marks-equal k l' l (λ m i. h m (omega arith))) (h k (omega arith)))

-- and with the words behind them
pub marks_same : (k : ℕ) (l' l : List ℕ) → ((m : ℕ) → m < k → mark_at l' m ≡ mark_at l m) → drop (mark_words * k) l' ≡ drop (mark_words * k) l → l' ≡ l
marks_same k l' l h d =
    sym (take-append-drop (mark_words * k) l') ∙ ap₂ ◌++◌ (marks-equal k l' l h) d ∙ take-append-drop (mark_words * k) l

-- so such marks are the words that any accepted build of the sheet leaves in front of its buffer
pub same_as_build : (w : World) → Written w 0 → (marks out : List ℕ) → (build_outcome w.code w.sheet w.n marks out).answer.number ≡ 0
    → take (mark_words * (q w.n + 1)) w.marks
    ≡ take (mark_words * (q w.n + 1)) (build_outcome w.code w.sheet w.n marks out).marks
unfolding left
same_as_build w b marks out e =
    let s = build-stays w.code w.sheet w.n marks out in
    let v = rw (s.count_same, s.sheet_same) at (build_made w.code w.sheet w.n marks out e).written in
    marks-equal (q w.n + 1) w.marks _ (λ m i. b m (omega arith) (omega arith) ∙ sym (v m (omega arith) (omega arith)))

-- `sheet_marks::clear` meets its contract: the part that is filled are the marks past the new last, or none is.
-- Assumes nothing.
use mathlib.Core.Path.{◌≡◌, sym, ap, ◌∙◌}
use Prim.Native.Nat.{ℕ, ◌+◌, ◌-◌, ◌*◌, ◌/◌}
use native.Mathlib.Omega.{arith}
use lib.ListN.{length, take, drop, replicate, length-replicate, length-drop}
use lib.Seq.{length-take-le}
use Rattle.sheet_definition.specs.Sheet.{q}
use Rattle.octets.proofs.Total.{put_part}
use Rattle.sheet_marks.specs.Total.{cleared}
use Rattle.sheet_marks.proofs.Total.{cleared_not, cleared_nothing}
use Rattle.sheet_marks.proofs.clear.Goals as goal
use Rattle.sheet_marks.proofs.clear.Goals.{else-first-last-via-then-first-last+else-last-marks, else-first-last-via-else-first-last}

pub returns-else-first-last : goal.returns-else-first-last
unfolding q
returns-else-first-last c =
    elim c.else-first-last.branch [
      | else-first-last-via-then-first-last+else-last-marks w ↦ sym (cleared_not _ _ _ (omega arith))
      | else-first-last-via-else-first-last w ↦ sym (cleared_nothing _ _ _ (omega arith))
    ]

pub returns-then-last-marks : goal.returns-then-last-marks
unfolding cleared q
returns-then-last-marks c =
    let a = c.args in
    let k : ℕ = 40 * (a.n / 4 - a.count / 4) in
    let n : length (replicate {A = ℕ} k 0) ≡ k = length-replicate k 0 in
    let i : ℕ = 40 * (a.count / 4 + 1) in
    let m : ℕ = 40 * (a.n / 4 + 1) - i in
    let e : length (take m (drop i a.marks.now)) ≡ k = length-take-le m (drop i a.marks.now) (omega (arith, length-drop i a.marks.now)) ∙ omega arith in
    put_part _ _ (replicate k 0) _ _ (omega arith) (omega arith) (c.fill.ensures.after (λ y h. h) ∙ ap (λ (n : ℕ). replicate n 0) e)

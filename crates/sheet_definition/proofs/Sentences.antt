-- Document 01's sentences on append and drop, of the calls' outcomes, from true marks or false.
-- Assumes nothing.
use mathlib.Core.Path.{◌≡◌, ◌∙◌}
use mathlib.Core.List.{List}
use Prim.Native.Nat.{ℕ, ◌+◌, ◌-◌, ◌*◌, ◌/◌, ◌%◌, ◌<◌, ◌≤◌}
use native.Mathlib.Decide.{dec_le, ℕ_discrete}
use native.Mathlib.Omega.{arith}
use lib.ListN.{take, drop, replicate}
use lib.Seq.{take-take}
use Rattle.definition.specs.Round.{chain}
use Rattle.definition.specs.Padding.{blocks}
use Rattle.definition.specs.Width.{width_at}
use Rattle.sheet_definition.specs.Sheet.{World, record_bytes, group_bytes, mark_words, q, r}
use Rattle.sheet_definition.specs.Marks.{held, mark_at, state_from, mark_of}
use Rattle.sheet_definition.specs.Save.{done_with, reworked}
use Rattle.sheet_definition.specs.SheetCalls.{Call, one_record, edit_of, save_of, call, plain}
use Rattle.sheet_definition.specs.SheetCalls.Kind.{Append, Drop}
use Rattle.sheet_definition.proofs.Marks.{mark-worked}
use Rattle.sheet_definition.proofs.Writes.{drop-take}
use Rattle.sheet_definition.proofs.Saves.{mark_behind, save-stays, save-marks, save-freed}
use Rattle.sheet_definition.proofs.Edits.{proper}
use Rattle.sheet_definition.proofs.Claims.{accepted_is}

-- "Drop zeroes the last record's bytes. When r = 0 it zeroes mark q."
module _ (w : World) (claim out : List ℕ) (e : (call w (plain Drop claim out)).answer.number ≡ 0) where
  abbrev dropped : Call
  dropped = plain Drop claim out

  fewer : (call w dropped).answer.count ≡ w.n - 1
  unfolding done_with save_of edit_of one_record
  fewer = rw (accepted_is w dropped e).1

  pub drop-bytes : 0 < w.n → take record_bytes (drop (record_bytes * (w.n - 1)) (call w dropped).sheet) ≡ replicate record_bytes 0
  unfolding call
  drop-bytes h = (save-freed w (save_of w dropped) (proper w dropped) e).bytes (w.n - 1) (omega (arith, fewer)) (omega arith)

  pub drop-mark : 0 < w.n → r w.n ≡ 0 → mark_at (call w dropped).marks (q w.n) ≡ replicate mark_words 0
  unfolding call q r
  drop-mark h z = (save-freed w (save_of w dropped) (proper w dropped) e).words (q w.n) (omega (arith, fewer)) (omega arith)

-- "Append writes record n, then works on from mark q under the new count, and writes mark q+1 when r = 3."
module _ (w : World) (x claim out : List ℕ) (e : (call w (plain (Append x) claim out)).answer.number ≡ 0) where
  abbrev added : Call
  added = plain (Append x) claim out

  pub append-mark : r w.n ≡ 3
      → mark_at (call w added).marks (q w.n + 1)
      ≡ mark_of (chain (width_at w.code) (state_from (width_at w.code) (mark_at w.marks (q w.n))) (blocks (take group_bytes (drop (group_bytes * q w.n) (call w added).sheet))))
  unfolding done_with save_of edit_of one_record reworked q r held
  append-mark z =
      let a = accepted_is w added e in
      let f = (proper w added).fair a.0 in
      let i : q w.n + 1 - q w.n ≡ 1 = omega arith in
      let j : record_bytes * (w.n + 1) ≡ group_bytes * q w.n + group_bytes = omega arith in
      rw a.1
      (mark-worked w.code (w.n + 1) (q w.n) (q w.n + 1) (save_of w added).edit.sheet w.marks (omega arith) (omega arith)
      (omega (arith, f.new_sheet_room, f.sheet-size)) f.new_marks_room
      ∙ rw (i, j, drop-take (group_bytes * q w.n) group_bytes (save_of w added).edit.sheet, take-take group_bytes group_bytes (drop (group_bytes * q w.n) (save_of w added).edit.sheet) (omega arith)))

  -- and no other
  pub append_others : (m : ℕ) → ((r w.n ≡ 3) × (m ≡ q w.n + 1) → ⊥) → mark_at (call w added).marks m ≡ mark_at w.marks m
  unfolding call save_of edit_of one_record q r
  append_others m h =
      elim (dec_le m (q w.n)) [
        | yes d ↦ save-marks w (save_of w added) (proper w added) m d
        | no d ↦ mark_behind m (m - 1) _ w.marks (omega arith) ((save-stays w (save_of w added) (proper w added)).marks_behind (m - 1) (omega arith) (past d))
      ]
    where
      past : (m ≤ w.n / 4 → ⊥) → (w.n + 1) / 4 ≤ m - 1
      past d =
          elim (ℕ_discrete (w.n % 4) 3) [
            | yes a ↦ elim (ℕ_discrete m (w.n / 4 + 1)) [ yes b ↦ absurd (h (a, b)) | no b ↦ omega arith ]
            | no a ↦ omega arith
          ]

-- A batch that goes on put together from what its parts leave: without a place the check, else the records written and the work.
-- Assumes nothing.
use mathlib.Core.Path.{◌≡◌}
use mathlib.Core.List.{List, [], ◌∷◌}
use Prim.Native.Nat.{ℕ, ◌+◌, ◌<◌}
use native.Mathlib.Nat.{zero-add}
use native.Mathlib.Omega.{arith}
use lib.ListN.{length, get_or}
use Rattle.definition.specs.Buffer.{overwrite}
use Rattle.definition.specs.Refusal.{pick}
use Rattle.sheet_definition.specs.Sheet.{World, q}
use Rattle.sheet_definition.specs.Marks.{worked}
use Rattle.sheet_definition.specs.Save.{done_with, checked, reworked, rounds_before}
use Rattle.sheet_definition.specs.SheetCalls.{written_at, lowest, some, many_records, edit_of, save_of, batching}
use Rattle.sheet_definition.proofs.Writes.{check_leaves}
use Rattle.sheet_definition.proofs.Outcomes.{accepted}

-- without a place: what the check found
pub none_done : (w : World) (places x claim out : List ℕ) (rounds : ℕ) (out' : List ℕ) → length places ≡ 0
    → rounds ≡ (checked w).rounds → out' ≡ overwrite claim out → claim ≡ (checked w).digest
    → record { answer = record { number = 0; count = w.n; rounds = rounds }; sheet = w.sheet; marks = w.marks; out = out' }
    ≡ accepted w (save_of w (batching places x claim out))
unfolding done_with reworked rounds_before checked pick save_of edit_of many_records lowest some written_at
none_done w (p ∷ ps) x claim out rounds out' z e o d = absurd (omega arith)
none_done w [] x claim out rounds out' z e o d =
    rw (e, o, d, check_leaves w.code w.n w.sheet w.marks, zero-add (worked w.code w.n w.sheet w.marks (q w.n)).rounds)

-- with one or more: the records written, and the work from the group of the first
pub some_done : (w : World) (places x claim out : List ℕ) (before rounds : ℕ) (sheet marks' out' : List ℕ) → 0 < length places
    → before ≡ (checked w).rounds → sheet ≡ written_at places x w.sheet
    → rounds ≡ before + (worked w.code w.n sheet w.marks (q (get_or places 0 0))).rounds
    → marks' ≡ (worked w.code w.n sheet w.marks (q (get_or places 0 0))).marks
    → out' ≡ overwrite (worked w.code w.n sheet w.marks (q (get_or places 0 0))).digest out
    → record { answer = record { number = 0; count = w.n; rounds = rounds }; sheet = sheet; marks = marks'; out = out' }
    ≡ accepted w (save_of w (batching places x claim out))
unfolding done_with reworked rounds_before pick save_of edit_of many_records lowest some
some_done w [] x claim out before rounds sheet marks' out' h b s r m o = absurd (omega arith)
some_done w (p ∷ ps) x claim out before rounds sheet marks' out' h b s r m o = rw (r, m, o, s, b)

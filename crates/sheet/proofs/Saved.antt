-- A save of one record put together from what its parts leave; and that it is the call that it was judged for.
-- Assumes nothing.
use mathlib.Core.Path.{◌≡◌, refl, sym, ◌∙◌}
use mathlib.Core.List.{List}
use Prim.Native.Nat.{ℕ, zero, suc, ◌+◌, ◌*◌}
use native.Mathlib.Omega.{arith}
use lib.ListN.{length}
use Rattle.definition.specs.Start.{start}
use Rattle.definition.specs.Width.{width_at}
use Rattle.definition.specs.Buffer.{overwrite_at, overwrite}
use Rattle.definition.specs.Refusal.{pick, first_of, when_done}
use Rattle.sheet_definition.specs.Sheet.{World, record_bytes, q}
use Rattle.sheet_definition.specs.Marks.{mark_of, worked}
use Rattle.sheet_definition.specs.Save.{SheetOutcome, done_with, checked, reworked, rounds_before, save_outcome}
use Rattle.sheet_definition.specs.SheetCalls.{Kind, Call, plain, one_record, edit_of, save_of, call}
use Rattle.sheet_definition.proofs.Outcomes.{accepted}
use Rattle.sheet_definition.proofs.Edits.{proper}
use Rattle.sheet_marks.specs.Total.{cleared}
use Rattle.sheet.specs.Save.{Valid, record_save}

-- a save that goes on, from the edit and the work
pub put-together : (w : World) (number place count : ℕ) (x claim out₀ : List ℕ) (before rounds : ℕ) (sheet marks marks' out : List ℕ)
    → before ≡ (checked w).rounds → sheet ≡ overwrite_at (record_bytes * place) x w.sheet → marks ≡ cleared w.n count w.marks
    → rounds ≡ before + (worked w.code count sheet marks (q place)).rounds
    → marks' ≡ (worked w.code count sheet marks (q place)).marks
    → out ≡ overwrite (worked w.code count sheet marks (q place)).digest out₀
    → record { answer = record { number = 0; count = count; rounds = rounds }; sheet = sheet; marks = marks'; out = out }
    ≡ accepted w (record_save number w place x count claim out₀)
unfolding done_with reworked rounds_before pick one_record
put-together w number place count x claim out₀ before rounds sheet marks marks' out b s c r m o = rw (r, m, o, s, c, b)

-- a save of one record, judged by the number of a call's refusals: it is that call, where the record has its size and the edit is the call's
module _ (w : World) (kind : Kind) (claim out : List ℕ) (place : ℕ) (x : List ℕ) (count : ℕ) {k : ℕ} (e : k ≡ first_of (save_of w (plain kind claim out)).refusals)
    (s : k ≡ 0 → (length x ≡ record_bytes) × (one_record w place x count (cleared w.n count w.marks) ≡ edit_of w kind)) where
  abbrev c : Call
  c = plain kind claim out

  pub judged : k ≡ 0
      → Valid w.code (length w.sheet) w.n (length w.marks) place (length x) count (length c.claim) (length c.out)
  unfolding save_of one_record q
  judged z =
      let p = proper w c in
      let n : first_of (save_of w c).refusals ≡ 0 = sym e ∙ z in
      let f = rw (← (s z).1) at (p.fair n) in
      omega (arith, p.room n, p.claim-size n, f, (s z).0)

  pub saved : {o : SheetOutcome} → o ≡ save_outcome w (record_save k w place x count c.claim c.out) → o ≡ call w c
  unfolding call save_of save_outcome first_of pick
  saved h = h ∙ by_number k refl
    where
      by_number : (j : ℕ) → k ≡ j → save_outcome w (record_save k w place x count c.claim c.out) ≡ call w c
      by_number zero f = rw (← e, f, (s f).1)
      by_number (suc j) f = unfold when_done in rw (← e, f)

-- a build that is done, from its first mark and the work
pub build-together : (code n rounds : ℕ) (sheet marks marks₀ marks' out out' : List ℕ)
    → marks₀ ≡ overwrite (mark_of (start (width_at code))) marks → rounds ≡ 0 + (worked code n sheet marks₀ 0).rounds
    → marks' ≡ (worked code n sheet marks₀ 0).marks → out' ≡ overwrite (worked code n sheet marks₀ 0).digest out
    → record { answer = record { number = 0; count = n; rounds = rounds }; sheet = sheet; marks = marks'; out = out' }
    ≡ done_with n sheet (worked code n sheet (overwrite (mark_of (start (width_at code))) marks) 0) 0 out
unfolding done_with
build-together code n rounds sheet marks marks₀ marks' out out' z r m o = rw (r, m, o, z)

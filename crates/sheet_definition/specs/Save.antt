-- What every save is: document 01, "Sheet and marks". A save makes an edit of the sheet, under a list of refusals and a claimed digest. Marks are
-- taken as they are found, true or false.
use Rattle.std.specs.Prelude.{ℕ, ◌+◌, Bool, not, List}
use Rattle.sheet_definition.specs.declared.Answer.{Answer}
use Rattle.definition.specs.Buffer.{overwrite, same}
use Rattle.definition.specs.Refusal.{Refusal, DONE, pick, first_of, when_done}
use Rattle.sheet_definition.specs.Sheet.{World, q, rounds_from, check_rounds}
use Rattle.sheet_definition.specs.Marks.{Worked, worked}

-- the answer, and the buffers that were lent as they are at the end
pub record SheetOutcome : Type 0 where
  pub answer : Answer
  pub sheet : List ℕ
  pub marks : List ℕ
  pub out : List ℕ

-- "A refusal writes nothing, returns the count it was given" and reports rounds
unfoldable pub refused_with : World → (out : List ℕ) → (number rounds : ℕ) → SheetOutcome
refused_with w out number rounds =
    record { answer = record { number = number; count = w.n; rounds = rounds }; sheet = w.sheet; marks = w.marks; out = out }

-- a call that is done: the sheet it leaves and its count, what was worked out over it, and the rounds that were run before that
unfoldable pub done_with : (n : ℕ) → (sheet : List ℕ) → Worked → (before : ℕ) → (out : List ℕ) → SheetOutcome
done_with n sheet k before out =
    record {
      answer = record { number = DONE; count = n; rounds = before + k.rounds };
      sheet = sheet;
      marks = k.marks;
      out = overwrite k.digest out;
    }

-- what a save makes of a sheet: records first to past - 1 are all that it touches, and the sheet and its count afterwards are these; its work
-- starts from the mark of the group of the first, with the marks as these are. Where it works on nothing, the check was its work
pub record Edit : Type 0 where
  pub first : ℕ
  pub past : ℕ
  pub count : ℕ
  pub sheet : List ℕ
  pub marks : List ℕ
  pub works : Bool

-- a save: the refusals of its arguments in their order, the digest claimed, the number that answers a stale claim, its edit, and the buffer for
-- the digest
pub record Save : Type 0 where
  pub refusals : List Refusal
  pub claim : List ℕ
  pub stale_number : ℕ
  pub edit : Edit
  pub out : List ℕ

-- "The digest of the sheet held is worked out from mark q"
unfoldable pub checked : World → Worked
checked w = worked w.code w.n w.sheet w.marks (q w.n)

-- "If the claim differs, the save is stale."
unfoldable pub stale_claim : World → (claim : List ℕ) → Bool
stale_claim w claim = not (same claim (checked w).digest)

-- the work on from the mark of the first record's group, under the new count
unfoldable pub reworked : World → Edit → Worked
reworked w e = worked w.code e.count e.sheet e.marks (q e.first)

-- the rounds that were run before the work: those of the check, where they aren't the work's own
unfoldable pub rounds_before : World → Edit → ℕ
rounds_before w e = pick e.works (checked w).rounds 0

-- refused by its arguments, with "0 rounds"; stale, which "reports r + 1 + F"; or done, after the check
unfoldable pub save_outcome : World → Save → SheetOutcome
save_outcome w s =
    when_done (first_of s.refusals)
    (pick (stale_claim w s.claim)
    (refused_with w s.out s.stale_number (checked w).rounds)
    (done_with s.edit.count s.edit.sheet (reworked w s.edit) (rounds_before w s.edit) s.out))
    (refused_with w s.out (first_of s.refusals) 0)

-- the rounds of a save that is done: those of the check, and those from the mark used to the new end
unfoldable pub save_rounds : World → Edit → ℕ
save_rounds w e = pick e.works (check_rounds w.code w.n) 0 + rounds_from w.code e.count (q e.first)

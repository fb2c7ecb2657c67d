-- A save of one record, judged by a number: change, append and drop are this one form with another record, place and count (document 01,
-- "Sheet and marks").
use Rattle.std.specs.Prelude.{◌≡◌, true, List, [], ◌∷◌, ℕ, ◌+◌, ◌*◌, ◌≤◌}
use Rattle.definition.specs.Luffa.{bytes_at}
use Rattle.definition.specs.Refusal.{STALE}
use Rattle.sheet_definition.specs.Sheet.{World, most, record_bytes, mark_words, q}
use Rattle.sheet_definition.specs.Save.{Save}
use Rattle.sheet_definition.specs.SheetCalls.{one_record}
use Rattle.sheet_marks.specs.Total.{cleared}

-- the numbers that the arguments keep to where none of them is refused, from n records to count; lengths stand for the buffers
pub record Valid (code sheet n marks place record' count claim out : ℕ) : Type 0 where
  pub out-room : bytes_at code ≤ out
  pub few : n ≤ most
  pub sheet-room : record_bytes * n ≤ sheet
  pub marks-room : mark_words * (q n + 1) ≤ marks
  pub size : record' ≡ record_bytes
  pub claim-size : claim ≡ bytes_at code
  pub in_groups : q place ≤ q count
  pub record-room : record_bytes * place + record_bytes ≤ sheet
  pub new_few : count ≤ most
  pub new_sheet_room : record_bytes * count ≤ sheet
  pub new_marks_room : mark_words * (q count + 1) ≤ marks

-- the number stands for the list that gave it; mark q is zeroed where records become fewer and r = 0
abbrev pub record_save : (number : ℕ) → World → (place : ℕ) → (record' : List ℕ) → (count : ℕ) → (claim out : List ℕ) → Save
record_save number w place x count claim out =
    record {
      refusals = (number, true) ∷ [];
      claim = claim;
      stale_number = STALE;
      edit = one_record w place x count (cleared w.n count w.marks);
      out = out;
    }

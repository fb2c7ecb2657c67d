-- The numbers that documents 01 and 02 give the refusals, and what C is answered of a judgement: the number, or 0 where nothing refuses.
use Rattle.std.specs.Prelude.{ℕ, Result, Ok, Err}
use Rattle.definition.specs.Refusal.{DONE, WIDTH, OUT, RECORD, LONG, SHEET, MARKS, PLACE, FULL, SIZE, CLAIM, STALE, WORDS, BATCH, SET, OWN, STALE_TAIL, ODD, BACK, HOPS, UNSOUND, WELL, REACH, PLACES, COLUMNS, LIST}
use Rattle.refusals.specs.declared.Refusal.{Refusal}
use Rattle.refusals.specs.declared.Refusal.TheVariants.{Width, Out, Record, Long, Sheet, Marks, Place, Full, Size, Claim, Stale, Words, Batch, Set, Own, StaleTail, Odd, Back, Hops, Unsound, Well, Reach, Places, Columns, Lists}

abbrev pub number : Refusal → ℕ
number Width = WIDTH
number Out = OUT
number Record = RECORD
number Long = LONG
number Sheet = SHEET
number Marks = MARKS
number Place = PLACE
number Full = FULL
number Size = SIZE
number Claim = CLAIM
number Stale = STALE
number Words = WORDS
number Batch = BATCH
number Set = SET
number Own = OWN
number StaleTail = STALE_TAIL
number Odd = ODD
number Back = BACK
number Hops = HOPS
number Unsound = UNSOUND
number Well = WELL
number Reach = REACH
number Places = PLACES
number Columns = COLUMNS
number Lists = LIST

abbrev pub number_of : {A : Type 0} → Result A Refusal → ℕ
number_of (Ok a) = DONE
number_of (Err r) = number r

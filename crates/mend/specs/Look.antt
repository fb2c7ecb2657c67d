-- What looking at one mark beside a state comes to: whether it has other words, what is noted, and what is left of the marks.
use Rattle.std.specs.Prelude.{ℕ, ◌+◌, ◌*◌, Bool, true, false, not, List, Some}
use Rattle.std.specs.Option.{option_or}
use Rattle.definition.specs.declared.State.{State}
use Rattle.definition.specs.Block.{words_of_all}
use Rattle.definition.specs.State.{five}
use Rattle.definition.specs.Buffer.{overwrite_at, same}
use Rattle.definition.specs.Refusal.{pick}
use Rattle.sheet_definition.specs.Sheet.{mark_words}
use Rattle.sheet_definition.specs.Marks.{mark_at}
use Rattle.mend.specs.declared.Found.{Found}

-- all words of mark m are compared, those of unused blocks too
unfoldable pub other : (marks : List ℕ) → (m : ℕ) → State → Bool
other marks m s = not (same (mark_at marks m) (words_of_all (five s)))

-- one more that is wrong, and the first if there was none
unfoldable pub noted : Bool → (m : ℕ) → Found → Found
noted true m f = record { wrong = f.wrong + 1; first = option_or f.first (Some m) }
noted false m f = f

-- the state's words in its place
unfoldable pub put : Bool → (m : ℕ) → State → (marks : List ℕ) → List ℕ
put b m s marks = pick b (overwrite_at (mark_words * m) (words_of_all (five s)) marks) marks

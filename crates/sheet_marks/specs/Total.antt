-- What reading and clearing a mark does where the marks are too short: zero is read, and nothing is written. So callers owe no bound.
use Rattle.std.specs.Prelude.{Bool, true, false, List, [], ℕ, ◌+◌, ◌-◌, ◌*◌, leb, length, replicate}
use Rattle.definition.specs.declared.Block.{Block}
use Rattle.definition.specs.declared.State.{State}
use Rattle.definition.specs.declared.Width.{Width}
use Rattle.definition.specs.Block.{zero_block}
use Rattle.definition.specs.State.{state_of}
use Rattle.sheet_definition.specs.Sheet.{mark_words, q}
use Rattle.sheet_definition.specs.Marks.{mark_at, state_from}
use Rattle.octets.specs.Total.{write_at}

-- a block of a mark where w uses it, else zero
unfoldable pub when_used : Bool → Block → Block
when_used true b = b
when_used false b = zero_block

-- the state that mark m holds where there are as many marks, else zero
unfoldable pub state_when : Bool → State → State
state_when true s = s
state_when false s = state_of []

unfoldable pub state_at : Width → (marks : List ℕ) → (m : ℕ) → State
state_at w marks m = state_when (leb (mark_words * (m + 1)) (length marks)) (state_of (state_from w (mark_at marks m)))

-- a sheet of n records becomes one of count: the marks past its new last one are zeroed
unfoldable pub cleared : (n count : ℕ) → (marks : List ℕ) → List ℕ
cleared n count marks = write_at (mark_words * (q count + 1)) (replicate (mark_words * (q n - q count)) 0) marks

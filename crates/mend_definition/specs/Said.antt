-- The words in which mending is proved: document 02, Q-8, "Afterwards the marks are those that build would leave". One set of marks is compared
-- with another, and saves may begin at a build or at a mend.
use Rattle.std.specs.Prelude.{◌≡◌, ◌↔◌, ℕ, zero, suc, ◌+◌, ◌*◌, ◌<◌, ◌≤◌, List, length, drop, None, Some}
use Rattle.definition.specs.Buffer.{same}
use Rattle.definition.specs.Refusal.{pick}
use Rattle.sheet_definition.specs.Sheet.{World, mark_words, q}
use Rattle.sheet_definition.specs.Marks.{mark_at}
use Rattle.sheet_definition.specs.SheetCalls.{build_outcome}
use Rattle.sheet_definition.specs.Run.{left}
use Rattle.mend_definition.specs.Mend.{Saying, MendOutcome, mend}

-- how many of the first k marks differ
unfoldable pub differing : (right found : List ℕ) → (k : ℕ) → ℕ
differing right found zero = 0
differing right found (suc k) = differing right found k + pick (same (mark_at found k) (mark_at right k)) 0 1

-- mark m is the lowest of them that does
pub record Lowest (right found : List ℕ) (k m : ℕ) : Type 0 where
  pub among : m < k
  pub differs : mark_at found m ≡ mark_at right m → ⊥
  pub before : (j : ℕ) → j < m → mark_at found j ≡ mark_at right j

-- what a mend says of the marks that it found, beside those that are right
pub record Says (w : World) (right : List ℕ) (a : Saying) : Type 0 where
  pub wrong : a.wrong ≡ differing right w.marks (q w.n + 1)
  pub first : (m : ℕ) → (a.first ≡ Some m) ↔ Lowest right w.marks (q w.n + 1) m
  pub none : (a.first ≡ None) ↔ (a.wrong ≡ 0)
  pub nothing_written : (a.wrong ≡ 0) ↔ (right ≡ w.marks)

-- "sheet bytes and words past the last mark are untouched", and so are the lengths
pub record MendStays (w : World) (o : MendOutcome) : Type 0 where
  pub sheet_same : o.sheet ≡ w.sheet
  pub marks-size : length o.marks ≡ length w.marks
  pub marks_behind : (m : ℕ) → q w.n ≤ m → drop (mark_words * (m + 1)) o.marks ≡ drop (mark_words * (m + 1)) w.marks

-- nothing is altered, and nothing said but the number: "each saying none"
pub record MendRefused (w : World) (o : MendOutcome) : Type 0 where
  pub sheet_same : o.sheet ≡ w.sheet
  pub marks_same : o.marks ≡ w.marks
  pub none_wrong : o.answer.wrong ≡ 0
  pub no_first : o.answer.first ≡ None
  pub no_rounds : o.answer.rounds ≡ 0

-- what saves may begin at
pub data Opening : Type 0 where
  Build : (out : List ℕ) → Opening
  Mend : Opening

-- its answer's number, and the world that it leaves
unfoldable pub opening_number : World → Opening → ℕ
opening_number w (Build out) = (build_outcome w.code w.sheet w.n w.marks out).answer.number
opening_number w Mend = (mend w).answer.number

unfoldable pub opened : World → Opening → World
opened w (Build out) = left w.code (build_outcome w.code w.sheet w.n w.marks out)
opened w Mend = record { code = w.code; n = w.n; sheet = (mend w).sheet; marks = (mend w).marks }

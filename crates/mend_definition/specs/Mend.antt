-- Mending marks: document 02, Q-8, by its sentences. The true state of mark m is document 01's: worked out from the starting variables and the
-- sheet alone, never from marks found.
use Rattle.std.specs.Prelude.{ℕ, zero, suc, ◌+◌, ◌*◌, Bool, not, List, [], ◌∷◌, ◌++◌, length, Option, None, Some, unwrap_or, Result, Ok, Err}
use Rattle.definition.specs.Buffer.{overwrite_at, same}
use Rattle.definition.specs.Refusal.{Refusal, DONE, pick, first_of, when_done, width_refusal}
use Rattle.refusals.specs.declared.Refusal.{Refusal as Reason}
use Rattle.refusals.specs.Number.{number}
use Rattle.sheet_definition.specs.Sheet.{World, mark_words, q}
use Rattle.sheet_definition.specs.Marks.{mark_at, mark_of, state_after}
use Rattle.sheet_definition.specs.Refusals.{sheet_refusal, marks_refusal}
use Rattle.sheet_definition.specs.SheetCalls.{lent}
use Rattle.mend_definition.specs.declared.Mended.{Mended}
use Rattle.mend_definition.specs.declared.MendAnswer.{MendAnswer}

-- "the true state", as a mark holds it: unused blocks are zero
unfoldable pub true_mark : World → (m : ℕ) → List ℕ
true_mark w m = mark_of (state_after w.code w.sheet m)

-- "every mark that isn't the true state"; all 40 words count, for "A mark with a word set in an unused block is wrong."
unfoldable pub is_wrong : World → (m : ℕ) → Bool
is_wrong w m = not (same (mark_at w.marks m) (true_mark w m))

-- it "replaces every mark that isn't the true state": the words, those of the first k marks that are wrong replaced
unfoldable pub replaced : World → (k : ℕ) → List ℕ
replaced w zero = w.marks
replaced w (suc k) = pick (is_wrong w k) (overwrite_at (mark_words * k) (true_mark w k) (replaced w k)) (replaced w k)

-- those of the first k marks that are wrong, in order
unfoldable pub wrong_of : World → (k : ℕ) → List ℕ
wrong_of w zero = []
wrong_of w (suc k) = wrong_of w k ++ pick (is_wrong w k) (k ∷ []) []

-- "which was first or that none was"
unfoldable pub first_in : List ℕ → Option ℕ
first_in [] = None
first_in (m ∷ ms) = Some m

-- "and says how many were wrong, which was first or that none was, and the rounds", beside the number of a refusal or 0
pub record Saying : Type 0 where
  pub number : ℕ
  pub wrong : ℕ
  pub first : Option ℕ
  pub rounds : ℕ

unfoldable pub saying : (number : ℕ) → (wrong : List ℕ) → (rounds : ℕ) → Saying
saying number wrong rounds = record { number = number; wrong = length wrong; first = first_in wrong; rounds = rounds }

-- "which are five for each full group"
unfoldable pub mend_rounds : (n : ℕ) → ℕ
mend_rounds n = 5 * q n

-- "Refusals: 1, 5, 6", by numbers and by the lengths of the buffers
unfoldable pub mend_refusals : World → List Refusal
mend_refusals w = width_refusal w.code ∷ sheet_refusal w.n (length w.sheet) ∷ marks_refusal w.n (length w.marks) ∷ []

-- what it says, and the buffers that were lent as they are at the end
pub record MendOutcome : Type 0 where
  pub answer : Saying
  pub sheet : List ℕ
  pub marks : List ℕ

-- a sheet of n records has marks 0 to q
abbrev pub mended : World → MendOutcome
mended w = record { answer = saying DONE (wrong_of w (q w.n + 1)) (mend_rounds w.n); sheet = w.sheet; marks = replaced w (q w.n + 1) }

-- "each saying none"
abbrev pub refused_by : (number : ℕ) → World → MendOutcome
refused_by number w = record { answer = saying number [] 0; sheet = w.sheet; marks = w.marks }

unfoldable pub mend : World → MendOutcome
mend w = let number : ℕ = first_of (mend_refusals w) in when_done number (mended w) (refused_by number w)

-- by the arguments of the call
abbrev pub mend_outcome : (code : ℕ) → (sheet : List ℕ) → (n : ℕ) → (marks : List ℕ) → MendOutcome
mend_outcome code sheet n marks = mend (lent code sheet n marks)

-- what the mender says, by what it answers: where it is refused "each saying none"
abbrev pub saying_of : Result Mended Reason → Saying
saying_of (Ok m) = record { number = DONE; wrong = m.wrong; first = m.first; rounds = m.rounds }
saying_of (Err r) = record { number = number r; wrong = 0; first = None; rounds = 0 }

-- and for C, where the first is 0 if there is none
abbrev pub mend_answer : Saying → MendAnswer
mend_answer a = record { number = a.number; wrong = a.wrong; first = unwrap_or a.first 0; rounds = a.rounds }

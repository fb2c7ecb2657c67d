-- What C is answered of a sheet call, from what it leaves or why it is turned away: document 01, "Sheet and marks".
use Rattle.std.specs.Prelude.{ℕ, Result, Ok, Err}
use Rattle.definition.specs.Refusal.{DONE}
use Rattle.refusals.specs.Number.{number}
use Rattle.sheet_definition.specs.declared.Answer.{Answer}
use Rattle.sheet_work.specs.declared.Saved.{Saved}
use Rattle.sheet_work.specs.declared.Turned.{Turned}

-- "A refusal writes nothing, returns the count it was given" and reports rounds
abbrev pub answer_of : (n : ℕ) → Result Saved Turned → Answer
answer_of n (Ok s) = record { number = DONE; count = s.count; rounds = s.rounds }
answer_of n (Err t) = record { number = number t.refusal; count = n; rounds = t.rounds }

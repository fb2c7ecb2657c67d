-- What C is answered of a call's `Result`: the number, with the working state that was lent, or with the rounds.
use Rattle.std.specs.Prelude.{ℕ, Result}
use Rattle.std.specs.Result.{result_unwrap_or}
use Rattle.hash_definition.specs.declared.Kept.{Kept}
use Rattle.hash_definition.specs.declared.Lent.{Lent}
use Rattle.hash_definition.specs.declared.OutputAnswer.{OutputAnswer}
use Rattle.refusals.specs.declared.Refusal.{Refusal}
use Rattle.refusals.specs.Number.{number_of}

-- a refused call leaves the working state as it was
abbrev pub lent_of : Result Kept Refusal → (before : Kept) → Lent
lent_of r before = record { number = number_of r; kept = result_unwrap_or r before }

-- and reports 0 rounds
abbrev pub answer_of : Result ℕ Refusal → OutputAnswer
answer_of r = record { number = number_of r; rounds = result_unwrap_or r 0 }

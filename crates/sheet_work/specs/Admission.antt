-- What a save comes to before it writes: refused by its arguments, stale, or to go on (document 01, "Sheet and marks").
use Rattle.std.specs.Prelude.{ℕ, List, [], ◌∷◌, Result, Ok, Err}
use Rattle.definition.specs.Refusal.{DONE, STALE, first_of, when_done}
use Rattle.refusals.specs.Number.{number}
use Rattle.sheet_definition.specs.Sheet.{World}
use Rattle.sheet_definition.specs.Save.{checked, stale_claim}
use Rattle.sheet_work.specs.declared.Turned.{Turned}

-- the number that refuses it, or 0, and the rounds run so far
pub record Admitted : Type 0 where
  pub number : ℕ
  pub rounds : ℕ

abbrev pub admitted : Result ℕ Turned → Admitted
admitted (Ok rounds) = record { number = DONE; rounds = rounds }
admitted (Err t) = record { number = number t.refusal; rounds = t.rounds }

-- by the number that its arguments were judged by; a check's rounds are counted whether or not the claim is stale
unfoldable pub admission : (number : ℕ) → World → (claim : List ℕ) → Admitted
admission number w claim =
    when_done number
    (record { number = first_of ((STALE, stale_claim w claim) ∷ []); rounds = (checked w).rounds })
    (record { number = number; rounds = 0 })

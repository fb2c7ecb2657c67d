-- The refusals of a call in two parts, before and after the well is looked for.
use Rattle.std.specs.Prelude.{ℕ, not, List, [], ◌∷◌, ltb, length}
use Rattle.definition.specs.Refusal.{Refusal, HOPS, UNSOUND, WELL, REACH}
use Rattle.sheet_definition.specs.Refusals.{sheet_refusal}
use Rattle.plan_definition.specs.Some.{some}
use Rattle.plan_definition.specs.Well.{wells}
use Rattle.plan_definition.specs.Check.{sound}
use Rattle.plan_definition.specs.Rules.{has_number}

abbrev pub front_refusals : (sheet : List ℕ) → (n hops : ℕ) → List Refusal
front_refusals sheet n hops = sheet_refusal n (length sheet) ∷ (HOPS, ltb 3 hops) ∷ (UNSOUND, not (sound (wells n sheet))) ∷ []

abbrev pub well_refusals : (sheet : List ℕ) → (n number reached : ℕ) → List Refusal
well_refusals sheet n k reached = (WELL, not (some (has_number k) (wells n sheet))) ∷ (REACH, ltb reached n) ∷ []

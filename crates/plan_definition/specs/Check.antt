-- The check of content: document 02, Q-1. "The check says sound, or gives the lowest faulty place with the first broken rule."
use Rattle.std.specs.Prelude.{ℕ, zero, suc, Bool, true, false, List, [], ◌∷◌, length, get_or}
use Rattle.definition.specs.Refusal.{Refusal, first_of, when_done}
use Rattle.sheet_definition.specs.Refusals.{sheet_refusal}
use Rattle.plan_definition.specs.declared.Well.{Well}
use Rattle.plan_definition.specs.declared.Rule.{Rule}
use Rattle.plan_definition.specs.declared.Rule.TheVariants.{Number, Kind, LinkCount, Rate, Links, Shares, UnusedLinks, Repeat}
use Rattle.plan_definition.specs.declared.Verdict.{Verdict}
use Rattle.plan_definition.specs.declared.Verdict.TheVariants.{Refused, Sound, Fault}
use Rattle.plan_definition.specs.declared.ContentAnswer.{ContentAnswer}
use Rattle.plan_definition.specs.Well.{wells}
use Rattle.plan_definition.specs.Rules.{rule_number, rules_at}

-- the rule that has a number from 1 to 8; the first entry stands for none
unfoldable pub rule_of : ℕ → Rule
rule_of k = get_or (Repeat ∷ Number ∷ Kind ∷ LinkCount ∷ Rate ∷ Links ∷ Shares ∷ UnusedLinks ∷ []) k Repeat

-- a place with the number of the first rule broken there: 0 leaves the verdict to the places after it
unfoldable pub found_at : (number place : ℕ) → (rest : Verdict) → Verdict
found_at zero place rest = rest
found_at (suc k) place rest = Fault (rule_of (suc k)) place

-- the first fault of some wells among all wells of their sheet
unfoldable pub first_fault : (all some : List Well) → Verdict
first_fault all [] = Sound
first_fault all (w ∷ ws) = found_at (first_of (rules_at all w)) w.place (first_fault all ws)

-- whether Q-1 faults a sheet, as the requests that stand on it ask
unfoldable pub says_sound : Verdict → Bool
says_sound (Refused number) = false
says_sound Sound = true
says_sound (Fault rule place) = false

unfoldable pub sound : List Well → Bool
sound ws = says_sound (first_fault ws ws)

-- "Refusals: 5 only"
unfoldable pub check_refusals : (n sheet : ℕ) → List Refusal
check_refusals n sheet = sheet_refusal n sheet ∷ []

unfoldable pub verdict : (sheet : List ℕ) → (n : ℕ) → Verdict
verdict sheet n =
    let number : ℕ = first_of (check_refusals n (length sheet)) in
    when_done number (first_fault (wells n sheet) (wells n sheet)) (Refused number)

-- this paper's numbers of a verdict: a refusal's, the rule's and the place; what a case doesn't have is 0
abbrev pub answer_of : Verdict → ContentAnswer
answer_of (Refused number) = record { number = number; rule = 0; place = 0 }
answer_of Sound = record { number = 0; rule = 0; place = 0 }
answer_of (Fault rule place) = record { number = 0; rule = rule_number rule; place = place }

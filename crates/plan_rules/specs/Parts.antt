-- The parts in which a well is held to the rules: those that ask after its own numbers, and those that go through its links or look at other
-- wells.
use Rattle.std.specs.Prelude.{ℕ, Bool, false, not, ◌&&◌, ◌||◌, List, eqb, take, drop}
use Rattle.definition.specs.Refusal.{Refusal}
use Rattle.plan_definition.specs.declared.Link.{Link}
use Rattle.plan_definition.specs.declared.Well.{Well}
use Rattle.plan_definition.specs.Some.{some}
use Rattle.plan_definition.specs.Rules.{no_share, total, rules_by}

-- the first four rules, which ask nothing of the other wells
unfoldable pub shape_rules : Well → List Refusal
shape_rules w = take 4 (rules_by (λ k. false) (λ k. false) w)

-- the other four
unfoldable pub link_rules : (is_injector is_earlier : ℕ → Bool) → Well → List Refusal
link_rules is_injector is_earlier w = drop 4 (rules_by is_injector is_earlier w)

-- the rule of the shares, over the used links
unfoldable pub misshared : (count : ℕ) → List Link → Bool
misshared count ls = not (eqb count 0) && (some no_share ls || not (eqb (total ls) 1000))

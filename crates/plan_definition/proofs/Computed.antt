-- The line `unfolding everything` opens all definitions of the check, so that the checker computes them.
use Rattle.definition.specs.Refusal.{pick, first_of, when_done}
use Rattle.sheet_definition.specs.Refusals.{sheet_refusal}
use Rattle.sheet_definition.specs.Sheet.{cut}
use Rattle.sheet_definition.specs.Struck.{all_zero}
use Rattle.plan_definition.specs.Some.{some}
use Rattle.plan_definition.specs.Well.{two, four, link_at, well_of, wells_from, wells}
use Rattle.plan_definition.specs.Rules.{producer, injector, used, unused, breaks_number, breaks_kind, differ, breaks_link_count, breaks_rate, names_same, misnamed, breaks_links, no_share, total, breaks_shares, not_zero, breaks_unused_links, struck, has_number, breaks_repeat, is_injector_of, is_before, rules_by, rules_at}
use Rattle.plan_definition.specs.Check.{rule_of, found_at, first_fault, says_sound, sound, check_refusals, verdict}

unfoldable pub everything : Unit {0}
unfolding pick first_of when_done sheet_refusal cut all_zero some two four link_at well_of wells_from wells producer injector used unused breaks_number breaks_kind differ breaks_link_count breaks_rate names_same misnamed breaks_links no_share total breaks_shares not_zero breaks_unused_links struck has_number breaks_repeat is_injector_of is_before rules_by rules_at rule_of found_at first_fault says_sound sound check_refusals verdict
everything = tt

-- The line `unfolding everything` opens all definitions of Luffa and of the sheet, so that the checker computes them.
use Rattle.definition.specs.Refusal.{rising}
use Rattle.definition.proofs.Computed.{everything as luffas}
use Rattle.sheet_definition.specs.Sheet.{cut, q, r, N, F, rounds_from, build_rounds, check_rounds}
use Rattle.sheet_definition.specs.Struck.{all_zero, standing, old_places, first_struck}
use Rattle.sheet_definition.specs.Refusals.{sheet_refusal, marks_refusal, place_refusal, full_refusal, size_refusal, claim_refusal, build_refusals, change_refusals, append_refusals, drop_refusals, any_past, places_refusal, set_refusal, batch_refusals, list_refusal, close_up_refusals}
use Rattle.sheet_definition.specs.Marks.{held, mark_at, state_from, mark_of, marks_after, rounds_after, worked}
use Rattle.sheet_definition.specs.Save.{refused_with, done_with, checked, stale_claim, reworked, rounds_before, save_outcome, save_rounds}
use Rattle.sheet_definition.specs.SheetCalls.{build_outcome, refusals_of, one_record, past_last, written_at, lowest, past_highest, some, many_records, closed_up, edit_of, save_of, call, close_up_outcome}
use Rattle.sheet_definition.specs.Run.{left, next}

unfoldable pub everything : Unit {0}
unfolding luffas rising cut all_zero standing old_places first_struck q r N F rounds_from build_rounds check_rounds sheet_refusal marks_refusal place_refusal full_refusal size_refusal claim_refusal build_refusals change_refusals append_refusals drop_refusals any_past places_refusal set_refusal batch_refusals list_refusal close_up_refusals held mark_at state_from mark_of marks_after rounds_after worked refused_with done_with checked stale_claim reworked rounds_before save_outcome save_rounds build_outcome refusals_of one_record past_last written_at lowest past_highest some many_records closed_up edit_of save_of call close_up_outcome left next
everything = tt

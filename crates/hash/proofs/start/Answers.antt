-- `hash::start` meets its contract: the two judgements in turn are the list, and past them the whole record is written.
-- Assumes nothing.
use Rattle.std.proofs.Common.{◌≡◌, ℕ, [], ◌∷◌, sym, refl, ap, ◌∙◌, arith}
use borrow.Author.Tests.{eqb-true, not-false}
use Rattle.definition.specs.Refusal.{RECORD, width_refusal, pick, first_of, condition_of}
use Rattle.definition.proofs.Refusals.{fails}
use Rattle.refusals.proofs.Judged.{refused as judged, handed_on, isnt_done, passed}
use Rattle.hash_definition.specs.Record.{record_length, encode}
use Rattle.hash_definition.specs.Calls.{buffer_refusal, start_refusals, start_outcome}
use Rattle.hash_definition.specs.Said.{done}
use Rattle.hash_definition.proofs.Refused.{refused, accepted}
use Rattle.hash_record.proofs.Places.{written-whole}
use Rattle.hash.proofs.start.Goals as goal

pub returns-in_err-known_code : goal.returns-in_err-known_code
unfolding start_outcome start_refusals
returns-in_err-known_code c =
    let r = c.from_residual.ensures.1 in
    refused _ (judged _ _ (_ ∷ []) (_ ∷ []) r c.in_err-known_code.ensures) _ _ (isnt_done _ _ r)

pub returns-in_err-when : goal.returns-in_err-when
unfolding start_outcome start_refusals width_refusal buffer_refusal
returns-in_err-when c =
    let r = c.from_residual-in_err-when.ensures.1 in
    refused _ (handed_on _ _ r ∙ c.in_err-when.ensures ∙ sym (passed (_ ∷ []) (_ ∷ []) (omega arith) c.in_ok-known_code.ensures)) _ _ (isnt_done _ _ r)

-- past the judgements the buffer has 216 bytes
whole : (n : ℕ) → 0 ≡ first_of (buffer_refusal n ∷ []) → n ≡ record_length
unfolding buffer_refusal condition_of pick
whole n e = eqb-true _ _ (not-false _ (fails (_ ∷ []) (omega arith) (sym e) RECORD))

pub returns : goal.returns
unfolding start_outcome start_refusals width_refusal buffer_refusal
returns c =
    ap done (c.encode.ensures ∙ written-whole _ _ (whole _ c.in_ok-when.ensures) ∙ ap encode c.started.ensures)
    ∙ accepted _ (c.in_ok-when.ensures ∙ sym (passed (_ ∷ []) (_ ∷ []) (omega arith) c.in_ok-known_code.ensures)) _ _ refl

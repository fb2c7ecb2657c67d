-- `hash::put_out` meets its contract: the judgements in turn are the list after what was judged before, and the accepted call's rounds are those of
-- the definition.
-- Assumes nothing.
use mathlib.Core.Path.{◌≡◌, sym, ap, ◌∙◌}
use mathlib.Core.List.{List, [], ◌∷◌}
use Prim.Native.Nat.{ℕ, ◌*◌, ◌/◌, ◌<◌, ◌≤◌, min}
use native.Mathlib.Omega.{arith}
use borrow.Author.Tests.{ltb-false}
use Rattle.std.specs.Prelude.{Result, Ok, Err, IsErrAnd}
use lib.ListN.{length, take}
use lib.Seq.{length-take-le}
use Rattle.definition.specs.Buffer.{overwrite}
use Rattle.definition.specs.Word.{bytes_of_all}
use Rattle.definition.specs.Final.{final, final_rounds}
use Rattle.definition.specs.Refusal.{OUT, ODD, pick, first_of, condition_of, out_refusal, when_done}
use Rattle.definition.proofs.Refusals.{fails, then_judged, second_done}
use Rattle.refusals.specs.declared.Refusal.{Refusal}
use Rattle.refusals.specs.Number.{number}
use Rattle.refusals.proofs.Judged.{not_zero}
use Rattle.hash_kept.specs.Answer.{answer_of}
use Rattle.hash_definition.specs.Calls.{odd_refusal, long_refusal}
use Rattle.hash_definition.specs.Record.{count_of}
use Rattle.hash_definition.specs.Output.{output_by}
use Rattle.hash_definition.proofs.Refused.{output-refused, output-accepted}
use Rattle.hash_definition.proofs.Takes.{odd_passed}
use Rattle.hash_pieces.proofs.Staying.{whole_le}
use Rattle.squeeze.proofs.Room.{all_words}
use Rattle.hash.proofs.Message.{whole-message}
use Rattle.hash.proofs.put_out.Goals as goal

-- 2, and then the message's end and its length
by_size : (words out code odd n : ℕ) {room piece number : ℕ} → number ≡ when_done room piece room → room ≡ first_of (out_refusal (4 * words) out ∷ [])
    → piece ≡ first_of (odd_refusal 0 odd n ∷ long_refusal code (count_of 0 0) odd n ∷ [])
    → number ≡ first_of (out_refusal (4 * words) out ∷ odd_refusal 0 odd n ∷ long_refusal code 0 odd n ∷ [])
unfolding out_refusal odd_refusal long_refusal count_of
by_size words out code odd n = then_judged (_ ∷ []) (_ ∷ _ ∷ []) (omega arith)

-- what was judged before decides first
in_order : (words : ℕ) (after before : List ℕ) (r : Result ℕ Refusal) (e : Refusal) {number' : ℕ} → IsErrAnd r (λ y. y ≡ e) → number e ≡ number'
    → record { answer = answer_of r; buffer = before } ≡ output_by number' words after before
in_order words after before (Ok n) e h f = absurd h
in_order words after before (Err y) e h f = rw (← f, ← h) (output-refused (number y) words after before (not_zero y))

pub returns-in_err-in_turn : goal.returns-in_err-in_turn
returns-in_err-in_turn c =
    let a = c.args in
    let size = by_size a.words _ a.code a.odd _ c.in_turn-size.ensures c.room.ensures c.piece.ensures in
    in_order a.words _ _ _ _ c.from_residual.ensures.1 (rw size at c.in_err-in_turn.ensures)

-- past the judgements the output buffer has room, and the message ends as one can
module _ (words out code odd n : ℕ) (none : 0 ≡ first_of (out_refusal (4 * words) out ∷ odd_refusal 0 odd n ∷ long_refusal code 0 odd n ∷ [])) where
  room : 4 * words ≤ out
  unfolding out_refusal odd_refusal long_refusal condition_of pick
  room = ltb-false _ _ (fails (_ ∷ _ ∷ _ ∷ []) (omega arith) (sym none) OUT)

  ends : (odd ≤ 7) × (0 < odd → 0 < n)
  unfolding out_refusal odd_refusal long_refusal condition_of pick
  ends = odd_passed odd n (fails (_ ∷ _ ∷ _ ∷ []) (omega arith) (sym none) ODD)

front : (w : goal.After-start) → length (take w.whole-n.result w.args.message.now) ≡ w.whole-n.result
front w =
    let a = w.args in
    length-take-le _ a.message.now (rw w.whole-n.ensures (whole_le a.odd (length a.message.now)))

pub returns : goal.returns
returns c =
    let a = c.args in
    let out = a.out.now in
    let size = by_size a.words _ a.code a.odd _ c.in_turn-size.ensures c.room.ensures c.piece.ensures in
    let judged = rw size at c.in_ok-in_turn.ensures in
    let none = sym (second_done _ _ (sym judged)) in
    let m = all_words a.words out (room a.words _ a.code a.odd _ none) in
    let e = ends a.words _ a.code a.odd _ none in
    -- what is put out are the words asked for of the state after the padded message
    let z : _ ≡ overwrite (bytes_of_all (final c.width-w.result (min a.words (length out / 4)) _)) out = c.end.ensures.out_after in
    let d =
    (rw (m, c.width-w.ensures) at z)
    ∙ ap (λ (p : List ℕ). overwrite p out)
    (whole-message a.code a.words a.message.now a.odd c.whole-n.result c.closing-byte.result _ (rw c.width-w.ensures at c.start.ensures) e c.whole-n.ensures
    (c.closing-byte.ensures e.0 e.1 c.whole-n.ensures)) in
    let r : c.end.result ≡ final_rounds a.words = rw m at c.end.ensures.value in
    rw (r, d) (output-accepted _ a.words _ _ (sym judged))

pub slice_bounds-end-end : goal.slice_bounds-end-end
slice_bounds-end-end c =
    sym (front c)

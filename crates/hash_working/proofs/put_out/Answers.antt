-- `hash_working::put_out` meets its contract: the judgements in turn are the list after what was judged before, and the accepted call's rounds are
-- those of the definition.
-- Assumes nothing.
use mathlib.Core.Path.{◌≡◌, sym, ap, ◌∙◌}
use mathlib.Core.List.{List, [], ◌∷◌}
use Prim.Native.Nat.{ℕ, ◌*◌, ◌%◌, ◌≤◌}
use native.Mathlib.Omega.{arith}
use borrow.Author.Rules.{rules}
use borrow.Author.Tests.{ltb-false, not-false}
use lib.ListN.{length, get_or, take}
use lib.Seq.{length-take-le}
use Rattle.hash_definition.specs.declared.Kept.{Kept}
use Rattle.definition.specs.Round.{chain}
use Rattle.definition.specs.Width.{width_at}
use Rattle.definition.specs.Padding.{closing_byte, padded, blocks}
use Rattle.definition.specs.Buffer.{overwrite}
use Rattle.definition.specs.Final.{final_rounds}
use Rattle.definition.specs.State.{blocks_in}
use Rattle.definition.specs.Luffa.{output_of}
use Rattle.definition.specs.Refusal.{OUT, RECORD, pick, first_of, condition_of, out_refusal, when_done}
use Rattle.hash_definition.specs.Record.{pending_bytes, output_from}
use Rattle.hash_definition.specs.Lent.{kept_refusal}
use Rattle.definition.proofs.Refusals.{fails, then_judged}
use Rattle.hash_definition.proofs.Feeding.{well_kept_lem}
use Rattle.hash_definition.proofs.Ending.{low_pending, output_closed}
use Rattle.hash_definition.proofs.Refused.{output-accepted}
use Rattle.hash_kept.proofs.Answer.{output_on}
use Rattle.squeeze.proofs.Room.{all_words}
use Rattle.hash_working.proofs.put_out.Goals as goal

-- 3 and then 2
by_both : (k : Kept) (words n : ℕ) {form room number : ℕ} → number ≡ when_done form room form → form ≡ first_of (kept_refusal k ∷ [])
    → room ≡ first_of (out_refusal (4 * words) n ∷ []) → number ≡ first_of (kept_refusal k ∷ out_refusal (4 * words) n ∷ [])
unfolding kept_refusal
by_both k words n = then_judged (_ ∷ []) (_ ∷ []) (omega arith)

pub returns-in_err-in_turn : goal.returns-in_err-in_turn
returns-in_err-in_turn c =
    let f = by_both c.args.k c.args.words _ c.in_err-in_turn.ensures c.form.ensures c.room.ensures in
    output_on _ _ (_ ∷ _ ∷ []) [] c.from_residual.ensures.1 f _ _ _

-- past the judgements the output buffer has room, and the odd bits are seven at most
module _ (k : Kept) (words n : ℕ) (none : 0 ≡ first_of (kept_refusal k ∷ out_refusal (4 * words) n ∷ [])) where
  room : 4 * words ≤ n
  unfolding kept_refusal out_refusal condition_of pick
  room = ltb-false _ _ (fails (_ ∷ _ ∷ []) (omega arith) (sym none) OUT)

  few : k.odd ≤ 7
  unfolding kept_refusal out_refusal condition_of pick
  few = (well_kept_lem _ (not-false _ (fails (_ ∷ _ ∷ []) (omega arith) (sym none) RECORD))).odd_le

-- the pending bytes closed by the byte that holds the odd bits
closed : (k : Kept) (b words : ℕ) → length k.pending ≡ 32 → k.odd ≤ 7 → b ≡ closing_byte k.odd (get_or k.pending (k.low % 32) 0)
    → output_of k.code words (chain (width_at k.code) (blocks_in (width_at k.code) k.state) (blocks (padded b (take (k.low % 32) k.pending))))
    ≡ output_from k words
unfolding pending_bytes
closed k b words l h e = rw (e, low_pending k) (sym (output_closed k words l h))

pub returns : goal.returns
unfolding output_of
returns c =
    let a = c.args in
    let k = a.k in
    let out = a.out.now in
    let none = by_both k a.words _ c.in_ok-in_turn.ensures c.form.ensures c.room.ensures in
    let m = all_words a.words out (room k a.words _ none) in
    -- an array has its length
    let pending : length k.pending ≡ 32 = search rules in
    let o = few k a.words _ none in
    -- what is put out are the words of the state after the padded end
    let d =
    (rw (m, c.width.ensures) at c.end.ensures.out_after)
    ∙ ap (λ (x : List ℕ). overwrite x out) (closed k _ a.words pending o (c.closing-closing.ensures o)) in
    let r : c.end.result ≡ final_rounds a.words = rw m at c.end.ensures.value in
    rw (r, d) (output-accepted _ a.words _ _ (sym none))

-- an array has its length, so the pending bytes stand in front of it, and a byte after them
pub slice_bounds-p-end : goal.slice_bounds-p-end
slice_bounds-p-end c =
    let pending : length c.args.k.pending ≡ 32 = search rules in
    omega (arith, pending)

pub slice_bounds-end-end : goal.slice_bounds-end-end
slice_bounds-end-end c =
    let pending : length c.args.k.pending ≡ 32 = search rules in
    sym (length-take-le _ _ (omega (arith, pending)))

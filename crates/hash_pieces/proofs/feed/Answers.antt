-- `hash_pieces::feed` meets its contract: the judgements in turn are the list, and past them the piece alters what is held, or is fed.
-- Assumes nothing.
use Rattle.std.proofs.Common.{◌≡◌, length, [], ◌∷◌, sym, refl, ap, ◌∙◌, rules}
use Rattle.refusals.proofs.Judged.{refused, handed_on, isnt_done}
use Rattle.hash_definition.specs.declared.Held.{Held}
use Rattle.hash_definition.specs.Record.{with_held, bytes_fed, well_kept}
use Rattle.hash_definition.specs.Lent.{kept_refusal, lent_feed_refusals, lent_feed_bits_outcome}
use Rattle.hash_definition.specs.Said.{taken}
use Rattle.hash_definition.proofs.Refused.{lent-refused, lent-accepted}
use Rattle.hash_definition.proofs.Takes.{takes}
use Rattle.hash_pieces.proofs.Judging.{by_piece}
use Rattle.hash_pieces.proofs.Staying.{short_fed}
use Rattle.hash_pieces.proofs.feed.Goals as goal

pub returns-in_err-form : goal.returns-in_err-form
unfolding lent_feed_bits_outcome lent_feed_refusals kept_refusal
returns-in_err-form c =
    let r = c.from_residual.ensures.1 in
    lent-refused _ (refused _ _ (_ ∷ []) (_ ∷ _ ∷ []) r c.in_err-form.ensures) _ _ (isnt_done _ _ r)

pub returns-in_err-piece : goal.returns-in_err-piece
unfolding lent_feed_bits_outcome
returns-in_err-piece c =
    let r = c.from_residual-in_err-piece.ensures.1 in
    lent-refused _ (handed_on _ _ r ∙ by_piece c.args.hash.now _ _ c.in_ok-form.ensures c.held-h.ensures c.in_err-piece.ensures) _ _ (isnt_done _ _ r)

-- past the judgements no refusal meets the piece
pub fed_bits-requires : goal.fed_bits-requires
fed_bits-requires c =
    (sym (by_piece c.args.hash.now _ _ c.in_ok-form.ensures c.held-h.ensures c.in_ok-piece.ensures), rw c.whole.ensures at c.if-whole-pos.false)

pub returns-then-whole-pos : goal.returns-then-whole-pos
unfolding lent_feed_bits_outcome lent_feed_refusals kept_refusal with_held
returns-then-whole-pos c =
    let a = c.args in
    let k = a.hash.now in
    let none = by_piece k _ _ c.in_ok-form.ensures c.held-h.ensures c.in_ok-piece.ensures in
    -- an array has its length
    let pending : length k.pending ≡ 32 = search rules in
    let t = takes (well_kept k) k.code (bytes_fed k) k.odd a.odd (length a.piece.now) (sym none) in
    ap (λ (h : Held). taken (with_held k h)) (rw c.held-h.ensures at (c.short_fed-s.ensures t.ends.1))
    ∙ ap taken (short_fed k a.piece.now a.odd t.formed pending t.none_held t.within (rw c.whole.ensures at c.if-whole-pos.true))
    ∙ lent-accepted _ none _ _ refl

pub returns-else-whole-pos : goal.returns-else-whole-pos
unfolding lent_feed_bits_outcome
returns-else-whole-pos c =
    let none = by_piece c.args.hash.now _ _ c.in_ok-form.ensures c.held-h.ensures c.in_ok-piece.ensures in
    ap taken c.fed_bits.ensures ∙ lent-accepted _ none _ _ refl

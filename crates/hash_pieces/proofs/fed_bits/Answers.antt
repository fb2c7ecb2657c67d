-- `hash_pieces::fed_bits` meets its contract: the whole bytes are fed, and the odd bits of the last byte end the message where it isn't whole.
-- Assumes nothing.
use Rattle.std.proofs.Common.{◌≡◌, length, take, sym, ◌∙◌, arith, length-take-le}
use Rattle.hash_definition.specs.Record.{bytes_fed, well_kept, fed, ended}
use Rattle.hash_definition.specs.Lent.{kept_refusal, lent_feed_refusals}
use Rattle.hash_definition.proofs.Takes.{Takes, takes}
use Rattle.hash_definition.proofs.Feeding.{fed-pending}
use Rattle.hash_pieces.proofs.Staying.{whole_le, all_whole, not_whole, fed_by_odd, ended_held}
use Rattle.hash_pieces.proofs.fed_bits.Goals as goal

-- no refusal meets the piece
taken : (s : goal.After-whole-n) → Takes (well_kept s.args.k) s.args.k.code (bytes_fed s.args.k) s.args.k.odd s.args.odd (length s.args.piece.now)
unfolding lent_feed_refusals kept_refusal
taken s = takes (well_kept s.args.k) s.args.k.code (bytes_fed s.args.k) s.args.k.odd s.args.odd (length s.args.piece.now) s.requires.0

-- no refusal meets the piece
taken-2 : (s : goal.Then-n-piece) → Takes (well_kept s.args.k) s.args.k.code (bytes_fed s.args.k) s.args.k.odd s.args.odd (length s.args.piece.now)
unfolding lent_feed_refusals kept_refusal
taken-2 s = takes (well_kept s.args.k) s.args.k.code (bytes_fed s.args.k) s.args.k.odd s.args.odd (length s.args.piece.now) s.requires.0

front : (w : goal.After-whole-n) → length (take w.whole-n.result w.args.piece.now) ≡ w.whole-n.result
front w =
    let a = w.args in
    length-take-le _ a.piece.now (rw w.whole-n.ensures (whole_le a.odd (length a.piece.now)))

pub slice_bounds-fed-end : goal.slice_bounds-fed-end
slice_bounds-fed-end c = sym (front c)

pub fed-f-requires : goal.fed-f-requires
fed-f-requires c =
    let t = taken c in
    (t.formed, omega (arith, front c, c.whole-n.ensures, t.within), omega (arith, front c, c.whole-n.ensures, c.requires.1))

pub returns-then-n-piece : goal.returns-then-n-piece
returns-then-n-piece c =
    let a = c.args in
    (rw c.whole-n.ensures at c.fed-f.ensures)
    ∙ all_whole (fed a.k) ended a.piece.now a.odd (sym c.whole-n.ensures ∙ c.if-n-piece.true) (taken-2 c).ends.1
    ∙ fed_by_odd a.k a.piece.now a.odd

pub bounds-piece-n : goal.bounds-piece-n
bounds-piece-n c =
    let a = c.args in
    omega (arith, c.whole-n.ensures, whole_le a.odd (length a.piece.now), c.if-n-piece.false)

pub returns : goal.returns
returns c =
    let a = c.args in
    let piece = a.piece.now in
    (rw (c.ended.ensures, c.held.ensures, c.fed-f.ensures, c.whole-n.ensures) at c.with_held.ensures)
    ∙ ended_held (fed a.k _) a.odd _ (fed-pending a.k _)
    ∙ not_whole (fed a.k) ended piece a.odd (λ q. c.if-n-piece.false (c.whole-n.ensures ∙ q))
    ∙ fed_by_odd a.k piece a.odd

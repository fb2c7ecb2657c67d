-- `hash_pieces::short_fed` meets its contract: whole bytes stay, and the odd bits of the last byte end them where it isn't whole.
-- Assumes nothing.
use Rattle.std.proofs.Common.{length, sym, ◌∙◌, arith, length-take-le}
use Rattle.hash_pieces.specs.Short.{stays_of, ended_of, short_of}
use Rattle.hash_pieces.proofs.Staying.{whole_le, all_whole, not_whole}
use Rattle.hash_pieces.proofs.short_fed.Goals as goal

pub slice_bounds-stays-end : goal.slice_bounds-stays-end
slice_bounds-stays-end c =
    let a = c.args in
    sym (length-take-le _ a.piece.now (rw c.whole-n.ensures (whole_le a.odd (length a.piece.now))))

pub returns-then-n-piece : goal.returns-then-n-piece
unfolding short_of
returns-then-n-piece c =
    let a = c.args in
    λ h. (rw c.whole-n.ensures at c.stays-s.ensures) ∙ all_whole (stays_of a.h) ended_of a.piece.now a.odd (sym c.whole-n.ensures ∙ c.if-n-piece.true) h

pub bounds-piece-n : goal.bounds-piece-n
bounds-piece-n c =
    let a = c.args in
    omega (arith, c.whole-n.ensures, whole_le a.odd (length a.piece.now), c.if-n-piece.false)

pub returns : goal.returns
unfolding short_of
returns c =
    let a = c.args in
    λ h. (rw (c.stays-s.ensures, c.whole-n.ensures) at c.ended.ensures)
    ∙ not_whole (stays_of a.h) ended_of a.piece.now a.odd (λ e. c.if-n-piece.false (c.whole-n.ensures ∙ e))

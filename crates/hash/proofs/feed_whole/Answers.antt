-- `hash::feed_whole` meets its contract: a record is fed as what one reading of it gives, and written where that is done.
-- Assumes nothing.
use Rattle.std.proofs.Common.{ap, ◌∙◌}
use Rattle.definition.specs.Refusal.{when_done}
use Rattle.definition.proofs.Refusals.{not_done}
use Rattle.refusals.proofs.Judged.{not_zero}
use Rattle.hash_definition.specs.Said.{done}
use Rattle.hash.proofs.Read.{feed-read}
use Rattle.hash.proofs.feed_whole.Goals as goal

pub returns-in-Err : goal.returns-in-Err
returns-in-Err c =
    let a = c.args in
    rw (not_done _ _ _ (not_zero c.in-Err.refusal)) at (feed-read a.«record».now a.piece.now a.odd _ (rw c.read-k.ensures at c.in-Err.ensures))

pub returns : goal.returns
unfolding when_done
returns c =
    let a = c.args in
    ap done c.encode.ensures ∙ feed-read a.«record».now a.piece.now a.odd _ (rw c.read-k.ensures at c.in-Ok.ensures)

-- `octets::block` meets its contract, with 32 bytes and with fewer.
-- Assumes nothing.
use mathlib.Core.Path.{◌∙◌, ap}
use native.Mathlib.Omega.{arith}
use borrow.Author.Tests.{lt-leb, le-leb}
use Rattle.definition.specs.Block.{block_of}
use Rattle.octets.specs.Total.{block_when, first_block}
use Rattle.octets.proofs.Total.{block-front}
use Rattle.octets.proofs.block.Goals as goal

pub returns-in-None : goal.returns-in-None
unfolding first_block block_when
returns-in-None c = rw (lt-leb 32 _ c.in-None.ensures.cases)

pub returns-in-Some : goal.returns-in-Some
unfolding first_block block_when
returns-in-Some c =
    rw (le-leb 32 _ c.in-Some.ensures.cases.enough)
    (c.full_block.ensures ∙ ap block_of c.in-Some.ensures.cases.same ∙ block-front 32 c.args.t.now (omega arith))

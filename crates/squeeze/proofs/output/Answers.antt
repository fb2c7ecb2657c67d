-- `squeeze::output` meets its contract: what its callees ensure, put together.
-- Assumes nothing.
use Rattle.definition.specs.Block.{xor_all, words_of}
use Rattle.definition.specs.State.{five}
use Rattle.squeeze.proofs.output.Goals as goal

pub returns : goal.returns
unfolding xor_all five words_of
returns c =
    rw
    (c.bitxor-z.ensures, c.bitxor-4.ensures, c.bitxor-3.ensures, c.bitxor-2.ensures, c.bitxor.ensures)

-- `columns::element` meets its contract.
-- Assumes nothing.
use native.Mathlib.Omega.{arith}
use Rattle.definition.specs.Word.{bit, from_bits}
use Rattle.definition.specs.Block.{words_of, block_from}
use Rattle.definition.specs.Field.{element}
use Rattle.columns.proofs.element.Goals as goal

pub returns : goal.returns
unfolding element from_bits words_of block_from bit
returns c = omega arith

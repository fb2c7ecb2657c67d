-- `hash_record::state_in` meets its contract: five blocks where they lie.
-- Assumes nothing.
use mathlib.Core.Path.{◌∙◌}
use native.Mathlib.Omega.{arith}
use Rattle.hash_definition.specs.Record.{block_in, decode}
use Rattle.hash_record.proofs.Places.{part_block}
use Rattle.hash_record.proofs.state_in.Goals as goal

pub returns : goal.returns
unfolding decode block_in
returns c =
    let b = c.args.b.now in
    λ i. record {
      h0 = (c.block.ensures ∙ part_block b 8 208 (omega arith) (omega arith)) i;
      h1 = (c.block-2.ensures ∙ part_block b 40 176 (omega arith) (omega arith)) i;
      h2 = (c.block-3.ensures ∙ part_block b 72 144 (omega arith) (omega arith)) i;
      h3 = (c.block-4.ensures ∙ part_block b 104 112 (omega arith) (omega arith)) i;
      h4 = (c.block-5.ensures ∙ part_block b 136 80 (omega arith) (omega arith)) i;
    }

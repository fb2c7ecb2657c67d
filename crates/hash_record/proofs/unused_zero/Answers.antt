-- `hash_record::unused_zero` meets its contract, at each w.
-- Assumes nothing.
use mathlib.Core.Path.{sym, ap, ◌∙◌}
use mathlib.Core.List.{append-nil}
use native.Mathlib.Omega.{arith}
use lib.ListN.{drop}
use Rattle.definition.specs.Width.{block_count, width_at}
use Rattle.definition.specs.State.{five}
use Rattle.definition.specs.Block.{words_of_all}
use Rattle.hash_definition.specs.Record.{all_zero, decode, block_in}
use Rattle.octets.proofs.Total.{block-front}
use Rattle.hash_definition.proofs.Zeros.{zero-append}
use Rattle.hash_record.proofs.unused_zero.Goals as goal

pub returns-in-W3 : goal.returns-in-W3
unfolding block_count five words_of_all decode block_in
returns-in-W3 c =
    let b = c.args.b.now in
    rw (
      sym (c.width.ensures ∙ ap width_at c.from.ensures) ∙ c.in-W3.is,
      zero-append,
      append-nil,
      c.zero_block.ensures,
      c.zero_block-in-W3.ensures,
      c.full_block.ensures,
      c.full_block-in-W3.ensures,
      block-front 112 (drop 104 b) (omega arith),
      block-front 80 (drop 136 b) (omega arith),
    )

pub returns-in-W4 : goal.returns-in-W4
unfolding block_count five words_of_all decode block_in
returns-in-W4 c =
    let b = c.args.b.now in
    rw (
      sym (c.width.ensures ∙ ap width_at c.from.ensures) ∙ c.in-W4.is,
      append-nil,
      c.zero_block-in-W4.ensures,
      c.full_block-in-W4.ensures,
      block-front 80 (drop 136 b) (omega arith),
    )

pub returns-in-W5 : goal.returns-in-W5
unfolding block_count five words_of_all all_zero decode
returns-in-W5 c = rw (sym (c.width.ensures ∙ ap width_at c.from.ensures) ∙ c.in-W5.is)

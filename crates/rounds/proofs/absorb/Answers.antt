-- `rounds::absorb` meets its contract. The loop's invariant: the rounds that are left to run from here give the whole.
-- Assumes nothing.
use Rattle.std.proofs.Common.{◌≡◌, ◌<◌, List, ℕ, ◌∷◌, ◌++◌, length, sym, ap, ◌∙◌, arith}
use Rattle.std.specs.Slice.Iter.{chunks_exact_rest}
use Rattle.definition.specs.Block.{block_of}
use Rattle.definition.specs.Padding.{blocks}
use Rattle.definition.specs.Counted.{counted_chain}
use Rattle.definition.proofs.Padding.{blocks_none, blocks_one, blocks-append}
use Rattle.rounds.proofs.absorb.Goals as goal

first_block : (x y : List ℕ) → length x ≡ 32 → blocks (x ++ y) ≡ block_of x ∷ blocks y
first_block x y h = blocks-append 1 x y h ∙ rw (blocks_one x h)

pub loop-m-preserved : goal.loop-m-preserved
unfolding counted_chain
loop-m-preserved c =
    let l = c.loop-m in
    let s = c.in-Some.ensures.steps in record {
      size = s.0 ∙ l.invariant.size;
      left = rw (c.counted_round-d.ensures, c.full_block.ensures)
          (ap (counted_chain _ l.d) (sym (ap blocks s.1.0 ∙ first_block _ _ (s.1.1 ∙ l.invariant.size))) ∙ l.invariant.left);
    }

pub returns : goal.returns
unfolding counted_chain
returns c =
    let l = c.loop-m in
    let h : length (chunks_exact_rest l.m-iterator) < 32 = omega (arith, c.in-None.ensures.steps.1.0, l.invariant.size) in
    rw c.used.ensures (ap (counted_chain _ l.d) (sym (blocks_none _ h)) ∙ l.invariant.left)

-- `hash::feed_bits` meets its contract: a piece is fed in place where it completes no block, and else by value.
-- Assumes nothing.
use native.Mathlib.Omega.{arith}
use Rattle.hash.proofs.ShortFeed.{waiting_le}
use Rattle.hash.proofs.feed_bits.Goals as goal

pub overflow_sub-waiting : goal.overflow_sub-waiting
overflow_sub-waiting c = omega (arith, c.waiting.ensures, waiting_le c.args.«record».now)

pub feed_short-requires : goal.feed_short-requires
feed_short-requires c =
    rw (c.waiting.ensures, c.whole-n.ensures) at c.if-n-waiting.true

pub returns-then-n-waiting : goal.returns-then-n-waiting
returns-then-n-waiting c =
    c.feed_short.ensures

pub returns : goal.returns
returns c =
    c.feed_whole.ensures

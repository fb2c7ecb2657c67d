-- `injection_back::unspread` meets its contract: the sum of the blocks that w uses, divided, doubled and added to each.
-- Assumes nothing.
use Rattle.definition.specs.State.{state_of}
use Rattle.injection_back.specs.Parts.{inverse_at}
use Rattle.injection_back.proofs.Parts.{sum-used, spread_used}
use Rattle.injection_back.proofs.unspread.Goals as goal

pub returns : goal.returns
unfolding state_of
returns c =
    let a = c.args in
    simp (
      c.used.ensures,
      c.with_each.ensures,
      c.double.ensures,
      c.share.ensures,
      c.sum.ensures,
      c.used-e.ensures,
      sum-used a.w a.s,
    )
    (spread_used a.w (inverse_at a.w) a.s)

-- `columns_judge::refusal` meets its contract: the two judgements in turn are the list.
-- Assumes nothing.
use mathlib.Core.List.{[], ◌∷◌}
use native.Mathlib.Omega.{arith}
use Rattle.definition.specs.Refusal.{width_refusal}
use Rattle.definition.proofs.Chain.{count_le}
use Rattle.definition.proofs.Refusals.{then_judged}
use Rattle.columns_definition.specs.Columns.{blocks_at}
use Rattle.columns_judge.proofs.refusal.Goals as goal

pub overflow_mul-n : goal.overflow_mul-n
overflow_mul-n c = rw c.count-n.ensures (omega (arith, count_le c.width.result))

pub returns : goal.returns
unfolding width_refusal blocks_at
returns c =
    then_judged (_ ∷ []) (_ ∷ []) (omega arith) c.in_turn.ensures c.known_code.ensures (rw (c.count-n.ensures, c.width.ensures) at c.lengths.ensures)

-- `hash_back::round` meets its contract: the permutation undone, and the injection.
-- Assumes nothing.
use Rattle.std.proofs.Common.{List, ap, ◌∙◌}
use Rattle.definition.specs.declared.Block.{Block}
use Rattle.definition.specs.declared.State.{State}
use Rattle.definition.specs.State.{blocks_in, state_of}
use Rattle.back_definition.specs.Injection.{inject_back}
use Rattle.back_definition.specs.Round.{round_back}
use Rattle.hash_back.proofs.States.{permuted_used}
use Rattle.hash_back.proofs.round.Goals as goal

pub returns : goal.returns
unfolding round_back
returns c =
    let a = c.args in
    c.inject.ensures
    ∙ ap (λ (s : State). state_of (inject_back a.w (blocks_in a.w s) a.m)) c.permute.ensures
    ∙ ap (λ (x : List Block). state_of (inject_back a.w x a.m)) (permuted_used a.w a.s)

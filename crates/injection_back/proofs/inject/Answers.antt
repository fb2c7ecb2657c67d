-- `injection_back::inject` meets its contract: the message, the rings and the spreading, each undone.
-- Assumes nothing.
use mathlib.Core.Path.{ap, ◌∙◌}
use mathlib.Core.List.{List}
use Rattle.definition.specs.declared.Block.{Block}
use Rattle.definition.specs.State.{blocks_in, state_of}
use Rattle.back_definition.specs.Injection.{unspread}
use Rattle.injection_back.specs.Parts.{inverse_at, unrings_at}
use Rattle.injection_back.proofs.Parts.{less_used, both_parts}
use Rattle.injection_back.proofs.inject.Goals as goal

pub returns : goal.returns
returns c =
    let a = c.args in
    c.unspread.ensures
    ∙ ap (λ (x : List Block). state_of (unspread (inverse_at a.w) x)) c.unrings.ensures
    ∙ ap (λ (x : List Block). state_of (unspread (inverse_at a.w) (unrings_at a.w x)))
    (ap (blocks_in a.w) (rw c.multiples.ensures at c.bitxor.ensures) ∙ less_used a.w a.s a.m)
    ∙ ap state_of (both_parts a.w (blocks_in a.w a.s) a.m)

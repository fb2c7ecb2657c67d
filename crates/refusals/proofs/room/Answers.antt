-- `refusals::room` meets its contract: a length divided by four is below the words where the length is below four times as many.
-- Assumes nothing.
use mathlib.Core.Path.{ap, ◌∙◌}
use mathlib.Core.Bool.{Bool}
use mathlib.Core.List.{[], ◌∷◌}
use native.Mathlib.Omega.{arith}
use Rattle.definition.specs.Refusal.{OUT, first_of, out_refusal}
use Rattle.definition.proofs.Conditions.{divided}
use Rattle.refusals.proofs.room.Goals as goal

pub returns : goal.returns
unfolding out_refusal
returns c =
    let a = c.args in
    c.when.ensures ∙ ap (λ (b : Bool). first_of ((OUT, b) ∷ [])) (divided 4 a.out a.words (omega arith))

-- `refusals::in_turn` meets its contract: the second where the first doesn't refuse.
-- Assumes nothing.
use mathlib.Core.Path.{◌≡◌, refl, sym}
use Rattle.std.specs.Prelude.{Result, Ok, Err}
use Rattle.std.specs.Result.{result_and}
use Rattle.definition.specs.Refusal.{when_done}
use Rattle.definition.proofs.Refusals.{not_done}
use Rattle.refusals.specs.declared.Refusal.{Refusal}
use Rattle.refusals.specs.Number.{number_of}
use Rattle.refusals.proofs.Judged.{not_zero}
use Rattle.refusals.proofs.in_turn.Goals as goal

turned : (a b : Result (Unit {0}) Refusal) → number_of (result_and a b) ≡ when_done (number_of a) (number_of b) (number_of a)
unfolding when_done
turned (Ok u) b = refl
turned (Err r) b = sym (not_done (number_of {A = Unit {0}} (Err r)) (number_of b) (number_of {A = Unit {0}} (Err r)) (not_zero r))

pub returns : goal.returns
returns c = rw c.and.ensures (turned c.args.a c.args.b)

-- `step_back::mix_word` meets its contract: a rotation to the right by σ is one to the left by 32 - σ.
-- Assumes nothing.
use Rattle.std.proofs.Common.{◌≡◌, ℕ, ◌-◌, ◌/◌, ◌^◌, ◌<◌, ◌∙◌, mod-eq_of_lt, arith}
use lib.Bits.{or_comm}
use Rattle.std.specs.Int.{w32, rotate_right}
use Rattle.definition.specs.Word.{rotl}
use Rattle.back_definition.specs.Step.{mix_word_back}
use Rattle.step_back.proofs.mix_word.Goals as goal

to_right : (σ a : ℕ) → 0 < σ → σ < 32 → rotate_right w32 a σ ≡ rotl (32 - σ) a
unfolding rotl
to_right σ a p l =
    let m : 32 - σ < 32 = omega arith in
    let e : 32 - (32 - σ) ≡ σ = omega arith in
    rw (mod-eq_of_lt l, mod-eq_of_lt m, e) (or_comm (a / 2 ^ σ) _)

pub returns : goal.returns
unfolding mix_word_back
returns c =
    rw (
      c.rotate_right-x0.ensures ∙ to_right 2 _ (omega arith) (omega arith),
      c.rotate_right-y4.ensures ∙ to_right 14 _ (omega arith) (omega arith),
      c.rotate_right-y0.ensures ∙ to_right 10 _ (omega arith) (omega arith),
      c.rotate_right-z4.ensures ∙ to_right 1 _ (omega arith) (omega arith),
    )

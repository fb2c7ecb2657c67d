-- The generator beside a block is that of 4.4: after i steps it has made 2i applications, in one number or in two words, and the steps taken are
-- those of the constants that it gives.
-- Assumes nothing.
use Rattle.std.proofs.Common.{◌≡◌, ℕ, zero, suc, ◌*◌, ◌^◌, ◌<◌, true, refl, ap, ◌∙◌, arith}
use Rattle.definition.specs.declared.Block.{Block}
use Rattle.definition.specs.declared.Pair.{Pair}
use Rattle.definition.specs.Constant.{f_l, exchanged, initial, constants_from}
use Rattle.definition.specs.AppendixB.{halves_of}
use Rattle.definition.specs.Permutation.{step, steps}
use Rattle.definition.proofs.Constant.{pseudo_step_lem, second-step, still_64, right_half}
use Rattle.permutation.specs.declared.Going.{Going}
use Rattle.permutation.specs.Lanes.{begun, begun_alone, go_on, go_on_pair, go_on_alone, after, fifth_after}
use Rattle.generator.specs.Turns.{applied}
use Rattle.generator.proofs.Turns.{initial_64, applied_64}

-- the generator in the loop: after i steps of Q_j, whichever of the five it is, one number has made 2i applications
pub generator_alone : (i j : ℕ) (a : Block) → (fifth_after i true (begun_alone j a)).t ≡ applied (2 * i) (initial j)
unfolding fifth_after applied go_on
generator_alone zero j a = refl
generator_alone (suc i) j a =
    let e : 2 * suc i ≡ suc (suc (2 * i)) = omega arith in
    rw (e, generator_alone i j a)

-- one step in two words is one step in the number that they are halves of
abbrev halved : Going ℕ → Going Pair
halved g = record { t = halves_of g.t; a = g.a }

went_on : (g : Going ℕ) → g.t < 2 ^ 64 → go_on_pair (halved g) ≡ halved (go_on_alone g)
unfolding go_on
went_on g h =
    λ i. record {
      t = second-step g.t h i;
      a = step (record { left = (pseudo_step_lem g.t h i).right; right = (second-step g.t h i).right }) g.a;
    }

halved_after : (i j : ℕ) (a : Block) → after i (begun j a) ≡ halved (fifth_after i true (begun_alone j a))
unfolding after fifth_after
halved_after zero j a = refl
halved_after (suc i) j a =
    let h : (fifth_after i true (begun_alone j a)).t < 2 ^ 64 = rw (generator_alone i j a) (applied_64 (2 * i) (initial j) (initial_64 j)) in
    ap go_on_pair (halved_after i j a) ∙ went_on (fifth_after i true (begun_alone j a)) h

-- so two words in a lane are the halves of that number
pub generator_after : (i j : ℕ) (a : Block) → (after i (begun j a)).t ≡ halves_of (applied (2 * i) (initial j))
generator_after i j a = ap (λ (g : Going Pair). g.t) (halved_after i j a) ∙ ap halves_of (generator_alone i j a)

-- a step more is a step before the others
step-front : (n : ℕ) (g : Going ℕ) → fifth_after (suc n) true g ≡ fifth_after n true (go_on_alone g)
unfolding fifth_after
step-front zero g = refl
step-front (suc n) g = ap go_on_alone (step-front n g)

-- n steps are those of the n pairs of constants that 4.4 gives
steps-taken : (n t : ℕ) (a : Block) → t < 2 ^ 64 → (fifth_after n true (record { t = t; a = a })).a ≡ steps (constants_from n t) a
unfolding fifth_after steps constants_from go_on
steps-taken zero t a h = refl
steps-taken (suc n) t a h =
    let k : exchanged (f_l t) < 2 ^ 64 = still_64 t h in
    ap (λ (g : Going ℕ). g.a) (step-front n (record { t = t; a = a }))
    ∙ steps-taken n _ _ (still_64 _ k)
    ∙ ap (steps (constants_from n (exchanged (f_l (exchanged (f_l t)))))) (λ i. step (record { left = right_half t h i; right = right_half _ k i }) a)

-- eight steps from the start of Q_j are its steps, in one number and in two words
pub eight_alone : (j : ℕ) (a : Block) → (fifth_after 8 true (begun_alone j a)).a ≡ steps (constants_from 8 (initial j)) a
eight_alone j a = steps-taken 8 (initial j) a (initial_64 j)

pub eight_steps : (j : ℕ) (a : Block) → (after 8 (begun j a)).a ≡ steps (constants_from 8 (initial j)) a
eight_steps j a = ap (λ (g : Going Pair). g.a) (halved_after 8 j a) ∙ eight_alone j a

-- The lanes are stepped one after the other; after the fourth all are.
-- Assumes nothing.
use Rattle.std.proofs.Common.{◌≡◌, ℕ, zero, suc, ◌^◌, ◌<◌, true, List, [], ◌∷◌, sym, refl, ap, ◌∙◌, mod-eq_of_lt, mul-one}
use native.Mathlib.Nat.{div-eq_of_lt}
use lib.Bits.{or_zero_r}
use Rattle.definition.specs.declared.Block.{Block}
use Rattle.definition.specs.declared.Pair.{Pair}
use Rattle.definition.specs.declared.State.{State}
use Rattle.definition.specs.declared.Width.{Width}
use Rattle.definition.specs.declared.Width.TheVariants.{W3, W4, W5}
use Rattle.definition.specs.Word.{rotl}
use Rattle.definition.specs.Constant.{constants}
use Rattle.definition.specs.Permutation.{tweak, permute}
use Rattle.definition.specs.Round.{permute_from}
use Rattle.definition.specs.Width.{block_count}
use Rattle.definition.specs.State.{five, blocks_in, state_of}
use Rattle.permutation.specs.declared.Going.{Going}
use Rattle.permutation.specs.Lanes.{begun, begun_alone, go_on_pair, after, lane, put_lane, lanes_of, stepped, fifth_after, all_after, has_fifth}
use Rattle.permutation.proofs.Generator.{eight_steps, eight_alone}

-- a step on the first n lanes
unfoldable pub run_lanes : (n : ℕ) → List ℕ → List ℕ
run_lanes zero v = v
run_lanes (suc n) v = put_lane n (run_lanes n v) (go_on_pair (lane n (run_lanes n v)))

pub all_lanes : (p q r s : Going Pair) → run_lanes 4 (lanes_of p q r s) ≡ stepped (lanes_of p q r s)
unfolding run_lanes stepped lanes_of
all_lanes p q r s = refl

-- i steps on each of the four, and one more
unfoldable pub lanes_after : (i : ℕ) → List ℕ → List ℕ
lanes_after i v = lanes_of (after i (lane 0 v)) (after i (lane 1 v)) (after i (lane 2 v)) (after i (lane 3 v))

-- such lanes are made of the four that stand in them
pub from_lanes : (i : ℕ) (v v₀ : List ℕ) → v ≡ lanes_after i v₀ → v ≡ lanes_of (lane 0 v) (lane 1 v) (lane 2 v) (lane 3 v)
unfolding lanes_after lanes_of
from_lanes i v v₀ p = rw p refl

pub stepped-after : (i : ℕ) (v v₀ : List ℕ) → v ≡ lanes_after i v₀ → stepped v ≡ lanes_after (suc i) v₀
unfolding lanes_after stepped after lanes_of
stepped-after i v v₀ p = rw p refl

-- the tweak of block 0 is none, on words of 32 bits
rotl-zero : (a : ℕ) → a < 2 ^ 32 → rotl 0 a ≡ a
unfolding rotl
rotl-zero a h = rw (mul-one, mod-eq_of_lt h, div-eq_of_lt h) (or_zero_r a)

pub tweak-zero : (b : Block) → b.a4 < 2 ^ 32 → b.a5 < 2 ^ 32 → b.a6 < 2 ^ 32 → b.a7 < 2 ^ 32 → tweak 0 b ≡ b
unfolding tweak
tweak-zero b h4 h5 h6 h7 =
    rw (rotl-zero b.a4 h4, rotl-zero b.a5 h5, rotl-zero b.a6 h6, rotl-zero b.a7 h7)

-- eight steps from the generator's start are Q_j, but for its tweak
done : (j : ℕ) (b : Block) → (after 8 (begun j (tweak j b))).a ≡ permute j b
unfolding permute constants
done j b = eight_steps j (tweak j b)

done_alone : (j : ℕ) (b : Block) → (fifth_after 8 true (begun_alone j (tweak j b))).a ≡ permute j b
unfolding permute constants
done_alone j b = eight_alone j (tweak j b)

-- eight steps on the tweaked blocks are P on the first w
pub all_permuted : (w : Width) (s : State) → tweak 0 s.h0 ≡ s.h0
    → state_of
    (blocks_in w
    (all_after 8 (has_fifth w)
    (record { h0 = s.h0; h1 = tweak 1 s.h1; h2 = tweak 2 s.h2; h3 = tweak 3 s.h3; h4 = tweak 4 s.h4 })))
    ≡ state_of (permute_from 0 (blocks_in w s))
unfolding blocks_in five block_count permute_from all_after
all_permuted W3 s z = λ i. state_of ((ap (λ (b : Block). (after 8 (begun 0 b)).a) (sym z) ∙ done 0 s.h0) i ∷ done 1 s.h1 i ∷ done 2 s.h2 i ∷ [])
all_permuted W4 s z =
    λ i. state_of ((ap (λ (b : Block). (after 8 (begun 0 b)).a) (sym z) ∙ done 0 s.h0) i ∷ done 1 s.h1 i ∷ done 2 s.h2 i ∷ done 3 s.h3 i ∷ [])
all_permuted W5 s z =
    λ i.
    state_of
    ((ap (λ (b : Block). (after 8 (begun 0 b)).a) (sym z) ∙ done 0 s.h0) i
    ∷ done 1 s.h1 i
    ∷ done 2 s.h2 i
    ∷ done 3 s.h3 i
    ∷ done_alone 4 s.h4 i
    ∷ [])

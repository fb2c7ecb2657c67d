-- The final stage word by word: word k of Z_0 || Z_1 || .. is word k % 8 of the XOR of the blocks after k / 8 + 1 blank rounds.
-- Assumes nothing.
use mathlib.Core.Path.{◌≡◌, refl, ap, ◌∙◌}
use mathlib.Core.List.{List, ◌++◌}
use Prim.Native.Nat.{ℕ, zero, suc, ◌+◌, ◌-◌, ◌*◌, ◌/◌, ◌%◌, ◌<◌}
use native.Mathlib.Decide.{dec_lt}
use native.Mathlib.Omega.{arith}
use lib.ListN.{length, get_or, replicate, get_or-append}
use lib.Seq.{get_or-append-add, length-take-le}
use Rattle.definition.specs.declared.Block.{Block}
use Rattle.definition.specs.declared.State.{State}
use Rattle.definition.specs.declared.Width.{Width}
use Rattle.definition.specs.declared.Width.TheVariants.{W3, W4, W5}
use Rattle.definition.specs.Block.{◌⊕◌, zero_block, xor_all, words_of}
use Rattle.definition.specs.Round.{round, chain}
use Rattle.definition.specs.Width.{block_count}
use Rattle.definition.specs.State.{five, blocks_in, state_of}
use Rattle.definition.specs.Final.{outputs, final_rounds, final}
use Rattle.definition.proofs.Chain.{blocks_of_state, length-chain}

-- n blank rounds
unfoldable pub blank : Width → ℕ → List Block → List Block
blank w n h = chain w h (replicate n zero_block)

pub length-outputs : (w : Width) (n : ℕ) (h : List Block) → length (outputs w n h) ≡ n * 8
unfolding outputs words_of
length-outputs w zero h = refl
length-outputs w (suc n) h = simp (length-outputs w n) (omega arith)

pub length-final : (w : Width) (n : ℕ) (h : List Block) → length (final w n h) ≡ n
unfolding final final_rounds
length-final w n h =
    length-take-le n (outputs w (final_rounds n) h) (omega (arith, length-outputs w (final_rounds n) h))

pub output_at : (w : Width) (n k : ℕ) (h : List Block) → k < n * 8
    → get_or (outputs w n h) k 0 ≡ get_or (words_of (xor_all (blank w (k / 8 + 1) h))) (k % 8) 0
unfolding outputs blank chain words_of
output_at w zero k h e = absurd (omega arith)
output_at w (suc n) k h e =
    let h' : List Block = round w h zero_block in
    let ws : List ℕ = words_of (xor_all h') in
    elim (dec_lt k 8) [
      | yes p ↦
          let a : k / 8 + 1 ≡ 1 = omega arith in
          let b : k % 8 ≡ k = omega arith in
          rw (a, b) (get_or-append ws (outputs w n h') 0 k p)
      | no p ↦
          let a : k / 8 + 1 ≡ suc ((k - 8) / 8 + 1) = omega arith in
          let b : k % 8 ≡ (k - 8) % 8 = omega arith in
          let c : k ≡ 8 + (k - 8) = omega arith in
          rw (a, b) (ap (λ (i : ℕ). get_or (ws ++ outputs w n h') i 0) c
          ∙ get_or-append-add ws (outputs w n h') (k - 8) 0 ∙ output_at w n (k - 8) h' (omega arith))
    ]

-- the XOR of five blocks, those that w doesn't use zero, is that of the first w
xor-used : (w : Width) (s : State) → xor_all (five (state_of (blocks_in w s))) ≡ xor_all (blocks_in w s)
unfolding xor_all five state_of blocks_in block_count ◌⊕◌
xor-used W3 s = refl
xor-used W4 s = refl
xor-used W5 s = refl

pub xor-five : (w : Width) (h : List Block) → length h ≡ block_count w → xor_all (five (state_of h)) ≡ xor_all h
xor-five w h e = rw (blocks_of_state w h e) at (xor-used w (state_of h))

-- blank rounds leave w blocks
pub length_blank : (w : Width) (n : ℕ) (h : List Block) → length h ≡ block_count w → length (blank w n h) ≡ block_count w
unfolding blank
length_blank w n h e = length-chain w h (replicate n zero_block) e

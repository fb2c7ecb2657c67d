-- The generator of 4.4: its two descriptions are one, from any start, and the tables that Appendix B prints agree with it at 79 of their 80
-- entries.
-- Assumes nothing.
use mathlib.Core.Path.{◌≡◌, refl, ap, ◌∙◌}
use mathlib.Core.List.{[], ◌∷◌, map}
use Prim.Native.Nat.{ℕ, zero, suc, ◌+◌, ◌*◌, ◌/◌, ◌%◌, ◌^◌, ◌<◌}
use native.Mathlib.Omega.{arith}
use lib.Bits.{bit_xor, bit_or, or_shifted, xor_lt, xor_block}
use lib.Pow.{high, low, mod-pow-add, shr-shr}
use lib.ListN.{length}
use Rattle.definition.specs.Constant.{g, f_l, t_l, exchanged, constants_from}
use Rattle.definition.specs.AppendixB.{printed, flat, misprints_of, misprints_from, halves_of, pseudo_step, pseudo_constants}
use Rattle.definition.proofs.Computed.{everything}

-- the pseudo code's two masks are g
pub masks : g ≡ 0xc4d6496c_55c61c8d
unfolding everything
masks = refl

both_masks : (c : ℕ) → c * 0xc4d6496c_55c61c8d ≡ c * 0xc4d6496c * 2 ^ 32 + c * 0x55c61c8d
both_masks c = omega arith

-- the exchange of two words
pub exchanged-words : (a b : ℕ) → b < 2 ^ 32 → exchanged (a * 2 ^ 32 + b) ≡ b * 2 ^ 32 + a
unfolding exchanged
exchanged-words a b h = rw (high a 32 h, low a 32 h)

module _ (t : ℕ) (h : t < 2 ^ 64) where
  -- the pseudo code's t_l and t_r after their shifts, and c
  abbrev tl : ℕ
  tl = bit_or (t / 2 ^ 32 * 2 % 2 ^ 32) (t % 2 ^ 32 / 2 ^ 31)

  abbrev tr : ℕ
  tr = t % 2 ^ 32 * 2 % 2 ^ 32

  abbrev c : ℕ
  c = t / 2 ^ 32 / 2 ^ 31

  -- t_r hands its highest bit to t_l
  handed : tl ≡ t / 2 ^ 32 * 2 % 2 ^ 32 + t % 2 ^ 32 / 2 ^ 31
  handed =
      let e : t / 2 ^ 32 * 2 % 2 ^ 32 ≡ t / 2 ^ 32 % 2 ^ 31 * 2 ^ 1 = omega arith in
      rw e (or_shifted (t / 2 ^ 32 % 2 ^ 31) 1 (t % 2 ^ 32 / 2 ^ 31) (omega arith))

  doubled : t * 2 % 2 ^ 64 ≡ tl * 2 ^ 32 + tr
  doubled =
      let e : t * 2 / 2 ^ 32 % 2 ^ 32 ≡ tl = omega (arith, handed) in
      let f : t * 2 % 2 ^ 32 ≡ tr = omega arith in
      mod-pow-add (t * 2) 32 32 ∙ rw (e, f)

  -- and these with the masks: f_L before the SWAP
  abbrev fl : ℕ
  fl = bit_xor tl (c * 0xc4d6496c)

  abbrev fr : ℕ
  fr = bit_xor tr (c * 0x55c61c8d)

  fl_word : fl < 2 ^ 32
  fl_word = xor_lt 32 tl (c * 0xc4d6496c) (omega (arith, handed)) (omega arith)

  fr_word : fr < 2 ^ 32
  fr_word = xor_lt 32 tr (c * 0x55c61c8d) (omega arith) (omega arith)

  in_words : f_l t ≡ fl * 2 ^ 32 + fr
  unfolding f_l
  in_words = rw (masks, doubled, ← (shr-shr t 32 31), both_masks c) (xor_block 32 tl (c * 0xc4d6496c) tr (c * 0x55c61c8d) (omega arith) (omega arith))

  swapped : exchanged (f_l t) ≡ fr * 2 ^ 32 + fl
  swapped = ap exchanged in_words ∙ exchanged-words fl fr fr_word

  -- both leave a number of 64 bits
  pub f_64 : f_l t < 2 ^ 64
  f_64 = rw in_words (omega (arith, fl_word, fr_word))

  pub still_64 : exchanged (f_l t) < 2 ^ 64
  still_64 = rw swapped (omega (arith, fl_word, fr_word))

  -- the pseudo code's step is f_L and the exchange, on any number of 64 bits
  pub pseudo_step_lem : pseudo_step (halves_of t) ≡ halves_of (exchanged (f_l t))
  unfolding pseudo_step
  pseudo_step_lem = rw (swapped, high fr 32 fl_word, low fr 32 fl_word)

  -- t_R after the exchange is t_L before it
  pub right_half : exchanged (f_l t) % 2 ^ 32 ≡ t_l (f_l t)
  unfolding t_l
  right_half = rw (swapped, in_words, high fl 32 fr_word, low fr 32 fl_word)

-- and two of its steps
pub second-step : (t : ℕ) → t < 2 ^ 64 → pseudo_step (pseudo_step (halves_of t)) ≡ halves_of (exchanged (f_l (exchanged (f_l t))))
second-step t h = ap pseudo_step (pseudo_step_lem t h) ∙ pseudo_step_lem (exchanged (f_l t)) (still_64 t h)

-- so the pseudo code, which takes t_r after the SWAP, gives the words of the equations, which take t_L before it, from any start
pub descriptions_agree : (n t : ℕ) → t < 2 ^ 64 → pseudo_constants (n + n) (halves_of t) ≡ flat (constants_from n t)
unfolding pseudo_constants flat constants_from
descriptions_agree zero t h = refl
descriptions_agree (suc n) t h =
    let k : exchanged (f_l t) < 2 ^ 64 = still_64 t h in
    let e : suc n + suc n ≡ suc (suc (n + n)) = omega arith in
    let first : (pseudo_step (halves_of t)).right ≡ t_l (f_l t) = rw (pseudo_step_lem t h) (right_half t h) in
    let second : (pseudo_step (pseudo_step (halves_of t))).right ≡ t_l (f_l (exchanged (f_l t))) = rw (second-step t h) (right_half _ k) in
    rw e (λ i. first i ∷ second i ∷ (ap (pseudo_constants (n + n)) (second-step t h) ∙ descriptions_agree n _ (still_64 _ k)) i)

-- eighty entries are printed, sixteen for each block
pub eighty : map length printed ≡ 16 ∷ 16 ∷ 16 ∷ 16 ∷ 16 ∷ []
unfolding printed
eighty = refl

-- all are the generator's but block 1, step 5, word 4, which is printed with nine digits
pub misprints : misprints_from 0 printed
    ≡ record { block = 1; step = 5; word = 4; print = 0xffaa7ae2b; generated = 0xfaa7ae2b } ∷ []
unfolding everything printed misprints_from misprints_of flat
misprints = refl

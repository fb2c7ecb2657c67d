-- The generator backwards: f_L and the exchange are undone on numbers of 64 bits, and on its way back from its end it gives the constants of the
-- steps from the last on.
-- Assumes nothing.
use Rattle.std.proofs.Common.{◌≡◌, ℕ, suc, ◌+◌, ◌-◌, ◌*◌, ◌/◌, ◌%◌, ◌^◌, ◌<◌, sym, ap, ◌∙◌, add-zero, mod-lt, mod-eq_of_lt, zero-lt-suc, div-add-mod', mul-div_cancel, add-one, arith, shr_lt}
use native.Mathlib.Nat.{mul-mod_left}
use lib.Bits.{bit_xor, bit_and, bit_or, xor_lt, xor_mod, xor_zero_l, or_shifted}
use lib.Pow.{mod-pow-add, shl-shr}
use Rattle.definition.specs.declared.Block.{Block}
use Rattle.definition.specs.Constant.{g, f_l, exchanged, constants_from}
use Rattle.definition.proofs.Constant.{masks, exchanged-words, f_64, still_64, right_half}
use Rattle.generator.specs.Turns.{applied}
use Rattle.generator.proofs.Turns.{masks_out, applied_64}
use Rattle.back_definition.specs.Step.{step_back, steps_back}
use Rattle.back_definition.proofs.Words.{xor-back}
use Rattle.permutation_back.specs.Generator.{f_l_back}

-- the exchange undoes itself
exchanged-back : (t : ℕ) → t < 2 ^ 64 → exchanged (exchanged t) ≡ t
unfolding exchanged
exchanged-back t h = exchanged-words (t % 2 ^ 32) (t / 2 ^ 32) (shr_lt 32 32 h) ∙ div-add-mod' t (2 ^ 32)

-- a bit times the odd g
odd-g : (c : ℕ) → c < 2 → c * g % 2 ≡ c
odd-g c h = rw masks (omega arith)

-- twice a number, in 64 bits, is even, and half of it has all but the highest bit
halved : (t : ℕ) → t * 2 % 2 ^ 64 / 2 ≡ t % 2 ^ 63
halved t =
    let e : t * 2 % 2 ^ 64 ≡ t % 2 ^ 63 * 2 = mod-pow-add (t * 2) 63 1 ∙ rw (shl-shr t 1, mul-mod_left t 2) (add-zero (t % 2 ^ 63 * 2)) in
    rw e (mul-div_cancel (t % 2 ^ 63) (zero-lt-suc 1))

-- f_L undone by its lowest bit
f_l-back : (t : ℕ) → t < 2 ^ 64 → f_l_back (f_l t) ≡ t
unfolding f_l_back f_l
f_l-back t h =
    let c : ℕ = t / 2 ^ 63 in
    let d : ℕ = t * 2 % 2 ^ 64 in
    let z : d % 2 ≡ 0 = omega arith in
    let e : bit_xor d (c * g) % 2 ≡ c = xor_mod d (c * g) 1 ∙ rw (z, odd-g c (omega arith)) (xor_zero_l c) in
    rw (e, xor-back d (c * g), halved t) (div-add-mod' t (2 ^ 63))

-- one application undone
pub turned : (t : ℕ) → t < 2 ^ 64 → f_l_back (exchanged (exchanged (f_l t))) ≡ t
turned t h = ap f_l_back (exchanged-back (f_l t) (f_64 t h)) ∙ f_l-back t h

-- one step's constants, the last pair of those from a number on undone first: with t after two applications of s
pub step_more : (i s : ℕ) (b : Block) → s < 2 ^ 64
    → (let t1 : ℕ = exchanged (f_l s) in
    let t : ℕ = exchanged (f_l t1) in
    step_back (record { left = t1 % 2 ^ 32; right = t % 2 ^ 32 }) (steps_back (constants_from i t) b)) ≡ steps_back (constants_from (suc i) s) b
unfolding constants_from steps_back
step_more i s b h =
    let k : exchanged (f_l s) < 2 ^ 64 = still_64 s h in
    λ n. step_back (record { left = right_half s h n; right = right_half (exchanged (f_l s)) k n }) (steps_back (constants_from i (exchanged (f_l (exchanged (f_l s))))) b)

masked_64 : (c : ℕ) → c < 2 → c * 0xc4d6496c55c61c8d < 2 ^ 64
masked_64 c h = omega arith

top_64 : (c : ℕ) → c < 2 → c * 2 ^ 63 < 2 ^ 64
top_64 c h = omega arith

mask_64 : 0xc4d6496c55c61c8d < 2 ^ 64
mask_64 = omega arith

joined_64 : (a b : ℕ) → a < 2 ^ 32 → b < 2 ^ 32 → a * 2 ^ 32 + b < 2 ^ 64
joined_64 a b h k = omega arith

pub exchanged_64 : (t : ℕ) → t < 2 ^ 64 → exchanged t < 2 ^ 64
unfolding exchanged
exchanged_64 t h = joined_64 (t % 2 ^ 32) (t / 2 ^ 32) (omega arith) (shr_lt 32 32 h)

-- the same as the machine's operations give it: a bit taken from 0 is a mask
pub by_mask : (f : ℕ) → f < 2 ^ 64
    → bit_or (f % 2 * 2 ^ 63 % 2 ^ 64) (bit_xor f (bit_and ((0 + (2 ^ 64 - f % 2)) % 2 ^ 64) 0xc4d6496c55c61c8d) / 2) ≡ f_l_back f
unfolding f_l_back
by_mask f hf =
    let two : f % 2 < 2 = mod-lt f (zero-lt-suc 1) in
    rw (masks_out 64 (f % 2) 0xc4d6496c55c61c8d two mask_64, mod-eq_of_lt (top_64 (f % 2) two), masks)
    (or_shifted (f % 2) 63 _ (shr_lt 63 1 (xor_lt 64 f _ hf (masked_64 (f % 2) two))))

-- the loop's body: two applications undone, and one step with what they gave
pub once_more : (i start t t1 t2 : ℕ) (a b r : Block) → start < 2 ^ 64 → i < 8 → t ≡ applied (2 * (8 - i)) start
    → a ≡ steps_back (constants_from i t) b
    → t1 ≡ f_l_back (exchanged t) → t2 ≡ f_l_back (exchanged t1) → r ≡ step_back (record { left = t1 % 2 ^ 32; right = t % 2 ^ 32 }) a
    → (t2 ≡ applied (2 * (8 - (i + 1))) start) × (r ≡ steps_back (constants_from (i + 1) t2) b)
unfolding applied
once_more i start t t1 t2 a b r k h et ea e1 e2 er =
    let m : ℕ = 2 * (8 - (i + 1)) in
    let s : ℕ = applied m start in
    let hs : s < 2 ^ 64 = applied_64 m start k in
    let u1 : ℕ = exchanged (f_l s) in
    let n : 2 * (8 - i) ≡ suc (suc m) = omega arith in
    let pt : t ≡ exchanged (f_l u1) = et ∙ ap (λ (n : ℕ). applied n start) n in
    let p1 : t1 ≡ u1 = e1 ∙ ap (λ (x : ℕ). f_l_back (exchanged x)) pt ∙ turned u1 (still_64 s hs) in
    let p2 : t2 ≡ s = e2 ∙ ap (λ (x : ℕ). f_l_back (exchanged x)) p1 ∙ turned s hs in
    let q : step_back (record { left = t1 % 2 ^ 32; right = t % 2 ^ 32 }) a ≡ steps_back (constants_from (suc i) s) b = rw (ea, p1, pt) (step_more i s b hs) in
    (p2, er ∙ q ∙ λ n. steps_back (constants_from (sym (add-one i) n) (sym p2 n)) b)

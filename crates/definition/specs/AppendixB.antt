-- The step constants as Appendix B-2 to B-4 of the source print them, c_0 and c_4 of steps 0 to 7 for each block, and the generator's pseudo
-- code of 4.4. No definition of Luffa is by them: they are compared with the generator of Constant.
use Rattle.std.specs.Prelude.{ℕ, zero, suc, ◌*◌, ◌/◌, ◌%◌, ◌^◌, Bool, true, false, List, [], ◌∷◌, ◌++◌, eqb}
use Rattle.std.specs.Int.Bits.{bit_xor, bit_or}
use Rattle.definition.specs.declared.Pair.{Pair}
use Rattle.definition.specs.Constant.{constants}

-- B-2 to B-4: the printed digits; block 1, step 5, word 4 has nine
unfoldable pub printed : List (List ℕ)
printed =
    (0x303994a6 ∷ 0xe0337818 ∷ 0xc0e65299 ∷ 0x441ba90d ∷ 0x6cc33a12 ∷ 0x7f34d442 ∷ 0xdc56983e ∷ 0x9389217f
    ∷ 0x1e00108f ∷ 0xe5a8bce6 ∷ 0x7800423d ∷ 0x5274baf4 ∷ 0x8f5b7882 ∷ 0x26889ba7 ∷ 0x96e1db12 ∷ 0x9a226e9d ∷ [])
    ∷ (0xb6de10ed ∷ 0x01685f3d ∷ 0x70f47aae ∷ 0x05a17cf4 ∷ 0x0707a3d4 ∷ 0xbd09caca ∷ 0x1c1e8f51 ∷ 0xf4272b28
    ∷ 0x707a3d45 ∷ 0x144ae5cc ∷ 0xaeb28562 ∷ 0xffaa7ae2b ∷ 0xbaca1589 ∷ 0x2e48f1c1 ∷ 0x40a46f3e ∷ 0xb923c704 ∷ [])
    ∷ (0xfc20d9d2 ∷ 0xe25e72c1 ∷ 0x34552e25 ∷ 0xe623bb72 ∷ 0x7ad8818f ∷ 0x5c58a4a4 ∷ 0x8438764a ∷ 0x1e38e2e7
    ∷ 0xbb6de032 ∷ 0x78e38b9d ∷ 0xedb780c8 ∷ 0x27586719 ∷ 0xd9847356 ∷ 0x36eda57f ∷ 0xa2c78434 ∷ 0x703aace7 ∷ [])
    ∷ (0xb213afa5 ∷ 0xe028c9bf ∷ 0xc84ebe95 ∷ 0x44756f91 ∷ 0x4e608a22 ∷ 0x7e8fce32 ∷ 0x56d858fe ∷ 0x956548be
    ∷ 0x343b138f ∷ 0xfe191be2 ∷ 0xd0ec4e3d ∷ 0x3cb226e5 ∷ 0x2ceb4882 ∷ 0x5944a28e ∷ 0xb3ad2208 ∷ 0xa1c4c355 ∷ [])
    ∷ (0xf0d2e9e3 ∷ 0x5090d577 ∷ 0xac11d7fa ∷ 0x2d1925ab ∷ 0x1bcb66f2 ∷ 0xb46496ac ∷ 0x6f2d9bc9 ∷ 0xd1925ab0
    ∷ 0x78602649 ∷ 0x29131ab6 ∷ 0x8edae952 ∷ 0x0fc053c3 ∷ 0x3b6ba548 ∷ 0x3f014f0c ∷ 0xedae9520 ∷ 0xfc053c31 ∷ [])
    ∷ []

-- the words of a list of pairs, c_0 and c_4 in turn
unfoldable pub flat : List Pair → List ℕ
flat [] = []
flat (c ∷ cs) = c.left ∷ c.right ∷ flat cs

-- a printed entry that is not the generator's
pub record Misprint : Type 0 where
  pub block : ℕ
  pub step : ℕ
  pub word : ℕ
  pub print : ℕ
  pub generated : ℕ

unless : Bool → Misprint → List Misprint → List Misprint
unless true m ms = ms
unless false m ms = m ∷ ms

-- the misprints among a block's sixteen entries, from the k-th on: two to a step, for words 0 and 4
unfoldable pub misprints_of : (block k : ℕ) → (print generated : List ℕ) → List Misprint
unfolding unless
misprints_of j k [] cs = []
misprints_of j k (p ∷ ps) [] =
    record { block = j; step = k / 2; word = 4 * (k % 2); print = p; generated = 0 } ∷ misprints_of j (suc k) ps []
misprints_of j k (p ∷ ps) (c ∷ cs) =
    unless (eqb p c) (record { block = j; step = k / 2; word = 4 * (k % 2); print = p; generated = c })
    (misprints_of j (suc k) ps cs)

-- the misprints of all blocks, from block j on
unfoldable pub misprints_from : (block : ℕ) → List (List ℕ) → List Misprint
misprints_from j [] = []
misprints_from j (ps ∷ pss) = misprints_of j 0 ps (flat (constants j)) ++ misprints_from (suc j) pss

-- c_L || c_R of B-1 as the two words that the pseudo code begins with
abbrev pub halves_of : ℕ → Pair
halves_of t = record { left = t / 2 ^ 32; right = t % 2 ^ 32 }

-- 4.4, pseudo code: t_l and t_r after a step of the generator, SWAP with it
unfoldable pub pseudo_step : Pair → Pair
pseudo_step t =
    let c : ℕ = t.left / 2 ^ 31 in
    let tl : ℕ = bit_or (t.left * 2 % 2 ^ 32) (t.right / 2 ^ 31) in
    let tr : ℕ = t.right * 2 % 2 ^ 32 in
    record { left = bit_xor tr (c * 0x55c61c8d); right = bit_xor tl (c * 0xc4d6496c) }

-- 4.4, pseudo code: step_const is t_r after the SWAP
unfoldable pub pseudo_constants : ℕ → Pair → List ℕ
pseudo_constants zero t = []
pseudo_constants (suc n) t =
    let t' : Pair = pseudo_step t in
    t'.right ∷ pseudo_constants n t'

-- The step constants by their generator: section 4.4 and Appendix B-1 of the source. t_L || t_R is one number of 64 bits.
-- The generator decides: the tables that Appendix B prints are compared with it in AppendixB.
use Rattle.std.specs.Prelude.{ℕ, zero, suc, ◌+◌, ◌*◌, ◌/◌, ◌%◌, ◌^◌, List, [], ◌∷◌, get_or}
use Rattle.std.specs.Int.Bits.{bit_xor}
use Rattle.definition.specs.declared.Pair.{Pair}

-- 4.4: a polynomial by its exponents, the sum of x^e at x = 2
unfoldable pub polynomial : List ℕ → ℕ
polynomial [] = 0
polynomial (e ∷ es) = 2 ^ e + polynomial es

-- 4.4: g(x) less its heading term x^64
unfoldable pub g : ℕ
g =
    polynomial
    (63 ∷ 62 ∷ 58 ∷ 55 ∷ 54 ∷ 52 ∷ 50 ∷ 49 ∷ 46 ∷ 43
    ∷ 40 ∷ 38 ∷ 37 ∷ 35 ∷ 34 ∷ 30 ∷ 28 ∷ 26 ∷ 24 ∷ 23 ∷ 22
    ∷ 18 ∷ 17 ∷ 12 ∷ 11 ∷ 10 ∷ 7 ∷ 3 ∷ 2 ∷ 0 ∷ [])

-- 4.4: f_L, the LFSR of Galois configuration: times x, less g where x^64 appears
unfoldable pub f_l : ℕ → ℕ
f_l t = bit_xor (t * 2 % 2 ^ 64) (t / 2 ^ 63 * g)

-- 4.4: t_L of t_L || t_R, and t_R || t_L
unfoldable pub t_l : ℕ → ℕ
t_l t = t / 2 ^ 32

unfoldable pub exchanged : ℕ → ℕ
exchanged t = t % 2 ^ 32 * 2 ^ 32 + t / 2 ^ 32

-- 4.4, the equations: c_0 and c_4 of n steps from c_L || c_R; each is t_L before the exchange
unfoldable pub constants_from : ℕ → ℕ → List Pair
constants_from zero t = []
constants_from (suc n) t =
    let t1 : ℕ = f_l t in
    let t2 : ℕ = f_l (exchanged t1) in
    record { left = t_l t1; right = t_l t2 } ∷ constants_from n (exchanged t2)

-- B-1: c_j,L || c_j,R at the start
unfoldable pub initial : ℕ → ℕ
initial j =
    get_or
    (0x181cca53_380cde06
    ∷ 0x5b6f0876_f16f8594
    ∷ 0x7e106ce9_38979cb0
    ∷ 0xbb62f364_92e93c29
    ∷ 0x9a025047_cff2a940
    ∷ [])
    j
    0

-- 4.1 and 4.4: the constants of the eight steps of Q_j
unfoldable pub constants : ℕ → List Pair
constants j = constants_from 8 (initial j)

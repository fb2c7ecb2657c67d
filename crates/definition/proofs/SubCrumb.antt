-- Appendix D's instructions give SubCrumb: on registers of n bits an instruction works at each bit apart, and at one bit the checker
-- computes all sixteen cases of S. The law is of any program of such instructions and any table of sixteen entries.
-- Assumes nothing.
use mathlib.Core.Path.{◌≡◌, refl, sym, ap, ◌∙◌}
use mathlib.Core.Bool.{Bool}
use mathlib.Core.List.{List, [], ◌∷◌, ◌++◌, map}
use Prim.Native.Nat.{ℕ, zero, suc, ◌+◌, ◌*◌, ◌^◌, ◌<◌}
use lib.Bits.{xor_lt, and_lt, or_lt}
use lib.Dec.{T as T', eqb, eqb→eq}
use lib.ListN.{get_or, set, replicate, get_or-map}
use lib.Pow.{ones_sub-lt, pow_pos}
use Rattle.definition.specs.Word.{bit, from_bits}
use Rattle.definition.specs.SubCrumb.{S, sbox_input, sub_word, sub_crumb}
use Rattle.definition.specs.AppendixD.{Instruction, MOV, OR, XOR, AND, NOT, table4, execute, execute_all, results, appendix_d}
use Rattle.definition.proofs.Bits.{bits_at, bit-zero, bit-xor, bit_and_lem, bit_or_lem, bit_not, from_its_bits}
use Rattle.definition.proofs.Cases.{every_bits, at_bits}
use Rattle.definition.specs.Buffer.{Every}
use Rattle.definition.proofs.Every.{every_at, every_set}

-- each register holds a number of n bits
abbrev Below : (n : ℕ) → List ℕ → Type 0
Below n = Every (λ a. a < 2 ^ n)

below_at : (n : ℕ) (rs : List ℕ) → Below n rs → (i : ℕ) → get_or rs i 0 < 2 ^ n
below_at n rs = every_at (λ a. a < 2 ^ n) rs 0 (pow_pos n)

below_set : (n : ℕ) (rs : List ℕ) (d a : ℕ) → Below n rs → a < 2 ^ n → Below n (set rs d a)
below_set n rs d a h k = every_set (λ a. a < 2 ^ n) rs d a k h

below_execute : (n : ℕ) (i : Instruction) (rs : List ℕ) → Below n rs → Below n (execute n i rs)
unfolding execute
below_execute n (MOV d s) rs h = below_set n rs d _ h (below_at n rs h s)
below_execute n (OR d s) rs h = below_set n rs d _ h (or_lt n _ _ (below_at n rs h d) (below_at n rs h s))
below_execute n (XOR d s) rs h = below_set n rs d _ h (xor_lt n _ _ (below_at n rs h d) (below_at n rs h s))
below_execute n (AND d s) rs h = below_set n rs d _ h (and_lt n _ _ (below_at n rs h d) (below_at n rs h s))
below_execute n (NOT d) rs h = below_set n rs d _ h (ones_sub-lt n _)

below-execute_all : (n : ℕ) (is : List Instruction) (rs : List ℕ) → Below n rs → Below n (execute_all n is rs)
unfolding execute_all
below-execute_all n [] rs h = h
below-execute_all n (i ∷ is) rs h = below-execute_all n is (execute n i rs) (below_execute n i rs h)

map-set : (f : ℕ → ℕ) (rs : List ℕ) (d a : ℕ) → map f (set rs d a) ≡ set (map f rs) d (f a)
map-set f [] d a = refl
map-set f (x ∷ rs) zero a = refl
map-set f (x ∷ rs) (suc d) a = ap (λ (l : List ℕ). f x ∷ l) (map-set f rs d a)

module _ (n l : ℕ) (hl : l < n) where
  -- bit l of a register
  reg : (rs : List ℕ) (i : ℕ) → bit l (get_or rs i 0) ≡ get_or (map (bit l) rs) i 0
  reg rs i = sym (rw (bit-zero l) at (get_or-map (bit l) rs i 0))

  execute-bit : (i : Instruction) (rs : List ℕ) → Below n rs → map (bit l) (execute n i rs) ≡ execute 1 i (map (bit l) rs)
  unfolding execute
  execute-bit (MOV d s) rs h = rw (map-set, reg rs s)
  execute-bit (OR d s) rs h = rw (map-set, bit_or_lem, reg rs d, reg rs s)
  execute-bit (XOR d s) rs h = rw (map-set, bit-xor, reg rs d, reg rs s)
  execute-bit (AND d s) rs h = rw (map-set, bit_and_lem, reg rs d, reg rs s)
  execute-bit (NOT d) rs h = rw (map-set, bit_not n l (get_or rs d 0) hl (below_at n rs h d), reg rs d)

  -- a program on words works at each bit apart
  execute_all-bit : (is : List Instruction) (rs : List ℕ) → Below n rs → map (bit l) (execute_all n is rs) ≡ execute_all 1 is (map (bit l) rs)
  unfolding execute_all
  execute_all-bit [] rs h = refl
  execute_all-bit (i ∷ is) rs h = execute_all-bit is (execute n i rs) (below_execute n i rs h) ∙ ap (execute_all 1 is) (execute-bit i rs h)

-- at one bit, the register that holds output k gives bit k of a table of sixteen entries; registers after the four inputs begin as zero
unfoldable pub agrees : (T : ℕ → ℕ) → (program : List Instruction) → (zeros register k : ℕ) → List ℕ → Bool
agrees T program zeros register k bs =
    eqb (get_or (execute_all 1 program (bs ++ replicate zeros 0)) register 0)
    (bit k (T (get_or bs 3 0 * 8 + get_or bs 2 0 * 4 + get_or bs 1 0 * 2 + get_or bs 0 0)))

zeros_below : (n m : ℕ) → Below n (replicate m 0)
zeros_below n zero = tt
zeros_below n (suc m) = (pow_pos n, zeros_below n m)

zeros-bit : (l m : ℕ) → map (bit l) (replicate m 0) ≡ replicate m 0
zeros-bit l zero = refl
zeros-bit l (suc m) = rw (bit-zero l, zeros-bit l m)

module _ (T : ℕ → ℕ) (program : List Instruction) (zeros a0 a1 a2 a3 : ℕ) (h0 : a0 < 2 ^ 32) (h1 : a1 < 2 ^ 32) (h2 : a2 < 2 ^ 32) (h3 : a3 < 2 ^ 32)
  where
    -- the registers as they are loaded, and after the program
    abbrev registers : List ℕ
    registers = a0 ∷ a1 ∷ a2 ∷ a3 ∷ replicate zeros 0

    abbrev after : List ℕ
    after = execute_all 32 program registers

    loaded : Below 32 registers
    loaded = (h0, (h1, (h2, (h3, zeros_below 32 zeros))))

    -- a register's word is the table's word k, from the sixteen cases
    pub word : (register k : ℕ) → T' (every_bits 4 (agrees T program zeros register k))
        → get_or after register 0 ≡ from_bits 32 (λ l. bit k (T (sbox_input a0 a1 a2 a3 l)))
    unfolding sbox_input agrees
    word register k t =
        from_its_bits 32 _ (λ l. bit k (T (sbox_input a0 a1 a2 a3 l))) (below_at 32 after (below-execute_all 32 program registers loaded) register)
        (λ l hl.
        rw (reg 32 l hl after register, execute_all-bit 32 l hl program registers loaded, zeros-bit l zeros)
        (eqb→eq _ _ (at_bits (agrees T program zeros register k) t (bits_at l (a0 ∷ a1 ∷ a2 ∷ a3 ∷ [])))))

-- Appendix D's instructions, read left to right and line by line, give SubCrumb
pub instructions : (a0 a1 a2 a3 : ℕ) → a0 < 2 ^ 32 → a1 < 2 ^ 32 → a2 < 2 ^ 32 → a3 < 2 ^ 32 → appendix_d a0 a1 a2 a3 ≡ sub_crumb a0 a1 a2 a3
unfolding appendix_d sub_crumb sub_word results agrees execute_all execute table4 bit S
instructions a0 a1 a2 a3 h0 h1 h2 h3 =
    let at : (register k : ℕ) → T' (every_bits 4 (agrees S table4 1 register k)) → _ = word S table4 1 a0 a1 a2 a3 h0 h1 h2 h3 in
    λ i. record { x0 = at 4 0 tt i; x1 = at 1 1 tt i; x2 = at 2 2 tt i; x3 = at 3 3 tt i }

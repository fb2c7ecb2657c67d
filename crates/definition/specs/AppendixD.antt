-- SubCrumb by instructions: Appendix D-1 of the source. Nothing is defined by them: that they give SubCrumb is a law.
use Rattle.std.specs.Prelude.{ℕ, ◌-◌, ◌^◌, List, [], ◌∷◌, get_or, set}
use Rattle.std.specs.Int.Bits.{bit_xor, bit_and, bit_or}
use Rattle.definition.specs.declared.Crumb.{Crumb}

-- D-1: an instruction on registers, the one that it writes first
pub data Instruction : Type 0 where
  MOV : ℕ → ℕ → Instruction
  OR : ℕ → ℕ → Instruction
  XOR : ℕ → ℕ → Instruction
  AND : ℕ → ℕ → Instruction
  NOT : ℕ → Instruction

-- Table 4, left to right, line by line
unfoldable pub table4 : List Instruction
table4 =
    MOV 4 0 ∷ OR 0 1 ∷ XOR 2 3
    ∷ NOT 1 ∷ XOR 0 3 ∷ AND 3 4
    ∷ XOR 1 3 ∷ XOR 3 2 ∷ AND 2 0
    ∷ NOT 0 ∷ XOR 2 1 ∷ OR 1 3
    ∷ XOR 4 1 ∷ XOR 3 2 ∷ AND 2 1
    ∷ XOR 1 0
    ∷ []

-- D-1: one instruction on registers of n bits, and each in turn
unfoldable pub execute : (n : ℕ) → Instruction → List ℕ → List ℕ
execute n (MOV d s) rs = set rs d (get_or rs s 0)
execute n (OR d s) rs = set rs d (bit_or (get_or rs d 0) (get_or rs s 0))
execute n (XOR d s) rs = set rs d (bit_xor (get_or rs d 0) (get_or rs s 0))
execute n (AND d s) rs = set rs d (bit_and (get_or rs d 0) (get_or rs s 0))
execute n (NOT d) rs = set rs d (2 ^ n - 1 - get_or rs d 0)

unfoldable pub execute_all : (n : ℕ) → List Instruction → List ℕ → List ℕ
execute_all n [] rs = rs
execute_all n (i ∷ is) rs = execute_all n is (execute n i rs)

-- D-1: x_0 = r4, x_1 = r1, x_2 = r2, x_3 = r3 from a_0 to a_3 in r0 to r3
unfoldable pub results : List ℕ → Crumb
results rs = record { x0 = get_or rs 4 0; x1 = get_or rs 1 0; x2 = get_or rs 2 0; x3 = get_or rs 3 0 }

unfoldable pub appendix_d : (a0 a1 a2 a3 : ℕ) → Crumb
appendix_d a0 a1 a2 a3 = results (execute_all 32 table4 (a0 ∷ a1 ∷ a2 ∷ a3 ∷ 0 ∷ []))

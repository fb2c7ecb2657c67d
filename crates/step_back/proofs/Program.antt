-- What the code runs to undo SubCrumb, as a program of Appendix D's instructions on six registers: the law of such programs then needs the sixteen
-- cases of S undone alone.
-- Assumes nothing.
use mathlib.Core.Path.{◌≡◌}
use mathlib.Core.List.{List, [], ◌∷◌}
use Prim.Native.Nat.{ℕ, ◌^◌, ◌<◌}
use lib.Dec.{T}
use lib.ListN.{get_or}
use Rattle.definition.specs.declared.Crumb.{Crumb}
use Rattle.definition.specs.Word.{bit}
use Rattle.definition.specs.AppendixD.{Instruction, MOV, OR, XOR, AND, NOT, execute, execute_all}
use Rattle.definition.proofs.Cases.{every_bits}
use Rattle.definition.proofs.SubCrumb.{agrees, word}
use Rattle.back_definition.specs.Step.{SBack, word_by, crumb_by, sub_crumb_back}

unfoldable pub program : List Instruction
program =
    MOV 4 2 ∷ OR 4 3 ∷ XOR 2 3
    ∷ XOR 0 4 ∷ XOR 1 4 ∷ MOV 4 2
    ∷ XOR 4 0 ∷ AND 4 1 ∷ XOR 3 4
    ∷ MOV 4 0 ∷ NOT 4 ∷ MOV 5 3
    ∷ AND 5 4 ∷ XOR 1 5 ∷ AND 4 1
    ∷ XOR 2 4 ∷ NOT 3
    ∷ []

-- a_0 to a_3 stand in r0, r3, r2 and r1
unfoldable pub results : List ℕ → Crumb
results rs = record { x0 = get_or rs 0 0; x1 = get_or rs 3 0; x2 = get_or rs 2 0; x3 = get_or rs 1 0 }

pub program-back : (x0 x1 x2 x3 : ℕ) → x0 < 2 ^ 32 → x1 < 2 ^ 32 → x2 < 2 ^ 32 → x3 < 2 ^ 32
    → results (execute_all 32 program (x0 ∷ x1 ∷ x2 ∷ x3 ∷ 0 ∷ 0 ∷ [])) ≡ sub_crumb_back x0 x1 x2 x3
unfolding results sub_crumb_back crumb_by word_by agrees execute_all execute program bit SBack
program-back x0 x1 x2 x3 h0 h1 h2 h3 =
    let at : (register k : ℕ) → T (every_bits 4 (agrees SBack program 2 register k)) → _ = word SBack program 2 x0 x1 x2 x3 h0 h1 h2 h3 in
    λ i. record { x0 = at 0 0 tt i; x1 = at 3 1 tt i; x2 = at 2 2 tt i; x3 = at 1 3 tt i }

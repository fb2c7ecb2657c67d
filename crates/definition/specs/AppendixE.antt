-- The message injection by XOR and doubling alone: Appendix E of the source. Nothing is defined by it: that it gives the matrices is a law.
use Rattle.std.specs.Prelude.{ℕ, zero, suc, ◌+◌, ◌%◌, List, [], ◌∷◌, ◌++◌, map, get_or}
use Rattle.definition.specs.declared.Block.{Block}
use Rattle.definition.specs.declared.Width.{Width}
use Rattle.definition.specs.declared.Width.TheVariants.{W3, W4, W5}
use Rattle.definition.specs.Block.{◌⊕◌, zero_block}
use Rattle.definition.specs.Field.{double}

-- E: a form over blocks, one of them, an XOR, or 0x02 times a form
pub data Form : Type 0 where
  block : ℕ → Form
  ◌⊞◌ : Form → Form → Form
  twice : Form → Form

infixl 60 ◌⊞◌
-- E-1 to E-3: 0x02^j times a form
unfoldable pub power : ℕ → Form → Form
power zero e = e
power (suc j) e = twice (power j e)

-- E-1 to E-3: the XOR of H_0 to H_n
unfoldable pub xor_to : ℕ → Form
xor_to zero = block zero
xor_to (suc n) = xor_to n ⊞ block (suc n)

-- E-2, E-3: η_j for w blocks, of which the last is H_n; for w = 3 it is E-1's form but for the message
unfoldable pub η : (n j : ℕ) → Form
η n j = block j ⊞ twice (xor_to n)

-- E-3: ξ_j
unfoldable pub ξ : ℕ → Form
ξ j = twice (η 4 j) ⊞ η 4 ((j + 1) % 5)

-- E-1, E-2, E-3: X_j but for the message
unfoldable pub without_message : Width → ℕ → Form
without_message W3 j = η 2 j
without_message W4 j = twice (η 3 j) ⊞ η 3 ((j + 3) % 4)
without_message W5 j = twice (ξ j) ⊞ ξ ((j + 4) % 5)

-- E-1, E-2, E-3: X_j for j in turn; block w is the message
unfoldable pub forms : Width → List Form
forms W3 = map (λ j. without_message W3 j ⊞ power j (block 3)) (0 ∷ 1 ∷ 2 ∷ [])
forms W4 = map (λ j. without_message W4 j ⊞ power j (block 4)) (0 ∷ 1 ∷ 2 ∷ 3 ∷ [])
forms W5 = map (λ j. without_message W5 j ⊞ power j (block 5)) (0 ∷ 1 ∷ 2 ∷ 3 ∷ 4 ∷ [])

-- a form's value at a list of blocks, and E's X_0 || .. || X_w-1
unfoldable pub value : List Block → Form → Block
value bs (block i) = get_or bs i zero_block
value bs (e ⊞ f) = value bs e ⊕ value bs f
value bs (twice e) = double (value bs e)

unfoldable pub appendix_e : Width → List Block → Block → List Block
appendix_e w h m = map (value (h ++ (m ∷ []))) (forms w)

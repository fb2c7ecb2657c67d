-- The tables of the codes, at codes that they don't name.
-- Assumes nothing.
use mathlib.Core.Path.{◌≡◌, refl}
use mathlib.Core.List.{[], ◌∷◌}
use Prim.Native.Nat.{ℕ, zero, suc, ◌≤◌}
use native.Mathlib.Omega.{arith}
use Rattle.definition.specs.declared.Width.TheVariants.{W3}
use Rattle.definition.specs.Width.{width_at}
use Rattle.definition.specs.Luffa.{words_at}
use Rattle.definition.proofs.Every.{every_at}

pub width-other : (code : ℕ) → (code ≡ 3 → ⊥) → (code ≡ 4 → ⊥) → width_at code ≡ W3
unfolding width_at
width-other zero a b = refl
width-other (suc zero) a b = refl
width-other (suc (suc zero)) a b = refl
width-other (suc (suc (suc zero))) a b = absurd (a refl)
width-other (suc (suc (suc (suc zero)))) a b = absurd (b refl)
width-other (suc (suc (suc (suc (suc n))))) a b = refl

pub words-other : (code : ℕ) → (code ≡ 1 → ⊥) → (code ≡ 2 → ⊥) → (code ≡ 3 → ⊥) → (code ≡ 4 → ⊥) → words_at code ≡ 0
unfolding words_at
words-other zero a b c d = refl
words-other (suc zero) a b c d = absurd (a refl)
words-other (suc (suc zero)) a b c d = absurd (b refl)
words-other (suc (suc (suc zero))) a b c d = absurd (c refl)
words-other (suc (suc (suc (suc zero)))) a b c d = absurd (d refl)
words-other (suc (suc (suc (suc (suc n))))) a b c d = refl

-- a digest has at most 16 words
pub words_le : (code : ℕ) → words_at code ≤ 16
unfolding words_at
words_le = every_at (λ n. n ≤ 16) (0 ∷ 7 ∷ 8 ∷ 12 ∷ 16 ∷ []) 0 (omega arith) (omega arith)

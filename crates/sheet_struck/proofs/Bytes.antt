-- Bytes whose bits together are none: all of them are zero.
-- Assumes nothing.
use mathlib.Core.Path.{◌≡◌, sym, ap, ◌∙◌}
use mathlib.Core.Bool.{◌&&◌, and-true, and_assoc}
use mathlib.Core.List.{List, [], ◌∷◌}
use Prim.Native.Nat.{ℕ, zero, suc}
use native.Mathlib.Omega.{arith}
use borrow.Author.Tests.{ne_eqb}
use lib.Bits.{bit_or, or_zero_l}
use lib.Dec.{eqb}
use Rattle.std.specs.List.{fold}
use Rattle.std.proofs.lemmas.Nat.{le_or_l}
use Rattle.sheet_definition.specs.Struck.{all_zero}

or_zero : (a b : ℕ) → eqb (bit_or a b) 0 ≡ eqb a 0 && eqb b 0
or_zero zero b = rw or_zero_l
or_zero (suc a) b = rw (ne_eqb (suc a) 0 (λ e. omega arith), ne_eqb (bit_or (suc a) b) 0 (λ e. omega (arith, le_or_l (suc a) b)))

pub together : (s : ℕ) (t : List ℕ) → eqb (fold (λ a x. bit_or a x) s t) 0 ≡ eqb s 0 && all_zero t
unfolding all_zero
together s [] = sym (and-true (eqb s 0))
together s (x ∷ t) = together (bit_or s x) t ∙ ap (λ b. b && all_zero t) (or_zero s x) ∙ and_assoc (eqb s 0) (eqb x 0) (all_zero t)

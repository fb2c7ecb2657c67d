-- A claim compared with the front of a buffer, and a digest that stands there.
-- Assumes nothing.
use mathlib.Core.Path.{◌≡◌, refl, sym, ap, ◌∙◌}
use mathlib.Core.Bool.{Bool, not, ◌&&◌}
use mathlib.Core.List.{List, [], ◌∷◌}
use Prim.Native.Nat.{ℕ, ◌+◌, ◌≤◌}
use native.Mathlib.Omega.{arith}
use lib.Dec.{eqb}
use lib.ListN.{length, take, drop, length-append}
use Rattle.std.specs.List.{starts_with}
use Rattle.std.specs.Cmp.Lexicographic.{pointwise}
use Rattle.definition.specs.Luffa.{bytes_at}
use Rattle.definition.specs.Buffer.{overwrite_at, overwrite, same}
use Rattle.sheet_definition.specs.Marks.{worked}
use Rattle.sheet_definition.proofs.Writes.{length-digest}
use Rattle.sheet_definition.proofs.Fair.{read-written}

pointwise_same : (x y : List ℕ) → pointwise eqb x y ≡ same x y
pointwise_same [] [] = refl
pointwise_same [] (b ∷ y) = refl
pointwise_same (a ∷ x) [] = refl
pointwise_same (a ∷ x) (b ∷ y) = ap (λ (t : Bool). eqb a b && t) (pointwise_same x y)

module _ (code n m : ℕ) (sheet marks claim buffer digest : List ℕ) (h : length claim ≡ bytes_at code)
    (e : digest ≡ overwrite (worked code n sheet marks m).digest buffer) where
  -- a digest that was worked out stands in front of its buffer
  in_front : length claim ≤ length digest
  unfolding overwrite_at
  in_front =
      let d : List ℕ = (worked code n sheet marks m).digest in
      omega (arith, length-digest code n m sheet marks, ap length e, length-append d (drop (0 + length d) buffer))

  -- and is what the claim is compared with
  compared : take (length claim) digest ≡ (worked code n sheet marks m).digest
  compared =
      ap (take (length claim)) e ∙ read-written 0 (length claim) (worked code n sheet marks m).digest buffer (length-digest code n m sheet marks ∙ sym h) (omega arith)

  -- so a buffer that begins with another has another digest
  pub others : {b : Bool} → b ≡ starts_with eqb digest claim → not (same claim (worked code n sheet marks m).digest) ≡ not b
  others f = ap not (sym (f ∙ pointwise_same claim (take (length claim) digest) ∙ ap (same claim) compared))

-- "A faulted sheet contributes to its own count only": nothing else of the answer is other for it, and its content matters to nothing.
-- Assumes nothing.
use mathlib.Core.Path.{◌≡◌, refl, ◌∙◌}
use mathlib.Core.Bool.{Bool, false, not}
use mathlib.Core.List.{List, [], ◌∷◌, ◌++◌}
use Prim.Native.Nat.{ℕ, zero, suc}
use native.Mathlib.Omega.{arith}
use lib.IntN.{ℤ, pos}
use lib.ListN.{length, replicate}
use Rattle.definition.specs.Refusal.{pick}
use Rattle.plan_definition.specs.declared.Well.{Well}
use Rattle.plan_definition.specs.Check.{sound}
use Rattle.brine_definition.specs.Count.{count}
use Rattle.brine_definition.specs.Statement.{batch, page, below_zero, statement_of, brine_outcome}
use Rattle.brine_definition.specs.Said.{OneMore, Alike}
use Rattle.brine_definition.specs.Said.Alike.{none, equal, faulted}
use Rattle.brine_definition.proofs.Sums.{sum_zeros, page-intakes, page-spares}
use Rattle.brine_definition.proofs.Sound.{faulted-rows, faulted-intakes, faulted-spares}

-- zeros are not below zero
pub none_below : (n : ℕ) → count below_zero (replicate n (pos 0)) ≡ 0
unfolding count below_zero pick
none_below zero = refl
none_below (suc n) = omega (arith, none_below n)

module _ (ws : List Well) (e : sound ws ≡ false) where
  -- the answer with a faulted sheet anywhere in the batch, and without it
  pub own_count_only : (front back : List (List Well)) → OneMore (statement_of (front ++ ws ∷ back)) (statement_of (front ++ back))
  unfolding statement_of count pick
  own_count_only [] back = record {
    sound = rw e (omega arith);
    faulted = rw e (omega arith);
    intake = page-intakes ws back ∙ rw (faulted-intakes ws e) (omega (arith, sum_zeros (length ws)));
    overloaded = page-spares ws back below_zero ∙ rw (faulted-spares ws e) (omega (arith, none_below (length ws)));
  }
  own_count_only (v ∷ front) back =
      let i = own_count_only front back in
      record {
        sound = omega arith;
        faulted = omega arith;
        intake = omega (arith, page-intakes v (front ++ ws ∷ back), page-intakes v (front ++ back));
        overloaded = omega (arith, page-spares v (front ++ ws ∷ back) below_zero, page-spares v (front ++ back) below_zero);
      }

-- two batches that differ only within sheets that stay faulted have one page, and as many sound sheets and as many faulted
same_page : {a b : List (List Well)} → Alike a b → page a ≡ page b
unfolding page
same_page none = refl
same_page (equal s) = rw (same_page s)
same_page (faulted {vs} {ws} p q l s) = rw (faulted-rows vs p, faulted-rows ws q, l, same_page s)

same_count : {a b : List (List Well)} (f : Bool → Bool) → Alike a b → count (λ ws. f (sound ws)) a ≡ count (λ ws. f (sound ws)) b
unfolding count
same_count f none = refl
same_count f (equal s) = rw (same_count f s)
same_count f (faulted p q l s) = rw (p, q, same_count f s)

same_statement : {a b : List (List Well)} → Alike a b → statement_of a ≡ statement_of b
unfolding statement_of
same_statement s = rw (same_page s, same_count (λ t. t) s, same_count not s)

-- so they have one outcome
pub content_unread : (s t counts intake : List ℕ) (spare : List ℤ) → length s ≡ length t → Alike (batch counts s) (batch counts t)
    → brine_outcome s counts intake spare ≡ brine_outcome t counts intake spare
unfolding brine_outcome
content_unread s t counts intake spare l a = rw (l, same_page a, same_statement a)

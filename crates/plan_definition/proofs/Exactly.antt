-- Tests put together: one that passes, or fails, exactly where a statement holds, from such tests.
-- Assumes nothing.
use mathlib.Core.Path.{◌≡◌, refl, sym}
use mathlib.Core.Logic.{◌↔◌, ◌⊎◌, inl, inr}
use mathlib.Core.Bool.{Bool, true, false, not, ◌&&◌, ◌||◌, true≢false, false≢true}
use mathlib.Core.List.{List}
use Prim.Native.Nat.{ℕ, ◌<◌, ◌≤◌}
use lib.Dec.{leb, ltb, eqb}
use borrow.Author.Tests.{ltb-true, ltb-false, leb-true, eqb-true, eqb-false, lt-ltb, le-ltb, le-leb, eq-eqb, ne_eqb, not-true, not-false}
use Rattle.definition.proofs.Conditions.{both_true, either_false}
use Rattle.plan_definition.specs.Some.{some, Among}
use Rattle.plan_definition.specs.Rules.{differ}
use Rattle.plan_definition.proofs.Some.{some_true, some_false}

-- a test that passes exactly where A holds, and one that fails exactly there
abbrev pub Passes : Bool → Type 0 → Type 0
Passes b A = (b ≡ true) ↔ A

abbrev pub Fails : Bool → Type 0 → Type 0
Fails b A = (b ≡ false) ↔ A

-- two tests that pass alike are equal, and one that doesn't pass fails
pub alike : {a b : Bool} → (a ≡ true → b ≡ true) → (b ≡ true → a ≡ true) → a ≡ b
alike {a = true} {b = b} f g = sym (f refl)
alike {a = false} {b = true} f g = absurd (false≢true (g refl))
alike {a = false} {b = false} f g = refl

pub not_passing : {a : Bool} → (a ≡ true → ⊥) → a ≡ false
not_passing {a = true} f = absurd (f refl)
not_passing {a = false} f = refl

-- the tests of two numbers
module _ (a b : ℕ) where
  pub less : Passes (ltb a b) (a < b)
  less = (ltb-true a b, lt-ltb a b)

  pub not_less : Fails (ltb a b) (b ≤ a)
  not_less = (ltb-false a b, le-ltb a b)

  pub at_most : Passes (leb a b) (a ≤ b)
  at_most = (leb-true a b, le-leb a b)

  pub equal : Passes (eqb a b) (a ≡ b)
  equal = (eqb-true a b, eq-eqb a b)

  pub not_equal : Fails (eqb a b) (a ≡ b → ⊥)
  not_equal = (eqb-false a b, ne_eqb a b)

-- a test turned round
module _ {a : Bool} {A : Type 0} where
  pub not_passes : Fails a A → Passes (not a) A
  not_passes p = (λ e. p.0 (not-true a e), λ x. rw (p.1 x))

  pub not_fails : Passes a A → Fails (not a) A
  not_fails p = (λ e. p.0 (not-false a e), λ x. rw (p.1 x))

module _ {A B : Type 0} where
  -- two tests of which one passes
  pub either : {a b : Bool} → Passes a A → Passes b B → Passes (a || b) (A ⊎ B)
  either {a = true} p q = (λ e. inl (p.0 refl), λ s. refl)
  either {a = false} {b = b} p q = (λ e. inr (q.0 e), up)
    where
      up : A ⊎ B → b ≡ true
      up (inl x) = absurd (false≢true (p.1 x))
      up (inr y) = q.1 y

  -- two that both fail
  pub neither : {a b : Bool} → Fails a A → Fails b B → Fails (a || b) (A × B)
  neither {a = a} {b = b} p q =
      (λ e. let h = either_false a b e in (p.0 h.0, q.0 h.1), λ h. rw (p.1 h.0) (q.1 h.1))

  -- two tests that both pass
  pub both : {a b : Bool} → Passes a A → Passes b B → Passes (a && b) (A × B)
  both {a = a} {b = b} p q = (λ e. let h = both_true a b e in (p.0 h.0, q.0 h.1), λ h. rw (p.1 h.0) (q.1 h.1))

  -- a second that fails wherever the first passes
  pub where_first : {a b : Bool} → Passes a A → Fails b B → Fails (a && b) (A → B)
  where_first {a = true} p q = (λ e x. q.0 e, λ f. q.1 (f (p.0 refl)))
  where_first {a = false} p q = (λ e x. absurd (false≢true (p.1 x)), λ f. refl)

  -- two tests that don't differ
  pub agree : {a b : Bool} → Passes a A → Passes b B → Fails (differ a b) (A ↔ B)
  unfolding differ
  agree {a = true} {b = true} p q = (λ e. (λ x. q.0 refl, λ y. p.0 refl), λ i. refl)
  agree {a = true} {b = false} p q = (λ e. absurd (true≢false e), λ i. absurd (false≢true (q.1 (i.0 (p.0 refl)))))
  agree {a = false} {b = true} p q = (λ e. absurd (true≢false e), λ i. absurd (false≢true (p.1 (i.1 (q.0 refl)))))
  agree {a = false} {b = false} p q = (λ e. (λ x. absurd (false≢true (p.1 x)), λ y. absurd (false≢true (q.1 y))), λ i. refl)

-- a test of the elements of a list: that some passes, from where each does; and that none does, from where each fails
module _ {A : Type 0} {f : A → Bool} {P : A → Type 0} (l : List A) where
  pub one_of : ((a : A) → Among a l → Passes (f a) (P a)) → Passes (some f l) ((a : A) × Among a l × P a)
  one_of h =
      (λ e. let s = (some_true f l).0 e in (s.0, s.1, (h s.0 s.1).0 s.2), λ s. (some_true f l).1 (s.0, s.1, (h s.0 s.1).1 s.2))

  pub one_passes : ((a : A) → Passes (f a) (P a)) → Passes (some f l) ((a : A) × Among a l × P a)
  one_passes h = one_of (λ a m. h a)

  pub none_passes : ((a : A) → Fails (f a) (P a)) → Fails (some f l) ((a : A) → Among a l → P a)
  none_passes h = (λ e a m. (h a).0 ((some_false f l).0 e a m), λ k. (some_false f l).1 (λ a m. (h a).1 (k a m)))

-- A test of a list: some element passes it exactly when there is one among them that does, and none exactly when each fails.
-- Assumes nothing.
use mathlib.Core.Path.{◌≡◌, refl, sym, ap, ◌∙◌}
use mathlib.Core.Logic.{◌↔◌}
use mathlib.Core.Bool.{Bool, true, false, ◌||◌, false≢true}
use mathlib.Core.List.{List, [], ◌∷◌}
use Prim.Native.Nat.{ℕ, zero, suc, ◌<◌}
use native.Mathlib.Omega.{arith}
use lib.ListN.{length, get_or}
use Rattle.std.specs.List.{list_any}
use Rattle.definition.proofs.Conditions.{either_false, other_way}
use Rattle.plan_definition.specs.Some.{some, Among}
use Rattle.plan_definition.specs.Some.Among.{here, later}

module _ {A : Type 0} where
  -- nothing is among no elements
  pub none_among : {a : A} → Among a [] → ⊥
  none_among = elim [ ]

  -- what holds of an element and of each among others holds of each among them all
  pub among-cons : {a : A} {l : List A} (P : A → Type 0) → P a → ((b : A) → Among b l → P b) → (b : A) → Among b (a ∷ l) → P b
  among-cons P p h b here = p
  among-cons P p h b (later m) = h b m

  -- what stands at an index is among the elements, and each of them stands at one
  pub at_index : (l : List A) (i : ℕ) (d : A) → i < length l → Among (get_or l i d) l
  at_index [] i d h = absurd (omega arith)
  at_index (a ∷ l) zero d h = here
  at_index (a ∷ l) (suc i) d h = later (at_index l i d (omega arith))

  pub index_of : {a : A} {l : List A} → Among a l → (d : A) → (i : ℕ) × (i < length l) × (get_or l i d ≡ a)
  index_of here d = (0, omega arith, refl)
  index_of (later m) d = let s = index_of m d in (suc s.0, omega arith, s.2)

  module _ (f : A → Bool) where
    fails_at : {a : A} {l : List A} → Among a l → some f l ≡ false → f a ≡ false
    unfolding some
    fails_at {a} (here {l = l}) e = (either_false (f a) (some f l) e).0
    fails_at (later {b = b} {l = l} m) e = fails_at m (either_false (f b) (some f l) e).1

    all_fail : (l : List A) → ((a : A) → Among a l → f a ≡ false) → some f l ≡ false
    unfolding some
    all_fail [] h = refl
    all_fail (a ∷ l) h = rw (h a here) (all_fail l (λ b m. h b (later m)))

    -- none passes exactly when each among them fails
    pub some_false : (l : List A) → (some f l ≡ false) ↔ ((a : A) → Among a l → f a ≡ false)
    some_false l = (λ e a m. fails_at m e, all_fail l)

    found : (l : List A) → some f l ≡ true → (a : A) × Among a l × (f a ≡ true)
    unfolding some
    found [] e = absurd (false≢true e)
    found (a ∷ l) e = go (f a) refl e (found l)
      where
        go : (b : Bool) → f a ≡ b → (b || some f l) ≡ true → (some f l ≡ true → (c : A) × Among c l × (f c ≡ true))
            → (c : A) × Among c (a ∷ l) × (f c ≡ true)
        go true p q i = (a, here, p)
        go false p q i = ((i q).0, later (i q).1, (i q).2)

    -- some passes exactly when there is one among them that does
    pub some_true : (l : List A) → (some f l ≡ true) ↔ ((a : A) × Among a l × (f a ≡ true))
    some_true l = (found l, λ p. (other_way (some f l) (some_false l)).1 (λ h. false≢true (sym (h p.0 p.1) ∙ p.2)))

    -- the library's word for it
    pub listed : (l : List A) → list_any f l ≡ some f l
    unfolding some
    listed [] = refl
    listed (a ∷ l) = ap (λ b. f a || b) (listed l)

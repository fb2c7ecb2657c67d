-- A list of refusals, one after the other: which number comes first, and that none holds, in the words of their tests.
-- Assumes nothing.
use mathlib.Core.Path.{◌≡◌, refl}
use mathlib.Core.Logic.{◌↔◌, ◌⊎◌, inl, inr, ⊎_elim}
use mathlib.Core.Bool.{Bool, true, false}
use mathlib.Core.List.{List, [], ◌∷◌}
use Prim.Native.Nat.{ℕ}
use Rattle.definition.specs.Refusal.{Refusal, First, NoneHolds}
use Rattle.definition.specs.Refusal.First.{here, later}
use Rattle.definition.specs.Refusal.NoneHolds.{none, more}
use Rattle.definition.specs.Buffer.{Every}
use Rattle.plan_definition.proofs.Exactly.{Passes, Fails}

-- a refusal before others: its own number, if none of them has it, comes first exactly where its test passes; another number exactly where
-- its test fails and the number comes first of them; and none holds exactly where it doesn't and none of them does
first_of_lem : {k n : ℕ} {b : Bool} {rs : List Refusal} → First k ((n, b) ∷ rs) → ((n ≡ k) × (b ≡ true)) ⊎ ((b ≡ false) × First k rs)
first_of_lem here = inl (refl, refl)
first_of_lem (later f) = inr (refl, f)

none_of : {n : ℕ} {b : Bool} {rs : List Refusal} → NoneHolds ((n, b) ∷ rs) → (b ≡ false) × NoneHolds rs
none_of (more h) = (refl, h)

others : {k : ℕ} {rs : List Refusal} → First k rs → Every (λ r. r.0 ≡ k → ⊥) rs → ⊥
others here h = h.0 refl
others (later f) h = others f h.1

module _ {k : ℕ} {b : Bool} {rs : List Refusal} {A : Type 0} where
  pub its_own : Every (λ r. r.0 ≡ k → ⊥) rs → Passes b A → First k ((k, b) ∷ rs) ↔ A
  its_own h p = (λ f. ⊎_elim (λ s. p.0 s.1) (λ s. absurd (others s.1 h)) (first_of_lem f), λ a. rw (p.1 a) here)

  pub another : {n : ℕ} {B : Type 0} → (n ≡ k → ⊥) → Fails b A → First k rs ↔ B → First k ((n, b) ∷ rs) ↔ (A × B)
  another h p i =
      (λ f. ⊎_elim (λ s. absurd (h s.0)) (λ s. (p.0 s.0, i.0 s.1)) (first_of_lem f), λ s. rw (p.1 s.0) (later (i.1 s.1)))

module _ {n : ℕ} {b : Bool} {A : Type 0} (p : Fails b A) where
  pub none_holds : {rs : List Refusal} {B : Type 0} → NoneHolds rs ↔ B → NoneHolds ((n, b) ∷ rs) ↔ (A × B)
  none_holds i = (λ h. let s = none_of h in (p.0 s.0, i.0 s.1), λ s. rw (p.1 s.0) (more (i.1 s.1)))

  pub last_fails : NoneHolds ((n, b) ∷ []) ↔ A
  last_fails = (λ h. p.0 (none_of h).0, λ a. rw (p.1 a) (more none))

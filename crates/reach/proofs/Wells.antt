-- The wells of a sheet that is searched: they are read from it, are of either kind or struck, and have four links at most.
-- Assumes nothing.
use mathlib.Core.Path.{◌≡◌, refl, sym, ◌∙◌}
use mathlib.Core.Logic.{◌⊎◌, ⊎_elim}
use mathlib.Core.Bool.{Bool, true, false, not, ◌||◌}
use mathlib.Core.List.{List}
use Prim.Native.Nat.{ℕ, ◌<◌, ◌≤◌}
use native.Mathlib.Omega.{arith}
use borrow.Author.Tests.{eqb-true}
use lib.Dec.{eqb}
use Rattle.std.specs.List.{list_any}
use Rattle.std.proofs.lemmas.List.Recursion.{same_from_clauses}
use Rattle.definition.proofs.Conditions.{both_true}
use Rattle.plan_definition.specs.declared.Well.{Well}
use Rattle.plan_definition.specs.Some.{some, Among}
use Rattle.plan_definition.specs.Well.{wells}
use Rattle.plan_definition.specs.Rules.{struck, has_number}
use Rattle.plan_definition.specs.Sound.{KeepsKind, KeepsLinkCount, Sound}
use Rattle.plan_definition.proofs.Exactly.{alike}
use Rattle.plan_definition.proofs.Struck.{nothing-set, of_number}
use Rattle.plan_definition.proofs.Places.{well_at, wells_at}
use Rattle.plan_record.specs.Total.{well_in}
use Rattle.plan_record.proofs.Total.{well_read}
use Rattle.reach.specs.Level.{Searched}

-- whether one passes, in the library's word
pub any_is : {A : Type 0} (f : A → Bool) (l : List A) → some f l ≡ list_any f l
unfolding some
any_is f = same_from_clauses (some f) (list_any f) (λ a b. f a || b) refl (λ _ _. refl) (λ _ _. refl)

-- a well that has a number other than 0 isn't struck
pub numbered : (k : ℕ) (w : Well) → (k ≡ 0 → ⊥) → has_number k w ≡ eqb w.number k
unfolding has_number
numbered k w d = alike (λ e. (both_true (not (struck w)) (eqb w.number k) e).1) (λ e. rw (of_number w (λ z. d (sym (eqb-true _ k e) ∙ z)), e))

module _ {ws : List Well} (keeps : Sound ws) {w : Well} (m : Among w ws) where
  pub either_kind : struck w ≡ false → (w.kind ≡ 1) ⊎ (w.kind ≡ 2)
  unfolding Sound KeepsKind
  either_kind e = (keeps w m e).kind

  pub few-links : w.count ≤ 4
  unfolding Sound KeepsLinkCount
  few-links = go (struck w) refl
    where
      go : (b : Bool) → struck w ≡ b → w.count ≤ 4
      go true e = omega (arith, ((nothing-set w).0 e).1.1.0)
      go false e = let c = (keeps w m e).link-count in ⊎_elim (λ k. (c.0 k).0) (λ k. omega (arith, c.1 k)) (either_kind e)

module _ {sheet : List ℕ} {n : ℕ} (s : Searched sheet n) {i : ℕ} (h : i < n) where
  pub reads : well_in sheet i ≡ well_at i sheet
  reads = well_read sheet i (omega (arith, s.room))

  pub at_among : Among (well_at i sheet) (wells n sheet)
  at_among = (wells_at n sheet (well_at i sheet)).1 (i, h, refl)

  -- a well that was read there
  pub read_at : {w : Well} → w ≡ well_in sheet i → w ≡ well_at i sheet
  read_at e = e ∙ reads

  pub read-among : {w : Well} → w ≡ well_in sheet i → Among w (wells n sheet)
  read-among e = rw (read_at e) at_among

-- what holds of the well at each place holds of each well
pub at_each : (sheet : List ℕ) (n : ℕ) (P : Well → Type 0) → ((p : ℕ) → p < n → P (well_at p sheet)) → (w : Well) → Among w (wells n sheet) → P w
at_each sheet n P h w m = let a = (wells_at n sheet w).0 m in rw a.2 (h a.0 a.1)

-- The wells of a sheet stand at the places below n, one at each; and how a loop over the places finds them one by one.
-- Assumes nothing.
use mathlib.Core.Path.{◌≡◌, refl, sym, ◌∙◌}
use mathlib.Core.Logic.Iff
use mathlib.Core.Logic.{◌↔◌}
use mathlib.Core.Bool.{Bool, true, false, ◌||◌, false≢true}
use mathlib.Core.List.{List, [], ◌∷◌}
use Prim.Native.Nat.{ℕ, zero, suc, ◌+◌, ◌-◌, ◌*◌, ◌<◌}
use native.Mathlib.Omega.{arith}
use lib.ListN.{take, drop}
use lib.Seq.{drop-drop}
use borrow.Author.Tests.{le-ltb}
use Rattle.sheet_definition.specs.Sheet.{cut}
use Rattle.plan_definition.specs.declared.Well.{Well}
use Rattle.plan_definition.specs.Some.{Among}
use Rattle.plan_definition.specs.Some.Among.{here, later}
use Rattle.plan_definition.specs.Well.{well_of, wells_from, wells}
use Rattle.plan_definition.specs.Rules.{has_number, is_before}
use Rattle.plan_definition.proofs.Some.{none_among, among-cons, some_false}
use Rattle.plan_definition.proofs.Exactly.{alike}
use Rattle.plan_definition.proofs.Kept.{earlier}

-- the well at a place, and those from a place on
abbrev pub well_at : (place : ℕ) → (sheet : List ℕ) → Well
well_at place sheet = well_of place (take 40 (drop (40 * place) sheet))

abbrev pub left : (i n : ℕ) → (sheet : List ℕ) → List Well
left i n sheet = wells_from i (cut (n - i) (drop (40 * i) sheet))

module _ (n : ℕ) (sheet : List ℕ) where
  -- from place 0 on they are all wells
  pub left_all : left 0 n sheet ≡ wells n sheet
  unfolding wells
  left_all = let e : n - 0 ≡ n = omega arith in rw e

  -- from a place below n on they are its well and those after it
  pub left_step : (i : ℕ) → i < n → left i n sheet ≡ well_at i sheet ∷ left (suc i) n sheet
  unfolding wells_from cut
  left_step i h =
      let e : n - i ≡ suc (n - suc i) = omega arith in
      let j : 40 * suc i ≡ 40 * i + 40 = omega arith in
      rw (e, j, drop-drop 40 (40 * i) sheet)

  -- from place n on there is none
  pub left_none : left n n sheet ≡ []
  unfolding wells_from cut
  left_none = let e : n - n ≡ 0 = omega arith in rw e

  at_place : (k i : ℕ) (w : Well) → i + k ≡ n → Among w (left i n sheet) → (p : ℕ) × (p < n) × (w ≡ well_at p sheet)
  at_place zero i w e m =
      let z : i ≡ n = omega arith in
      absurd (none_among (rw left_none at (rw z at m)))
  at_place (suc k) i w e m =
      among-cons (λ w. (p : ℕ) × (p < n) × (w ≡ well_at p sheet)) (i, omega arith, refl) (λ v. at_place k (suc i) v (omega arith)) w
      (rw (left_step i (omega arith)) at m)

  placed : (k i p : ℕ) → i + k ≡ p → p < n → Among (well_at p sheet) (left i n sheet)
  placed zero i p e h =
      let z : p ≡ i = omega arith in
      rw (z, left_step i (omega arith)) here
  placed (suc k) i p e h = rw (left_step i (omega arith)) (later (placed k (suc i) p (omega arith) h))

  -- every place below n has its well, and there is no other
  pub wells_at : (w : Well) → Among w (wells n sheet) ↔ ((p : ℕ) × (p < n) × (w ≡ well_at p sheet))
  wells_at w =
      (λ m. at_place n 0 w (omega arith) (rw left_all m), λ s. rw (← left_all, s.2) (placed s.0 0 s.0 (omega arith) s.1))

  -- a place before j has the number
  pub before_exactly : (j k : ℕ) → (is_before (wells n sheet) j k ≡ true) ↔ ((p : ℕ) × (p < n) × (p < j) × (has_number k (well_at p sheet) ≡ true))
  unfolding well_of
  before_exactly j k =
      Iff.trans (earlier (wells n sheet) j k) (
        λ s. let at = (wells_at s.0).0 s.1 in (at.0, at.1, rw at.2 at s.2.0, rw at.2 at s.2.1),
        λ s. (well_at s.0 sheet, (wells_at (well_at s.0 sheet)).1 (s.0, s.1, refl), (s.2, s.3)),
      )

  -- before place 0 there is none
  pub before_none : (k : ℕ) → is_before (wells n sheet) 0 k ≡ false
  unfolding is_before
  before_none k = (some_false _ (wells n sheet)).1 (λ v m. rw (le-ltb v.place 0 (omega arith)))

  -- before the place after i there is place i too
  pub before-step : (i k : ℕ) → i < n
      → is_before (wells n sheet) (suc i) k ≡ (has_number k (well_at i sheet) || is_before (wells n sheet) i k)
  before-step i k h = go (has_number k (well_at i sheet)) refl
    where
      other : has_number k (well_at i sheet) ≡ false → is_before (wells n sheet) (suc i) k ≡ true → is_before (wells n sheet) i k ≡ true
      other e t =
          let s = (before_exactly (suc i) k).0 t in
          let d : s.0 ≡ i → ⊥ = λ q. false≢true (sym e ∙ (rw q at s.3)) in
          (before_exactly i k).1 (s.0, s.1, omega arith, s.3)

      still : is_before (wells n sheet) i k ≡ true → is_before (wells n sheet) (suc i) k ≡ true
      still t = let s = (before_exactly i k).0 t in (before_exactly (suc i) k).1 (s.0, s.1, omega arith, s.3)

      go : (b : Bool) → has_number k (well_at i sheet) ≡ b → is_before (wells n sheet) (suc i) k ≡ (b || is_before (wells n sheet) i k)
      go true e = (before_exactly (suc i) k).1 (i, h, omega arith, e)
      go false e = alike (other e) still

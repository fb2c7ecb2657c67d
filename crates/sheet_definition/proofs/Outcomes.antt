-- A save is refused by its arguments, stale, or done: which of them, and what it answers, for every save.
-- Assumes nothing.
use mathlib.Core.Path.{◌≡◌, refl, sym, ◌∙◌}
use mathlib.Core.Logic.{◌↔◌}
use mathlib.Core.Bool.{Bool, true, false, false≢true}
use mathlib.Core.List.{[], ◌∷◌, ◌++◌}
use Prim.Native.Nat.{ℕ, zero, suc}
use native.Mathlib.Omega.{arith}
use Rattle.definition.specs.Buffer.{Every}
use Rattle.definition.specs.Refusal.{First, pick, first_of, when_done}
use Rattle.sheet_definition.specs.Sheet.{World}
use Rattle.sheet_definition.specs.Save.{SheetOutcome, refused_with, done_with, Save, checked, stale_claim, reworked, rounds_before, save_outcome}
use Rattle.sheet_definition.specs.Own.{stale}
use Rattle.sheet_definition.specs.Said.{Stale, Untouched}
use Rattle.definition.proofs.Refusals.{Numbered, of_first, first_given, given_first, in_turn_lem}

-- a number that answers a stale claim isn't that of a save that is done
pub stale-answers : {k : ℕ} → Stale k → k ≡ 0 → ⊥
unfolding stale
stale-answers t e = false≢true (rw e at t)

module _ (w : World) (s : Save) where
  abbrev pub is_stale : Bool
  is_stale = stale_claim w s.claim

  abbrev pub turned_away : SheetOutcome
  turned_away = refused_with w s.out s.stale_number (checked w).rounds

  abbrev pub accepted : SheetOutcome
  accepted = done_with s.edit.count s.edit.sheet (reworked w s.edit) (rounds_before w s.edit) s.out

  -- the three, each from what leads to it
  pub refused_is : {k : ℕ} → k ≡ first_of s.refusals → (k ≡ 0 → ⊥) → refused_with w s.out k 0 ≡ save_outcome w s
  unfolding save_outcome when_done
  refused_is {k = zero} e h = absurd (h refl)
  refused_is {k = suc k} e h = rw (← e)

  pub stale_is : {k : ℕ} → k ≡ first_of s.refusals → k ≡ 0 → is_stale ≡ true → turned_away ≡ save_outcome w s
  unfolding save_outcome when_done pick
  stale_is e z t = rw (sym e ∙ z, t)

  pub done_is : {k : ℕ} → k ≡ first_of s.refusals → k ≡ 0 → is_stale ≡ false → accepted ≡ save_outcome w s
  unfolding save_outcome when_done pick
  done_is e z t = rw (sym e ∙ z, t)

  -- so what holds of each of them holds of the save's outcome
  pub by_answer : (P : SheetOutcome → Type 0)
      → ((k : ℕ) → first_of s.refusals ≡ suc k → P (refused_with w s.out (suc k) 0))
      → (first_of s.refusals ≡ 0 → is_stale ≡ true → P turned_away)
      → (first_of s.refusals ≡ 0 → is_stale ≡ false → P accepted)
      → P (save_outcome w s)
  by_answer P a b d = go (first_of s.refusals) refl is_stale refl
    where
      go : (k : ℕ) → first_of s.refusals ≡ k → (t : Bool) → is_stale ≡ t → P (save_outcome w s)
      go (suc k) e t f = rw (← refused_is (sym e) (λ z. absurd (omega arith))) (a k e)
      go zero e true f = rw (← stale_is (sym e) refl f) (b e f)
      go zero e false f = rw (← done_is (sym e) refl f) (d e f)

  -- where the numbers before it are neither 0 nor a stale claim's
  module _ (numbered : Numbered s.refusals) (earlier : Every (λ x. Stale x.0 → ⊥) s.refusals) (answered : Stale s.stale_number) where
    -- one of them is no stale claim's
    not_stale : {k : ℕ} → first_of s.refusals ≡ suc k → Stale (suc k) → ⊥
    not_stale e = of_first (λ k. Stale k → ⊥) (given_first s.refusals e) earlier

    -- it is given by the arguments alone, whatever the claim holds and the marks are
    pub given : (k : ℕ) → (Stale (suc k) → ⊥) → ((save_outcome w s).answer.number ≡ suc k) ↔ First (suc k) s.refusals
    unfolding refused_with done_with
    given k h = (
      by_answer (λ o. o.answer.number ≡ suc k → First (suc k) s.refusals)
          (λ j e f. given_first s.refusals (e ∙ f)) (λ e t f. absurd (h (rw f at answered))) (λ e t f. absurd (omega arith)),
      λ f. rw (← refused_is (sym (first_given f)) (λ z. absurd (omega arith))),
    )

    pub done_exactly : ((save_outcome w s).answer.number ≡ 0) ↔ ((first_of s.refusals ≡ 0) × (is_stale ≡ false))
    unfolding refused_with done_with
    done_exactly = (
      by_answer (λ o. o.answer.number ≡ 0 → (first_of s.refusals ≡ 0) × (is_stale ≡ false))
          (λ j e f. absurd (omega arith)) (λ e t f. absurd (stale-answers answered f)) (λ e t f. (e, t)),
      λ p. rw (← done_is (sym p.0) refl p.1),
    )

    pub stale_exactly : Stale (save_outcome w s).answer.number ↔ ((first_of s.refusals ≡ 0) × (is_stale ≡ true))
    unfolding refused_with done_with
    stale_exactly = (
      by_answer (λ o. Stale o.answer.number → (first_of s.refusals ≡ 0) × (is_stale ≡ true))
          (λ j e f. absurd (not_stale e f)) (λ e t f. (e, t)) (λ e t f. absurd (stale-answers f refl)),
      λ p. rw (← stale_is (sym p.0) refl p.1) answered,
    )

    -- the number is that of the first refusal, the stale claim's last of them
    pub number_is : (save_outcome w s).answer.number ≡ first_of (s.refusals ++ (s.stale_number, is_stale) ∷ [])
    unfolding refused_with done_with first_of pick when_done
    number_is =
        by_answer (λ o. o.answer.number ≡ first_of (s.refusals ++ (s.stale_number, is_stale) ∷ []))
        (λ k e. rw (← in_turn_lem s.refusals ((s.stale_number, is_stale) ∷ []) numbered, e))
        (λ e t. rw (← in_turn_lem s.refusals ((s.stale_number, is_stale) ∷ []) numbered, e, t))
        (λ e t. rw (← in_turn_lem s.refusals ((s.stale_number, is_stale) ∷ []) numbered, e, t))

    -- a refused save alters nothing
    pub refused_untouched : ((save_outcome w s).answer.number ≡ 0 → ⊥) → Untouched w s.out (save_outcome w s)
    unfolding refused_with done_with
    refused_untouched =
        by_answer (λ o. (o.answer.number ≡ 0 → ⊥) → Untouched w s.out o) (λ k e f. search) (λ e t f. search) (λ e t f. absurd (f refl))

-- A save from what it comes to before it writes: turned away, or to go on; one law for every kind of save.
-- Assumes nothing.
use mathlib.Core.Path.{◌≡◌, refl, sym, ap, ◌∙◌}
use mathlib.Core.Bool.{Bool, true, false}
use Prim.Native.Nat.{ℕ, zero, suc, ◌+◌, ◌*◌, ◌^◌, ◌<◌, ◌≤◌}
use native.Mathlib.Omega.{arith}
use borrow.Author.Tests.{not-false}
use lib.ListN.{length}
use Rattle.definition.specs.Final.{final_rounds}
use Rattle.definition.specs.Luffa.{bytes_at}
use Rattle.definition.specs.Refusal.{STALE, pick, first_of, when_done}
use Rattle.sheet_definition.specs.Sheet.{World, most, record_bytes, mark_words, q, r, F, check_rounds}
use Rattle.sheet_definition.specs.Save.{refused_with, Save, checked, stale_claim, save_outcome}
use Rattle.sheet_definition.specs.SheetCalls.{Call, save_of, call}
use Rattle.definition.proofs.Codes.{words_le}
use Rattle.sheet_definition.proofs.Writes.{same_eq}
use Rattle.sheet_definition.proofs.Outcomes.{accepted, refused_is, stale_is, done_is}
use Rattle.sheet_definition.proofs.Refused.{Fits}
use Rattle.sheet_definition.proofs.Saves.{check-rounds}
use Rattle.sheet_definition.proofs.Edits.{proper}
use Rattle.sheet_work.specs.Admission.{Admitted, admission}

-- the check takes few rounds
pub few-rounds : (w : World) → record_bytes * w.n ≤ length w.sheet → (checked w).rounds < 2 ^ 32
unfolding check_rounds F final_rounds r
few-rounds w l = rw (check-rounds w l) (omega (arith, words_le w.code))

-- by the number k of its arguments, where 11 answers a stale claim
module _ (w : World) (s : Save) (number : s.stale_number ≡ STALE) {k : ℕ} (e : k ≡ first_of s.refusals) {a : Admitted} (d : a ≡ admission k w s.claim) where
  -- what holds of each way holds
  by_way : (P : Admitted → Type 0) → ((k ≡ 0 → ⊥) → P (record { number = k; rounds = 0 }))
      → (k ≡ 0 → stale_claim w s.claim ≡ true → P (record { number = STALE; rounds = (checked w).rounds }))
      → (k ≡ 0 → stale_claim w s.claim ≡ false → P (record { number = 0; rounds = (checked w).rounds })) → P a
  unfolding admission when_done first_of pick
  by_way P x y z = go k refl (stale_claim w s.claim) refl
    where
      go : (j : ℕ) → k ≡ j → (b : Bool) → stale_claim w s.claim ≡ b → P a
      go (suc j) f b g = rw (d, f) (rw f at x (λ h. absurd (omega arith)))
      go zero f true g = rw (d, f, g) (y f g)
      go zero f false g = rw (d, f, g) (z f g)

  -- a number other than 0, and 0
  pub turned_away_lem : (a.number ≡ 0 → ⊥) → refused_with w s.out a.number a.rounds ≡ save_outcome w s
  turned_away_lem =
      by_way (λ a. (a.number ≡ 0 → ⊥) → refused_with w s.out a.number a.rounds ≡ save_outcome w s)
      (λ h i. refused_is w s e h) (λ z t i. ap (λ (j : ℕ). refused_with w s.out j (checked w).rounds) (sym number) ∙ stale_is w s e z t) (λ z t i. absurd (i refl))

  pub goes_on : a.number ≡ 0 → (k ≡ 0) × ((a.rounds ≡ (checked w).rounds) × (accepted w s ≡ save_outcome w s))
  goes_on =
      by_way (λ a. a.number ≡ 0 → (k ≡ 0) × ((a.rounds ≡ (checked w).rounds) × (accepted w s ≡ save_outcome w s)))
      (λ h i. absurd (h i)) (λ z t i. absurd (omega arith)) (λ z t i. (z, (refl, done_is w s e z t)))

  -- where the claim is the digest held
  pub fresh : a.number ≡ 0 → s.claim ≡ (checked w).digest
  unfolding stale_claim
  fresh =
      by_way (λ a. a.number ≡ 0 → s.claim ≡ (checked w).digest)
      (λ h i. absurd (h i)) (λ z t i. absurd (omega arith)) (λ z t i. same_eq s.claim (checked w).digest (not-false _ t))

-- a call that goes on: after which rounds, to which outcome, with arguments as they should be and room for what it works on
pub record Onward (w : World) (c : Call) (rounds : ℕ) : Type 0 where
  pub checked_so_far : rounds ≡ (checked w).rounds
  pub outcome : accepted w (save_of w c) ≡ call w c
  pub valid : first_of (save_of w c).refusals ≡ 0
  pub room : Fits w c.out

-- of a call judged by the number k of its refusals: what its check asks, and what it goes on with
module _ (w : World) (c : Call) {k : ℕ} (e : k ≡ first_of (save_of w c).refusals) where
  pub asked_of : k ≡ 0
      → (w.n ≤ most) × (record_bytes * w.n ≤ length w.sheet) × (mark_words * (q w.n + 1) ≤ length w.marks) × (length c.claim ≡ bytes_at w.code)
  unfolding save_of
  asked_of z =
      let p = proper w c in
      let f = p.room (sym e ∙ z) in
      (f.count, f.sheet-room, f.marks-room, p.claim-size (sym e ∙ z))

  pub onward : (save_of w c).stale_number ≡ STALE → {a : Admitted} → a ≡ admission k w c.claim → a.number ≡ 0 → Onward w c a.rounds
  unfolding save_of call
  onward number d z =
      let g = goes_on w (save_of w c) number e d z in
      let v : first_of (save_of w c).refusals ≡ 0 = sym e ∙ g.0 in
      record { checked_so_far = g.1.0; outcome = g.1.1; valid = v; room = (proper w c).room v }

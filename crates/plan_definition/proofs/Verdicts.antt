-- The verdict: refused exactly without room, else sound exactly where every well keeps the rules, or the first fault; and what C sees.
-- Assumes nothing.
use mathlib.Core.Path.{◌≡◌, refl, sym, ap, ◌∙◌}
use mathlib.Core.Logic.{◌↔◌, ◌⊎◌, inl, inr}
use mathlib.Core.Bool.{Bool, true, false, ◌||◌}
use mathlib.Core.List.{List, [], ◌∷◌}
use Prim.Native.Nat.{ℕ, zero, suc, ◌*◌, ◌<◌, ◌≤◌}
use native.Mathlib.Omega.{arith}
use lib.Dec.{ltb}
use lib.ListN.{length, take, drop}
use Rattle.definition.specs.Refusal.{SHEET, First, pick, first_of, when_done}
use Rattle.sheet_definition.specs.Refusals.{sheet_refusal}
use Rattle.sheet_definition.specs.Sheet.{cut}
use Rattle.sheet_definition.specs.Struck.{all_zero}
use Rattle.plan_definition.specs.declared.Well.{Well}
use Rattle.plan_definition.specs.declared.Rule.{Rule}
use Rattle.plan_definition.specs.declared.Verdict.{Verdict}
use Rattle.plan_definition.specs.declared.Verdict.TheVariants.{Refused, Sound, Fault}
use Rattle.plan_definition.specs.declared.ContentAnswer.{ContentAnswer}
use Rattle.plan_definition.specs.Well.{well_of, wells}
use Rattle.plan_definition.specs.Rules.{rule_number, rules_at}
use Rattle.plan_definition.specs.Sound.{Sound as SoundSheet}
use Rattle.plan_definition.specs.Check.{found_at, first_fault, check_refusals, verdict, answer_of}
use Rattle.plan_definition.proofs.Exactly.{Passes, Fails, less, not_less, either, neither}
use Rattle.plan_definition.proofs.Struck.{exempt_rules, struck_by_bytes}
use Rattle.plan_definition.proofs.Places.{wells_at}
use Rattle.plan_definition.proofs.Faults.{rule-number, rule-back, found, FirstFault, rising, none_faulty, first_faulty}

-- whether a sheet's bytes are enough for n records, and n small enough
abbrev pub Room : (n sheet : ℕ) → Type 0
Room n sheet = (n ≤ 1024) × (40 * n ≤ sheet)

abbrev pub NoRoom : (n sheet : ℕ) → Type 0
NoRoom n sheet = (1024 < n) ⊎ (sheet < 40 * n)

module _ (n sheet : ℕ) where
  -- there is never both
  pub not_both : Room n sheet → NoRoom n sheet → ⊥
  not_both r (inl h) = omega arith
  not_both r (inr h) = omega arith

  -- the number given is 0 where there is room, and 5 where there is none
  pub by_room : (P : ℕ → Type 0) → (Room n sheet → P 0) → (NoRoom n sheet → P SHEET) → P (first_of (check_refusals n sheet))
  unfolding check_refusals sheet_refusal first_of pick
  by_room P f g =
      go (ltb 1024 n || ltb sheet (40 * n)) (neither (not_less 1024 n) (not_less sheet (40 * n))) (either (less 1024 n) (less sheet (40 * n)))
    where
      go : (b : Bool) → Fails b (Room n sheet) → Passes b (NoRoom n sheet) → P (pick b SHEET 0)
      go true i j = g (j.0 refl)
      go false i j = f (i.0 refl)

  -- nothing is refused exactly when there is room
  pub room : (first_of (check_refusals n sheet) ≡ 0) ↔ ((n ≤ 1024) × (40 * n ≤ sheet))
  room =
      by_room (λ k. (k ≡ 0) ↔ Room n sheet) (λ r. (λ e. r, λ s. refl))
      (λ h. (λ e. absurd (omega arith), λ r. absurd (not_both r h)))

-- the search refuses nothing
not_refused : (all ws : List Well) (k : ℕ) → first_fault all ws ≡ Refused k → ⊥
unfolding first_fault found_at
not_refused all [] k e = let z : ◌≡◌ {A = ℕ} 0 1 = cc in omega arith
not_refused all (w ∷ ws) k e = go (first_of (rules_at all w)) (not_refused all ws k) e
  where
    go : (j : ℕ) → (first_fault all ws ≡ Refused k → ⊥) → found_at j w.place (first_fault all ws) ≡ Refused k → ⊥
    go zero h e = h e
    go (suc j) h e = let z : ◌≡◌ {A = ℕ} 0 1 = cc in omega arith

-- what the search finds among all wells of a sheet
abbrev searched : (sheet : List ℕ) (n : ℕ) → Verdict
searched sheet n = first_fault (wells n sheet) (wells n sheet)

module _ (sheet : List ℕ) (n : ℕ) where
  -- refused exactly without room, and then 5
  pub refused_exactly : (k : ℕ) → (verdict sheet n ≡ Refused k) ↔ ((k ≡ 5) × ((1024 < n) ⊎ (length sheet < 40 * n)))
  unfolding verdict when_done
  refused_exactly k =
      by_room n (length sheet) (λ j. (when_done j (searched sheet n) (Refused j) ≡ Refused k) ↔ ((k ≡ SHEET) × NoRoom n (length sheet)))
      (λ r. (λ e. absurd (not_refused (wells n sheet) (wells n sheet) k e), λ s. absurd (not_both n (length sheet) r s.1)))
      (λ h. (λ e. (cc, h), λ s. rw s.0))

  -- any other verdict is given exactly where there is room and the search finds it
  exactly : {A : Type 0} (v : Verdict) → (Refused SHEET ≡ v → ⊥) → (searched sheet n ≡ v) ↔ A
      → (verdict sheet n ≡ v) ↔ ((n ≤ 1024) × (40 * n ≤ length sheet) × A)
  unfolding verdict when_done
  exactly {A} v d i =
      by_room n (length sheet) (λ j. (when_done j (searched sheet n) (Refused j) ≡ v) ↔ ((n ≤ 1024) × (40 * n ≤ length sheet) × A))
      (λ r. (λ e. (r.0, r.1, i.0 e), λ s. i.1 s.2))
      (λ h. (λ e. absurd (d e), λ s. absurd (not_both n (length sheet) (s.0, s.1) h)))

  -- sound exactly when every well keeps the rules
  pub sound_exactly : (verdict sheet n ≡ Sound) ↔ ((n ≤ 1024) × (40 * n ≤ length sheet) × SoundSheet (wells n sheet))
  unfolding SoundSheet
  sound_exactly = exactly Sound (λ e. let z : ◌≡◌ {A = ℕ} 0 1 = cc in omega arith) (none_faulty (wells n sheet) (wells n sheet))

  -- a fault exactly when it is the lowest faulty place with the first rule broken there
  pub fault_exactly : (rule : Rule) (place : ℕ)
      → (verdict sheet n ≡ Fault rule place) ↔ ((n ≤ 1024) × (40 * n ≤ length sheet) × FirstFault (wells n sheet) rule place)
  unfolding wells
  fault_exactly rule place =
      exactly (Fault rule place) (λ e. let z : ◌≡◌ {A = ℕ} 0 1 = cc in omega arith)
      (first_faulty (wells n sheet) rule place (wells n sheet) (rising 0 (cut n sheet)))

  -- a struck place is never the fault
  pub struck_exempt : (rule : Rule) (place : ℕ) → all_zero (take 40 (drop (40 * place) sheet)) ≡ true → verdict sheet n ≡ Fault rule place → ⊥
  unfolding well_of
  struck_exempt rule place z e =
      let f = ((fault_exactly rule place).0 e).2 in
      let at = (wells_at n sheet f.well).0 f.among in
      let p : at.0 ≡ place = sym (ap (λ (w : Well). w.place) at.2) ∙ f.at in
      no_first (rw (exempt_rules (wells n sheet) f.well (rw at.2 (struck_by_bytes at.0 _ ∙ rw p z))) at f.first_broken)
    where
      no_first : {k : ℕ} → First k [] → ⊥
      no_first = elim [ ]

  -- C sees the number of the refusal
  pub answers : (answer_of (verdict sheet n)).number ≡ first_of (check_refusals n (length sheet))
  unfolding verdict when_done
  answers =
      by_room n (length sheet) (λ j. (answer_of (when_done j (searched sheet n) (Refused j))).number ≡ j)
      (λ r. zero_number (searched sheet n) (not_refused (wells n sheet) (wells n sheet))) (λ h. refl)
    where
      zero_number : (v : Verdict) → ((k : ℕ) → v ≡ Refused k → ⊥) → (answer_of v).number ≡ 0
      zero_number (Refused k) h = absurd (h k refl)
      zero_number Sound h = refl
      zero_number (Fault rule place) h = refl

-- the numbers that C sees, read back
told : ContentAnswer → Verdict
told a = when_done a.number (found_at a.rule a.place Sound) (Refused a.number)

-- every verdict but a refusal by 0, which is none
told_back : (v : Verdict) → (v ≡ Refused 0 → ⊥) → told (answer_of v) ≡ v
unfolding told when_done found_at
told_back (Refused zero) h = absurd (h refl)
told_back (Refused (suc k)) h = refl
told_back Sound h = refl
told_back (Fault rule place) h = rw (found (rule_number rule) place Sound (rule-number rule).0, rule-back rule)

-- so they tell the verdict
pub answer_tells : (s t : List ℕ) (n m : ℕ) → answer_of (verdict s n) ≡ answer_of (verdict t m) → verdict s n ≡ verdict t m
answer_tells s t n m e =
    sym (told_back (verdict s n) (λ z. omega (arith, ((refused_exactly s n 0).0 z).0)))
    ∙ ap told e
    ∙ told_back (verdict t m) (λ z. omega (arith, ((refused_exactly t m 0).0 z).0))

-- What a call may rely on once its refusals were judged.
-- Assumes nothing.
use mathlib.Core.Path.{◌≡◌, sym}
use mathlib.Core.Bool.{not}
use mathlib.Core.List.{List, [], ◌∷◌}
use Prim.Native.Nat.{ℕ, ◌*◌, ◌≤◌}
use native.Mathlib.Omega.{arith}
use lib.Dec.{ltb}
use lib.ListN.{length, take}
use Rattle.std.proofs.lemmas.List.{length-take-le}
use Rattle.std.specs.Prelude.{Option, None, Some}
use Rattle.std.specs.Option.{ok_or}
use Rattle.definition.specs.Refusal.{WELL, REACH, pick, first_of}
use Rattle.definition.proofs.Refusals.{none_exactly, not_done}
use Rattle.refusals.specs.declared.Refusal.TheVariants.{Well}
use Rattle.refusals.specs.Number.{number_of}
use Rattle.refusals.proofs.Judged.{passed}
use Rattle.sheet_definition.specs.Sheet.{record_bytes}
use Rattle.sheet_definition.specs.Refusals.{sheet_refusal}
use Rattle.plan_definition.specs.Some.{some}
use Rattle.plan_definition.specs.Well.{wells}
use Rattle.plan_definition.specs.Rules.{has_number}
use Rattle.plan_definition.specs.Sound.{Sound}
use Rattle.plan_definition.proofs.Exactly.{not_less, not_fails, neither}
use Rattle.plan_definition.proofs.Given.{none_holds, last_fails}
use Rattle.plan_definition.proofs.Tested.{sound_tested}
use Rattle.plan.specs.Sets.{count_of, wells_of}
use Rattle.plan.proofs.Passed.{front-wells}
use Rattle.reach_definition.specs.Reach.{ReachOutcome, reach_refusals, reach_outcome}
use Rattle.reach_definition.proofs.Outcomes.{given}
use Rattle.reach.specs.Front.{front_refusals, well_refusals}
use Rattle.reach.specs.Level.{Searched, Found}

-- past the refusals before the well there are few records, the sheet has them, and they make sense
judged : (sheet : List ℕ) (n hops : ℕ) → first_of (front_refusals sheet n hops) ≡ 0
    → ((n ≤ 1024) × (40 * n ≤ length sheet)) × ((hops ≤ 3) × Sound (wells n sheet))
unfolding sheet_refusal
judged sheet n hops e =
    (none_holds (neither (not_less 1024 n) (not_less (length sheet) (40 * n)))
    (none_holds (not_less 3 hops) (last_fails (not_fails (sound_tested (wells n sheet)))))).0 ((none_exactly _ (omega arith)).0 e)

pub few : (sheet : List ℕ) (n hops : ℕ) → first_of (front_refusals sheet n hops) ≡ 0 → n ≤ 1024
few sheet n hops e = (judged sheet n hops e).0.0

pub searched : (sheet : List ℕ) (n hops : ℕ) → first_of (front_refusals sheet n hops) ≡ 0 → Searched sheet n
searched sheet n hops e = let s = judged sheet n hops e in record { room = s.0.1; sound = s.1.1 }

-- the first n records, cut from the sheet
module _ (sheet : List ℕ) (n : ℕ) (s : Searched sheet n) where
  pub cut-long : n ≡ count_of (take (record_bytes * n) sheet)
  cut-long = omega (arith, length-take-le (40 * n) sheet s.room)

  cut-wells_of : wells_of (take (record_bytes * n) sheet) ≡ wells n sheet
  cut-wells_of = front-wells n sheet s.room

  pub cut-wells : wells n (take (record_bytes * n) sheet) ≡ wells n sheet
  cut-wells = rw (← cut-long) at cut-wells_of

  pub cut-sound : Sound (wells_of (take (record_bytes * n) sheet))
  cut-sound = rw cut-wells_of s.sound

  pub cut-searched : Searched (take (record_bytes * n) sheet) n
  cut-searched = record { room = omega (arith, length-take-le (40 * n) sheet s.room); sound = rw cut-wells s.sound }

  -- what is judged of the well that was looked for
  pub looked_for : (k : ℕ) (o : Option ℕ) → Found (take (record_bytes * n) sheet) k o
      → number_of (ok_or o Well) ≡ first_of ((WELL, not (some (has_number k) (wells n sheet))) ∷ [])
  unfolding first_of pick
  looked_for k None e = rw (← cut-wells_of, e)
  looked_for k (Some place) f = rw (← cut-wells_of, f.there)

pub roomy : (reached n : ℕ) → 0 ≡ first_of ((REACH, ltb reached n) ∷ []) → n ≤ reached
roomy reached n e = (last_fails (not_less reached n)).0 ((none_exactly _ (omega arith)).0 (sym e))

module _ (sheet : List ℕ) (n k hops : ℕ) (reached : List ℕ) where
  -- past the refusals before the well those on it decide
  pub on_the_well : 0 ≡ first_of (front_refusals sheet n hops) → given sheet n k hops reached ≡ first_of (well_refusals sheet n k (length reached))
  unfolding reach_refusals sheet_refusal
  on_the_well e = passed (front_refusals sheet n hops) (well_refusals sheet n k (length reached)) (omega arith) e

  -- a refused call leaves the bytes
  pub bytes_left : (number : ℕ) → number ≡ given sheet n k hops reached → (number ≡ 0 → ⊥)
      → ◌≡◌ {A = ReachOutcome} (record { number = number; reached = reached }) (reach_outcome sheet n k hops reached)
  unfolding reach_outcome
  bytes_left number e d = rw (← e) (sym (not_done number _ _ d))

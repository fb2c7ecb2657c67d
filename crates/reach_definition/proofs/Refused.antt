-- When a call is refused, in the request's words: each number exactly where its own condition holds and none ranked before it, and 0 exactly
-- where none does.
-- Assumes nothing.
use mathlib.Core.Path.{◌≡◌}
use mathlib.Core.Logic.Iff
use mathlib.Core.Logic.{◌↔◌}
use mathlib.Core.Bool.{false, not, ◌||◌}
use mathlib.Core.List.{List}
use Prim.Native.Nat.{ℕ, suc, ◌*◌, ◌<◌, ◌≤◌}
use native.Mathlib.Omega.{arith}
use lib.Dec.{ltb}
use lib.ListN.{length}
use Rattle.definition.specs.Refusal.{First, first_of}
use Rattle.definition.proofs.Conditions.{other_way}
use Rattle.definition.proofs.Refusals.{given_exactly, none_exactly}
use Rattle.sheet_definition.specs.Refusals.{sheet_refusal}
use Rattle.plan_definition.specs.declared.Well.{Well}
use Rattle.plan_definition.specs.Some.{some, Among}
use Rattle.plan_definition.specs.Well.{wells}
use Rattle.plan_definition.specs.Rules.{struck, has_number}
use Rattle.plan_definition.specs.Sound.{KeepsNumber, Sound}
use Rattle.plan_definition.specs.Check.{sound}
use Rattle.plan_definition.proofs.Exactly.{Fails, less, not_less, equal, not_equal, not_passes, not_fails, either, neither, both, where_first, one_passes, none_passes}
use Rattle.plan_definition.proofs.Kept.{stands}
use Rattle.plan_definition.proofs.Given.{its_own, another, none_holds, last_fails}
use Rattle.plan_definition.proofs.Verdicts.{Room, NoRoom}
use Rattle.plan_definition.proofs.Tested.{sound_tested}
use Rattle.reach_definition.specs.Reach.{reach_refusals}

-- "number absent", or some well has it
abbrev pub Absent : List Well → (number : ℕ) → Type 0
Absent ws k = (w : Well) → Among w ws → struck w ≡ false → w.number ≡ k → ⊥

abbrev pub There : List Well → (number : ℕ) → Type 0
There ws k = (w : Well) × Among w ws × ((struck w ≡ false) × (w.number ≡ k))

pub none_named : (ws : List Well) (k : ℕ) → Fails (some (has_number k) ws) (Absent ws k)
unfolding has_number
none_named ws k = none_passes ws (λ w. where_first (stands w) (not_equal w.number k))

-- "number 0 stays absent", whatever struck records a sound sheet has
pub none_zero : (ws : List Well) → Sound ws → Absent ws 0
unfolding Sound KeepsNumber
none_zero ws keeps w m s = (keeps w m s).number

module _ (sheet : List ℕ) (n k hops reached : ℕ) where
  abbrev ws : List Well
  ws = wells n sheet

  room : Fails (ltb 1024 n || ltb (length sheet) (40 * n)) (Room n (length sheet))
  room = neither (not_less 1024 n) (not_less (length sheet) (40 * n))

  near : Fails (ltb 3 hops) (hops ≤ 3)
  near = not_less 3 hops

  makes_sense : Fails (not (sound ws)) (Sound ws)
  makes_sense = not_fails (sound_tested ws)

  there : Fails (not (some (has_number k) ws)) (There ws k)
  unfolding has_number
  there = not_fails (one_passes ws (λ w. both (stands w) (equal w.number k)))

  -- the number that is given by lengths
  abbrev number : ℕ
  number = first_of (reach_refusals sheet n k hops reached)

  is_first : {A : Type 0} (j : ℕ) → First (suc j) (reach_refusals sheet n k hops reached) ↔ A → (number ≡ suc j) ↔ A
  is_first j i = Iff.trans (given_exactly j _) i

  pub no_room : (number ≡ 5) ↔ NoRoom n (length sheet)
  unfolding reach_refusals sheet_refusal
  no_room =
      is_first 4 (its_own (omega arith)
      (either (less 1024 n) (less (length sheet) (40 * n))))

  pub too_far : (number ≡ 19) ↔ (Room n (length sheet) × (3 < hops))
  unfolding reach_refusals sheet_refusal
  too_far = is_first 18 (another (omega arith) room (its_own (omega arith) (less 3 hops)))

  pub unsound : (number ≡ 20) ↔ (Room n (length sheet) × ((hops ≤ 3) × (Sound ws → ⊥)))
  unfolding reach_refusals sheet_refusal
  unsound =
      is_first 19 (another (omega arith) room (another (omega arith) near (its_own (omega arith)
      (other_way (not (sound ws)) makes_sense))))

  pub absent : (number ≡ 21) ↔ (Room n (length sheet) × ((hops ≤ 3) × (Sound ws × Absent ws k)))
  unfolding reach_refusals sheet_refusal
  absent =
      is_first 20 (another (omega arith) room (another (omega arith) near (another (omega arith) makes_sense
      (its_own (omega arith) (not_passes (none_named ws k))))))

  pub short : (number ≡ 22) ↔ (Room n (length sheet) × ((hops ≤ 3) × (Sound ws × (There ws k × (reached < n)))))
  unfolding reach_refusals sheet_refusal
  short =
      is_first 21 (another (omega arith) room (another (omega arith) near (another (omega arith) makes_sense
      (another (omega arith) there (its_own tt (less reached n))))))

  pub none_refused : (number ≡ 0) ↔ (Room n (length sheet) × ((hops ≤ 3) × (Sound ws × (There ws k × (n ≤ reached)))))
  unfolding reach_refusals sheet_refusal
  none_refused =
      Iff.trans (none_exactly _ (omega arith))
      (none_holds room (none_holds near (none_holds makes_sense (none_holds there (last_fails (not_less reached n))))))

-- so it is refused
pub zero_absent : (sheet : List ℕ) (n hops reached : ℕ) → Room n (length sheet) → hops ≤ 3 → Sound (wells n sheet)
    → first_of (reach_refusals sheet n 0 hops reached) ≡ 21
zero_absent sheet n hops reached r h s = (absent sheet n 0 hops reached).1 (r, (h, (s, none_zero (wells n sheet) s)))

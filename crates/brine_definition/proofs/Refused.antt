-- When a call is refused, in the request's words: each number exactly where its own condition holds and none ranked before it, and 0 exactly
-- where none does.
-- Assumes nothing.
use mathlib.Core.Path.{◌≡◌}
use mathlib.Core.Logic.Iff
use mathlib.Core.Logic.{◌↔◌}
use mathlib.Core.Bool.{◌||◌}
use mathlib.Core.List.{List}
use Prim.Native.Nat.{ℕ, suc, ◌*◌}
use native.Mathlib.Omega.{arith}
use lib.Dec.{ltb}
use lib.ListN.{length}
use Rattle.definition.specs.Refusal.{First, first_of}
use Rattle.definition.proofs.Refusals.{given_exactly, none_exactly}
use Rattle.plan_definition.specs.Some.{some}
use Rattle.plan_definition.proofs.Exactly.{Fails, less, not_less, either, neither, one_passes, none_passes}
use Rattle.plan_definition.proofs.Given.{its_own, another, none_holds, last_fails}
use Rattle.brine_definition.specs.Count.{sum}
use Rattle.brine_definition.specs.Statement.{brine_refusals}
use Rattle.brine_definition.specs.Said.{TooMany, Few, NoRoom, Room, Short, Long}

module _ (sheets : ℕ) (counts : List ℕ) (intake spare : ℕ) where
  few : Fails (ltb 64 (length counts)) (Few counts)
  few = not_less 64 (length counts)

  room : Fails (some (ltb 1024) counts || ltb sheets (40 * sum counts)) (Room sheets counts)
  room = neither (none_passes counts (not_less 1024)) (not_less sheets (40 * sum counts))

  -- the number that is given by lengths
  abbrev number : ℕ
  number = first_of (brine_refusals sheets counts intake spare)

  is_first : {A : Type 0} (k : ℕ) → First (suc k) (brine_refusals sheets counts intake spare) ↔ A → (number ≡ suc k) ↔ A
  is_first k i = Iff.trans (given_exactly k _) i

  pub too_many : (number ≡ 13) ↔ TooMany counts
  unfolding brine_refusals
  too_many = is_first 12 (its_own (omega arith) (less 64 (length counts)))

  pub no_room : (number ≡ 5) ↔ (Few counts × NoRoom sheets counts)
  unfolding brine_refusals
  no_room =
      is_first 4 (another (omega arith) few (its_own (omega arith)
      (either (one_passes counts (less 1024)) (less sheets (40 * sum counts)))))

  pub short : (number ≡ 25) ↔ (Few counts × (Room sheets counts × Short counts intake spare))
  unfolding brine_refusals
  short =
      is_first 24 (another (omega arith) few (another (omega arith) room (its_own tt
      (either (less intake (sum counts)) (less spare (sum counts))))))

  pub none_refused : (number ≡ 0) ↔ (Few counts × (Room sheets counts × Long counts intake spare))
  unfolding brine_refusals
  none_refused =
      Iff.trans (none_exactly _ (omega arith))
      (none_holds few (none_holds room (last_fails (neither (not_less intake (sum counts)) (not_less spare (sum counts))))))

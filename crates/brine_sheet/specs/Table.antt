-- The table of places that a statement is lent, and what it leaves there.
use Rattle.std.specs.Prelude.{ℕ, Bool, true, false, List, [], ◌∷◌, length}
use Rattle.definition.specs.Refusal.{first_of, when_done}
use Rattle.plan_definition.specs.Well.{wells}
use Rattle.plan_definition.specs.Check.{sound}
use Rattle.plan_places.specs.Places.{placed}
use Rattle.brine_definition.specs.Statement.{brine_refusals}

unfoldable pub placed_if : Bool → (sheet : List ℕ) → (n : ℕ) → List ℕ → List ℕ
placed_if true sheet n t = placed sheet n t
placed_if false sheet n t = t

-- the places of a sound sheet's wells are put into it; of another, or where the call is refused, it is as it was
unfoldable pub table_after : (sheet : List ℕ) → (n intake spare : ℕ) → List ℕ → List ℕ
table_after sheet n intake spare t =
    when_done (first_of (brine_refusals (length sheet) (n ∷ []) intake spare)) (placed_if (sound (wells n sheet)) sheet n t) t

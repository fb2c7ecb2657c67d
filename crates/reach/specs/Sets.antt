-- One step of a search: which injectors it takes into its set, and which wells it marks.
use Rattle.std.specs.Prelude.{ℕ, ◌≡◌, Bool, ◌&&◌, ◌||◌, List, eqb, get_or}
use Rattle.definition.specs.Refusal.{pick}
use Rattle.plan_definition.specs.declared.Link.{Link}
use Rattle.plan_definition.specs.declared.Well.{Well}
use Rattle.plan_definition.specs.Some.{some, Among}
use Rattle.plan_definition.specs.Rules.{injector, used}
use Rattle.reach_definition.specs.Reach.{names}

-- whether a set has the injector that a link names, and whether it touches a well of a kind
unfoldable pub takes : (ℕ → Bool) → Link → Bool
takes f l = f l.injector

unfoldable pub touches : (ℕ → Bool) → (kind : ℕ) → Well → Bool
touches f kind w = eqb w.kind kind && pick (injector w) (f w.number) (some (takes f) (used w))

-- a set with what links name, and with what the links of marked wells do
unfoldable pub plus_named : List Link → (ℕ → Bool) → ℕ → Bool
plus_named ls f k = some (names k) ls || f k

unfoldable pub linked_from : List ℕ → (number : ℕ) → Well → Bool
linked_from r k w = eqb (get_or r w.place 0) 1 && some (names k) (used w)

unfoldable pub plus_linked : List ℕ → List Well → (ℕ → Bool) → ℕ → Bool
plus_linked r ws f k = some (linked_from r k) ws || f k

-- the wells of a kind that a set touches are marked, and the others are as they were
abbrev pub MarkedBy : (ℕ → Bool) → (kind : ℕ) → List Well → (before after : List ℕ) → Type 0
MarkedBy f kind ws r s = (w : Well) → Among w ws → get_or s w.place 0 ≡ pick (touches f kind w) 1 (get_or r w.place 0)

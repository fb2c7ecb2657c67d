-- The page of one sheet: document 02, Q-3. It has a row for each record, in order.
use Rattle.std.specs.Prelude.{ℕ, ◌+◌, ◌*◌, Bool, true, false, ◌&&◌, List, [], ◌∷◌, map, eqb, ℤ, pos, ◌-ℤ◌}
use Rattle.definition.specs.Refusal.{pick}
use Rattle.plan_definition.specs.declared.Link.{Link}
use Rattle.plan_definition.specs.declared.Well.{Well}
use Rattle.plan_definition.specs.Rules.{producer, injector, used}
use Rattle.plan_definition.specs.Check.{sound}

-- "a producer's tonnes times its share in thousandths": the kilograms a day that links at a rate bring to the injector of a number
unfoldable pub brought : (rate : ℕ) → List Link → (number : ℕ) → ℕ
brought rate [] k = 0
brought rate (l ∷ ls) k = pick (eqb l.injector k) (rate * l.share) 0 + brought rate ls k

-- ".., summed": over the producers among some wells
unfoldable pub intake_from : List Well → (number : ℕ) → ℕ
intake_from [] k = 0
intake_from (w ∷ ws) k = pick (producer w) (brought w.rate (used w) k) 0 + intake_from ws k

-- "spare capacity, which is 1000 times its rate less intake and goes below zero where it is overloaded"
unfoldable pub spare_of : (rate intake : ℕ) → ℤ
spare_of rate intake = pos (1000 * rate) -ℤ pos intake

pub record Row : Type 0 where
  pub intake : ℕ
  pub spare : ℤ

-- "For each injector: intake .., and spare capacity"
unfoldable pub row_of : List Well → Well → Row
row_of ws w =
    let intake : ℕ = intake_from ws w.number in
    record { intake = intake; spare = spare_of w.rate intake }

-- "0 in both"
unfoldable pub row_when : Bool → Row → Row
row_when true r = r
row_when false r = record { intake = 0; spare = pos 0 }

-- ".. for producers and for every record of a faulted sheet"
abbrev pub row_in : List Well → Well → Row
row_in ws w = row_when (sound ws && injector w) (row_of ws w)

unfoldable pub rows : List Well → List Row
rows ws = map (row_in ws) ws

-- "the producers' rates", in tonnes a day: "For every sound sheet the intakes are proved to total 1000 times" these
unfoldable pub produced : List Well → ℕ
produced [] = 0
produced (w ∷ ws) = pick (producer w) w.rate 0 + produced ws

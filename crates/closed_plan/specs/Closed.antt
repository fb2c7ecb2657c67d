-- The wells and the brine page of a sheet without its struck records: document 02, Q-11.
use Rattle.std.specs.Prelude.{ℕ, suc, ◌≡◌, List, [], ◌∷◌}
use Rattle.definition.specs.Refusal.{pick}
use Rattle.plan_definition.specs.declared.Well.{Well}
use Rattle.plan_definition.specs.Rules.{struck}
use Rattle.plan_definition.specs.Check.{sound}
use Rattle.brine_definition.specs.Page.{Row, rows}
use Rattle.brine_definition.specs.Statement.{statement_of}

-- a well at another place
unfoldable pub moved_to : (place : ℕ) → Well → Well
moved_to p w = record { place = p; number = w.number; kind = w.kind; count = w.count; rate = w.rate; links = w.links; noted = w.noted }

-- the wells of those that aren't struck, "the rest in order", at places from one on
unfoldable pub wells_left : (place : ℕ) → List Well → List Well
wells_left p [] = []
wells_left p (w ∷ ws) = pick (struck w) (wells_left p ws) (moved_to p w ∷ wells_left (suc p) ws)

-- rows without those of struck records
unfoldable pub rows_left : List Well → List Row → List Row
rows_left [] rs = []
rows_left (w ∷ ws) [] = []
rows_left (w ∷ ws) (r ∷ rs) = pick (struck w) (rows_left ws rs) (r ∷ rows_left ws rs)

-- what is left of a sheet's wells: they, whether they are sound, and their brine statement
pub record SamePlan (ws left : List Well) : Type 0 where
  pub same_wells : left ≡ wells_left 0 ws
  pub same_soundness : sound left ≡ sound ws
  pub same_rows : rows left ≡ rows_left ws (rows ws)
  pub same_statement : statement_of (left ∷ []) ≡ statement_of (ws ∷ [])

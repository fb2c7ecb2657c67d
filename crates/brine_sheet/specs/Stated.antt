-- What is said of one sheet.
use Rattle.std.specs.Prelude.{◌≡◌, List, [], ◌∷◌, ℕ, ℤ}
use Rattle.plan_definition.specs.declared.Well.{Well}
use Rattle.brine_definition.specs.declared.Statement.{Statement}
use Rattle.brine_definition.specs.Page.{rows}
use Rattle.brine_definition.specs.Statement.{intakes, spares, statement_of}

-- the answer over a sheet alone, and its rows in two lists
abbrev pub Stated : List Well → (answer : Statement) → (intake : List ℕ) → (spare : List ℤ) → Type 0
Stated ws answer intake spare = (answer ≡ statement_of (ws ∷ [])) × (intake ≡ intakes (rows ws)) × (spare ≡ spares (rows ws))

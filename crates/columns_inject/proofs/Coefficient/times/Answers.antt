-- `Coefficient::times` meets its contract: the tables stand in the coefficients' order, and an entry is its table's rule.
-- Assumes nothing.
use mathlib.Core.Path.{◌≡◌, refl, ap, ◌∙◌}
use mathlib.Core.List.{List, []}
use Prim.Native.Nat.{ℕ}
use denote.Enum.Declared.{tag_of}
use borrow.Author.Rules.{rules}
use lib.ListN.{get_or}
use Rattle.columns_definition.specs.Products.{coefficients, products_of, products}
use Rattle.columns_definition.proofs.Products.{entry}
use Rattle.columns_inject.specs.declared.Coefficient.{Coefficient}
use Rattle.columns_inject.specs.declared.Coefficient.TheVariants.{C01, C02, C03, C04, C06, C07, C08, C0a, C0f, C10}
use Rattle.columns_inject.specs.contracts.Coefficient.{the_type}
use Rattle.columns_inject.specs.Coefficients.{number}
use Rattle.columns_inject.proofs.Coefficient.times.Goals as goal

table : (c : Coefficient) → get_or products (tag_of the_type c) [] ≡ products_of (number c)
unfolding products coefficients
table C01 = refl
table C02 = refl
table C03 = refl
table C04 = refl
table C06 = refl
table C07 = refl
table C08 = refl
table C0a = refl
table C0f = refl
table C10 = refl

pub returns : goal.returns
returns c =
    let a = c.args in
    rw (c.tables.ensures, c.from.ensures) (ap (λ (t : List ℕ). get_or t a.x 0) (table a.self) ∙ entry (number a.self) a.x (search rules))

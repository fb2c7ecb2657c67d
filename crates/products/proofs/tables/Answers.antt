-- `products::tables` meets its contract: the checker works out the 2,560 products and compares them with the table.
-- Assumes nothing.
use mathlib.Core.Path.{refl}
use Rattle.definition.proofs.Computed.{everything}
use Rattle.columns_definition.specs.Dump.{up_to}
use Rattle.columns_definition.specs.Products.{coefficients, products_of, products}
use Rattle.products.proofs.tables.Goals as goal

pub returns : goal.returns
unfolding everything up_to coefficients products_of products
returns c = refl

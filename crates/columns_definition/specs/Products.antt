-- The product tables: document 02, Q-12, "product tables for the ten coefficients .., each of 256 bytes, whose rule (product modulo the field
-- polynomial) is proved once over all entries".
use Rattle.std.specs.Prelude.{ℕ, List, [], ◌∷◌, map}
use Rattle.definition.specs.Field.{product}
use Rattle.columns_definition.specs.Dump.{up_to}

-- "the ten coefficients 01, 02, 03, 04, 06, 07, 08, 0A, 0F and 10": those of the matrices of 3.2.1 to 3.2.3
unfoldable pub coefficients : List ℕ
coefficients = 0x01 ∷ 0x02 ∷ 0x03 ∷ 0x04 ∷ 0x06 ∷ 0x07 ∷ 0x08 ∷ 0x0a ∷ 0x0f ∷ 0x10 ∷ []

-- the products of a coefficient with the 256 elements of the field, in their order
unfoldable pub products_of : (c : ℕ) → List ℕ
products_of c = up_to 256 (product c)

-- the ten tables
unfoldable pub products : List (List ℕ)
products = map products_of coefficients

-- The coefficients of the matrices as the source writes them (3.2.1 to 3.2.3), and the injection on a dump by any matrix.
use Rattle.std.specs.Prelude.{ℕ, List, [], ◌∷◌, ◌++◌, map, get_or}
use Rattle.columns_inject.specs.declared.Coefficient.{Coefficient}
use Rattle.columns_inject.specs.declared.Coefficient.TheVariants.{C01, C02, C03, C04, C06, C07, C08, C0a, C0f, C10}
use Rattle.columns_definition.specs.Dump.{rows_to, column_at}
use Rattle.columns_definition.specs.Columns.{row_sum}

abbrev pub number : Coefficient → ℕ
number C01 = 0x01
number C02 = 0x02
number C03 = 0x03
number C04 = 0x04
number C06 = 0x06
number C07 = 0x07
number C08 = 0x08
number C0a = 0x0a
number C0f = 0x0f
number C10 = 0x10

-- a row: those of the blocks, and the message's
abbrev pub numbers : List Coefficient × Coefficient → List ℕ
numbers row = map number row.0 ++ number row.1 ∷ []

-- at each of the 32 positions, the rows times the bytes of n blocks and the message's
unfoldable pub injected : (rows : List (List ℕ)) → (n : ℕ) → (bytes message : List ℕ) → List ℕ
injected rows n d m = rows_to 32 (λ l. map (λ cs. row_sum cs (column_at n l d ++ get_or m l 0 ∷ [])) rows)

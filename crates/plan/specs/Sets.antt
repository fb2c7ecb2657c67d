-- What the check's sets hold.
use Rattle.std.specs.Prelude.{ℕ, ◌/◌, Bool, ◌||◌, List, length}
use Rattle.sheet_definition.specs.Sheet.{record_bytes}
use Rattle.plan_definition.specs.declared.Well.{Well}
use Rattle.plan_definition.specs.Well.{wells}
use Rattle.plan_definition.specs.Rules.{is_injector_of}

-- the number of records, told by their bytes, and their wells
abbrev pub count_of : List ℕ → ℕ
count_of records = length records / record_bytes

abbrev pub wells_of : List ℕ → List Well
wells_of records = wells (count_of records) records

-- a set with the numbers of the injectors among some wells
unfoldable pub plus_injectors : List Well → (ℕ → Bool) → ℕ → Bool
plus_injectors ws f k = is_injector_of ws k || f k

-- What reading a record gives where the sheet has no whole record at the place: zeros. So its callers owe it no bound.
use Rattle.std.specs.Prelude.{ℕ, ◌+◌, ◌*◌, Bool, true, false, List, leb, length, take, drop, replicate}
use Rattle.plan_definition.specs.declared.Well.{Well}
use Rattle.plan_definition.specs.Well.{no_link, well_of}
use Rattle.sheet_definition.specs.Sheet.{record_bytes}

unfoldable pub no_well : (place : ℕ) → Well
no_well place = record { place = place; number = 0; kind = 0; count = 0; rate = 0; links = replicate 4 no_link; noted = false }

unfoldable pub well_when : Bool → (place : ℕ) → List ℕ → Well
well_when true place x = well_of place x
well_when false place x = no_well place

-- the record at a place of a sheet as a well
unfoldable pub well_in : List ℕ → (place : ℕ) → Well
well_in sheet place = well_when (leb (record_bytes * (place + 1)) (length sheet)) place (take record_bytes (drop (record_bytes * place) sheet))

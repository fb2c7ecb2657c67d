-- Reading a record where the sheet has it, and where it doesn't.
-- Assumes nothing.
use mathlib.Core.Path.{◌≡◌}
use mathlib.Core.List.{List}
use Prim.Native.Nat.{ℕ, ◌+◌, ◌*◌, ◌<◌, ◌≤◌}
use borrow.Author.Tests.{le-leb, lt-leb}
use lib.ListN.{length, take, drop}
use Rattle.plan_definition.specs.Well.{well_of}
use Rattle.plan_record.specs.Total.{no_well, well_when, well_in}
use Rattle.sheet_definition.specs.Sheet.{record_bytes}

module _ (sheet : List ℕ) (place : ℕ) where
  pub well_read : record_bytes * (place + 1) ≤ length sheet → well_in sheet place ≡ well_of place (take record_bytes (drop (record_bytes * place) sheet))
  unfolding well_in well_when
  well_read h = rw (le-leb (record_bytes * (place + 1)) (length sheet) h)

  pub none_read : length sheet < record_bytes * (place + 1) → well_in sheet place ≡ no_well place
  unfolding well_in well_when
  none_read h = rw (lt-leb (record_bytes * (place + 1)) (length sheet) h)

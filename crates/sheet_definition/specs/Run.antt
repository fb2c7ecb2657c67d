-- A run of saves on one sheet, and beside it the plain list of records that it stands for: document 01, "Sheet and marks". Every argument of
-- a call is free.
use Rattle.std.specs.Prelude.{ℕ, zero, suc, ◌-◌, List, [], ◌∷◌, ◌++◌, length, take, drop, set}
use Rattle.sheet_definition.specs.Sheet.{World, record_bytes}
use Rattle.sheet_definition.specs.Struck.{standing}
use Rattle.sheet_definition.specs.Save.{SheetOutcome}
use Rattle.sheet_definition.specs.SheetCalls.{Kind, Call, call}
use Rattle.sheet_definition.specs.SheetCalls.Kind.{Change, Append, Drop, Batch, CloseUp}

-- the world that an outcome leaves
unfoldable pub left : (code : ℕ) → SheetOutcome → World
left code o = record { code = code; n = o.answer.count; sheet = o.sheet; marks = o.marks }

unfoldable pub next : World → Call → World
next w c = left w.code (call w c)

unfoldable pub run : World → List Call → World
run w [] = w
run w (c ∷ cs) = run (next w c) cs

-- the changes of a batch, in turn, on the list of records
unfoldable pub in_turn : (places records' : List ℕ) → List (List ℕ) → List (List ℕ)
in_turn [] x rs = rs
in_turn (p ∷ ps) x rs = in_turn ps (drop record_bytes x) (set rs p (take record_bytes x))

-- what a save that is done makes of the list of records; "Demand 3 reads a batch as its changes in turn", and closing up "as the list without its
-- struck records"
unfoldable pub list_after : Kind → List (List ℕ) → List (List ℕ)
list_after (Change place x) rs = set rs place x
list_after (Append x) rs = rs ++ x ∷ []
list_after Drop rs = take (length rs - 1) rs
list_after (Batch places x) rs = in_turn places x rs
list_after (CloseUp places) rs = standing rs

-- and what one that is answered by a number does
unfoldable pub applied : (number : ℕ) → List (List ℕ) → Call → List (List ℕ)
applied zero rs c = list_after c.kind rs
applied (suc k) rs c = rs

-- and a run
unfoldable pub records : World → List (List ℕ) → List Call → List (List ℕ)
records w rs [] = rs
records w rs (c ∷ cs) = records (next w c) (applied (call w c).answer.number rs c) cs

-- Any two outcomes that the statement of a sheet call allows are equal.
-- Assumes nothing.
use mathlib.Core.List.{List}
use Prim.Native.Nat.{ℕ}
use Rattle.sheet_definition.specs.Sheet.{World}
use Rattle.definition.proofs.Determined.{Determined, determined}
use Rattle.sheet_definition.specs.SheetCalls.{build_outcome, change_outcome, append_outcome, drop_outcome, batch_outcome, close_up_outcome, Kind, own_outcome}

pub build_determined : (code : ℕ) (sheet : List ℕ) (n : ℕ) (marks out : List ℕ) → Determined (build_outcome code sheet n marks out)
build_determined code sheet n marks out = determined (build_outcome code sheet n marks out)

pub change_determined : (code : ℕ) (sheet : List ℕ) (n : ℕ) (marks : List ℕ) (place : ℕ) (x claim out : List ℕ)
    → Determined (change_outcome code sheet n marks place x claim out)
change_determined code sheet n marks place x claim out = determined (change_outcome code sheet n marks place x claim out)

pub append_determined : (code : ℕ) (sheet : List ℕ) (n : ℕ) (marks x claim out : List ℕ)
    → Determined (append_outcome code sheet n marks x claim out)
append_determined code sheet n marks x claim out = determined (append_outcome code sheet n marks x claim out)

pub drop_determined : (code : ℕ) (sheet : List ℕ) (n : ℕ) (marks claim out : List ℕ) → Determined (drop_outcome code sheet n marks claim out)
drop_determined code sheet n marks claim out = determined (drop_outcome code sheet n marks claim out)

pub batch_determined : (code : ℕ) (sheet : List ℕ) (n : ℕ) (marks places x claim out : List ℕ)
    → Determined (batch_outcome code sheet n marks places x claim out)
batch_determined code sheet n marks places x claim out = determined (batch_outcome code sheet n marks places x claim out)

pub close_up_determined : (code : ℕ) (sheet : List ℕ) (n : ℕ) (marks claim places out : List ℕ)
    → Determined (close_up_outcome code sheet n marks claim places out)
close_up_determined code sheet n marks claim places out = determined (close_up_outcome code sheet n marks claim places out)

pub own_determined : (w : World) (k : Kind) (claim : List ℕ) (own : ℕ) (own_marks out : List ℕ) → Determined (own_outcome w k claim own own_marks out)
own_determined w k claim own own_marks out = determined (own_outcome w k claim own own_marks out)

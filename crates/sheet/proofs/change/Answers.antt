-- `sheet::change` meets its contract: judged, and then a save of one record.
-- Assumes nothing.
use mathlib.Core.Path.{◌≡◌, sym, ◌∙◌}
use mathlib.Core.List.{List}
use Prim.Native.Nat.{ℕ}
use native.Mathlib.Omega.{arith}
use lib.ListN.{length}
use Rattle.definition.specs.Refusal.{first_of}
use Rattle.sheet_definition.specs.Sheet.{World, record_bytes}
use Rattle.sheet_definition.specs.SheetCalls.{refusals_of, one_record, edit_of, save_of, plain}
use Rattle.sheet_definition.specs.SheetCalls.Kind.{Change}
use Rattle.sheet_definition.proofs.Edits.{change-size}
use Rattle.sheet_marks.specs.Total.{cleared}
use Rattle.sheet_marks.proofs.Total.{cleared_none}
use Rattle.sheet.proofs.Saved.{judged, saved}
use Rattle.sheet.proofs.change.Goals as goal

-- the record has its size, and the edit is the call's
one : (w : World) (place : ℕ) (x claim out : List ℕ) {k : ℕ} → k ≡ first_of (save_of w (plain (Change place x) claim out)).refusals → k ≡ 0
    → (length x ≡ record_bytes) × (one_record w place x w.n (cleared w.n w.n w.marks) ≡ edit_of w (Change place x))
unfolding save_of refusals_of edit_of
one w place x claim out e z =
    (change-size w (plain (Change place x) claim out) x place (sym e ∙ z), rw (cleared_none w.n w.n w.marks (omega arith)))

pub save-requires : goal.save-requires
unfolding save_of refusals_of
save-requires c =
    let a = c.args in
    let w : World = record { code = a.code; n = a.n; sheet = a.sheet.now; marks = a.marks.now } in
    let e = rw c.lengths-l.ensures at c.change-judged.ensures in
    judged w (Change a.place a.«record».now) a.claim.now a.out.now _ _ _ e (one w a.place a.«record».now a.claim.now a.out.now e)

pub returns : goal.returns
unfolding save_of refusals_of
returns c =
    let a = c.args in
    let w : World = record { code = a.code; n = a.n; sheet = a.sheet.now; marks = a.marks.now } in
    let e = rw c.lengths-l.ensures at c.change-judged.ensures in
    saved w (Change a.place a.«record».now) a.claim.now a.out.now _ _ _ e (one w a.place a.«record».now a.claim.now a.out.now e) c.save.ensures

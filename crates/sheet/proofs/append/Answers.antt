-- `sheet::append` meets its contract: judged, and then a save of one record.
-- Assumes nothing.
use mathlib.Core.Path.{◌≡◌, sym, ◌∙◌}
use Prim.Native.Nat.{ℕ, ◌+◌, ◌-◌, ◌^◌, ◌<◌, min}
use mathlib.Core.List.{List}
use native.Mathlib.Omega.{arith}
use lib.ListN.{length}
use Rattle.definition.specs.Refusal.{first_of}
use Rattle.sheet_definition.specs.Sheet.{World, record_bytes}
use Rattle.sheet_definition.specs.SheetCalls.{refusals_of, one_record, edit_of, save_of, plain}
use Rattle.sheet_definition.specs.SheetCalls.Kind.{Append}
use Rattle.sheet_definition.proofs.Edits.{append-size, proper}
use Rattle.sheet_marks.specs.Total.{cleared}
use Rattle.sheet_marks.proofs.Total.{cleared_none}
use Rattle.sheet.proofs.Saved.{judged, saved}
use Rattle.sheet.proofs.append.Goals as goal

-- the record has its size, and the edit is the call's
one : (w : World) (x claim out : List ℕ) {k more : ℕ} → more ≡ min (w.n + 1) (2 ^ 64 - 1) → k ≡ first_of (save_of w (plain (Append x) claim out)).refusals → k ≡ 0
    → (length x ≡ record_bytes) × (one_record w w.n x more (cleared w.n more w.marks) ≡ edit_of w (Append x))
unfolding save_of refusals_of edit_of one_record
one w x claim out {more = more} m e z =
    let h : w.n < 1024 = omega (arith, ((proper w (plain (Append x) claim out)).fair (sym e ∙ z)).few) in
    let f : more ≡ w.n + 1 = omega arith in
    (append-size w (plain (Append x) claim out) x (sym e ∙ z), rw (f, cleared_none w.n (w.n + 1) w.marks (omega arith)))

pub save-requires : goal.save-requires
unfolding save_of refusals_of
save-requires c =
    let a = c.args in
    let w : World = record { code = a.code; n = a.n; sheet = a.sheet.now; marks = a.marks.now } in
    let e = rw c.lengths-l.ensures at c.append-judged.ensures in
    judged w (Append a.«record».now) a.claim.now a.out.now _ _ _ e (one w a.«record».now a.claim.now a.out.now c.saturating_add-more.ensures e)

pub returns : goal.returns
unfolding save_of refusals_of
returns c =
    let a = c.args in
    let w : World = record { code = a.code; n = a.n; sheet = a.sheet.now; marks = a.marks.now } in
    let e = rw c.lengths-l.ensures at c.append-judged.ensures in
    saved w (Append a.«record».now) a.claim.now a.out.now _ _ _ e (one w a.«record».now a.claim.now a.out.now c.saturating_add-more.ensures e) c.save.ensures

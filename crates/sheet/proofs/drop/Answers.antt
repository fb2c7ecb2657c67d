-- `sheet::drop` meets its contract: judged, and then a save of one record.
-- Assumes nothing.
use mathlib.Core.Path.{◌≡◌, sym, ◌∙◌}
use Prim.Native.Nat.{ℕ, ◌-◌, ◌<◌}
use mathlib.Core.List.{List}
use native.Mathlib.Omega.{arith}
use lib.ListN.{length, replicate, length-replicate}
use Rattle.definition.specs.Refusal.{first_of}
use Rattle.sheet_definition.specs.Sheet.{World, record_bytes}
use Rattle.sheet_definition.specs.SheetCalls.{refusals_of, one_record, edit_of, save_of, plain}
use Rattle.sheet_definition.specs.SheetCalls.Kind.{Drop}
use Rattle.sheet_definition.proofs.Edits.{proper}
use Rattle.sheet_marks.specs.Total.{cleared}
use Rattle.sheet_marks.proofs.Total.{cleared-past}
use Rattle.sheet.proofs.Saved.{judged, saved}
use Rattle.sheet.proofs.drop.Goals as goal

-- the record has its size, and the edit is the call's
one : (w : World) (claim out : List ℕ) {k last : ℕ} → last ≡ w.n - 1 → k ≡ first_of (save_of w (plain Drop claim out)).refusals → k ≡ 0
    → (length {A = ℕ} (replicate record_bytes 0) ≡ record_bytes) × (one_record w last (replicate record_bytes 0) last (cleared w.n last w.marks) ≡ edit_of w Drop)
unfolding save_of refusals_of edit_of one_record
one w claim out l e z =
    let h : 0 < w.n = omega (arith, ((proper w (plain Drop claim out)).fair (sym e ∙ z)).past-held) in
    (length-replicate {A = ℕ} record_bytes 0, rw (l, cleared-past w.n (w.n - 1) w.marks (omega arith) ((proper w (plain Drop claim out)).room (sym e ∙ z)).marks-room))

pub save-requires : goal.save-requires
unfolding save_of refusals_of
save-requires c =
    let a = c.args in
    let w : World = record { code = a.code; n = a.n; sheet = a.sheet.now; marks = a.marks.now } in
    let e = rw c.lengths-l.ensures at c.drop-judged.ensures in
    judged w Drop a.claim.now a.out.now _ _ _ e (one w a.claim.now a.out.now c.saturating_sub-last.ensures e)

pub returns : goal.returns
unfolding save_of refusals_of
returns c =
    let a = c.args in
    let w : World = record { code = a.code; n = a.n; sheet = a.sheet.now; marks = a.marks.now } in
    let e = rw c.lengths-l.ensures at c.drop-judged.ensures in
    saved w Drop a.claim.now a.out.now _ _ _ e (one w a.claim.now a.out.now c.saturating_sub-last.ensures e) c.save.ensures

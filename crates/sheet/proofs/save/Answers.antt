-- `sheet::save` meets its contract: turned away, or put together from the edit and the work.
-- Assumes nothing.
use mathlib.Core.Path.{◌≡◌, refl, ap, ◌∙◌}
use mathlib.Core.List.{List}
use Prim.Native.Nat.{ℕ}
use native.Mathlib.Omega.{arith}
use lib.ListN.{length}
use Rattle.std.proofs.lemmas.Result.{err_from_is_err_and}
use Rattle.refusals.specs.Number.{number_of}
use Rattle.refusals.proofs.Judged.{not_zero}
use Rattle.definition.specs.Refusal.{pick, first_of}
use Rattle.sheet_definition.specs.Sheet.{World, q}
use Rattle.sheet_definition.specs.Save.{refused_with, checked, save_outcome}
use Rattle.sheet_definition.proofs.Outcomes.{accepted}
use Rattle.octets.proofs.Total.{write_at_lem, length-write_at}
use Rattle.sheet_marks.specs.Total.{cleared}
use Rattle.sheet_work.specs.Admission.{Admitted, admission}
use Rattle.sheet_work.proofs.Admission.{few-rounds, turned_away_lem, goes_on}
use Rattle.sheet.specs.Save.{record_save}
use Rattle.sheet.proofs.Saved.{put-together}
use Rattle.sheet.proofs.save.Goals as goal

-- it goes on: after which rounds, and to which outcome
goes : {number : ℕ} {begun : Admitted} (w : World) (place count : ℕ) (x claim out : List ℕ) → begun ≡ admission number w claim → begun.number ≡ 0
    → (number ≡ 0)
    × ((begun.rounds ≡ (checked w).rounds)
    × (accepted w (record_save number w place x count claim out) ≡ save_outcome w (record_save number w place x count claim out)))
unfolding first_of pick
goes {number = number} w place count x claim out e z = goes_on w (record_save number w place x count claim out) refl refl e z

pub returns-in_err-before : goal.returns-in_err-before
unfolding refused_with first_of pick
returns-in_err-before c =
    let a = c.args in
    let w : World = record { code = a.code; n = a.n; sheet = a.sheet.now; marks = a.marks.now } in
    let d = c.in_err-before.ensures in
    let p = err_from_is_err_and c.from_residual.result c.from_residual.ensures.1 in
    rw (p.1, p.2, d.marks_unchanged)
    (turned_away_lem w (record_save (number_of a.judged) w a.place a.«record».now a.count a.claim.now a.out.now) refl refl d.value (not_zero _))

pub work_on-rounds-requires : goal.work_on-rounds-requires
unfolding q
work_on-rounds-requires c =
    let a = c.args in
    let w : World = record { code = a.code; n = a.n; sheet = a.sheet.now; marks = a.marks.now } in
    let g = goes w a.place a.count a.«record».now a.claim.now a.out.now c.in_ok-before.ensures.value refl in
    let j = c.requires g.0 in (
      j.new_few,
      omega (arith, j.new_sheet_room, ap length c.put_bytes.ensures ∙ length-write_at _ _ _),
      omega (arith, j.new_marks_room, ap length c.in_ok-before.ensures.marks_unchanged, c.clear.auto.marks),
      omega (arith, j.in_groups),
      omega (arith, g.1.0, few-rounds w j.sheet-room),
      j.out-room,
    )

pub returns : goal.returns
unfolding q
returns c =
    let a = c.args in
    let w : World = record { code = a.code; n = a.n; sheet = a.sheet.now; marks = a.marks.now } in
    let g = goes w a.place a.count a.«record».now a.claim.now a.out.now c.in_ok-before.ensures.value refl in
    let j = c.requires g.0 in
    let o = c.work_on-rounds.ensures in
    put-together w (number_of a.judged) a.place a.count a.«record».now a.claim.now a.out.now _ _ _ _ _ _ g.1.0
    (c.put_bytes.ensures ∙ write_at_lem _ _ _ (omega (arith, j.record-room, j.size)))
    (c.clear.ensures ∙ ap (cleared a.n a.count) c.in_ok-before.ensures.marks_unchanged)
    o.value o.marks_after o.out_after
    ∙ g.1.1

pub overflow_mul-place : goal.overflow_mul-place
overflow_mul-place c =
    let a = c.args in
    let w : World = record { code = a.code; n = a.n; sheet = a.sheet.now; marks = a.marks.now } in
    let g = goes w a.place a.count a.«record».now a.claim.now a.out.now c.in_ok-before.ensures.value refl in
    omega (arith, (c.requires g.0).record-room)

-- `sheet::build` meets its contract: refused, or put together from mark 0 and the work.
-- Assumes nothing.
use mathlib.Core.Path.{refl, sym, ap, ◌∙◌}
use native.Mathlib.Omega.{arith}
use Rattle.std.proofs.lemmas.Result.{err_from_is_err_and}
use Rattle.refusals.proofs.Judged.{not_zero}
use Rattle.definition.specs.declared.State.{State}
use Rattle.definition.specs.State.{five}
use Rattle.definition.specs.Buffer.{overwrite}
use Rattle.definition.specs.Block.{words_of_all}
use Rattle.sheet_definition.specs.Save.{refused_with}
use Rattle.sheet_definition.specs.Marks.{mark_of}
use Rattle.sheet_definition.proofs.Refused.{built_fits}
use Rattle.sheet_definition.proofs.Build.{build-refused, build_done}
use Rattle.sheet_marks.proofs.Total.{written_at}
use Rattle.sheet.proofs.Saved.{build-together}
use Rattle.sheet.proofs.build.Goals as goal

pub returns-in_err-build : goal.returns-in_err-build
unfolding refused_with
returns-in_err-build c =
    let a = c.args in
    let p = err_from_is_err_and c.from_residual.result c.from_residual.ensures.1 in
    rw (p.1, p.2) (build-refused a.code a.sheet.now a.n a.marks.now a.out.now (rw c.lengths-l.ensures at c.in_err-build.ensures) (not_zero _))

pub work_on-rounds-requires : goal.work_on-rounds-requires
work_on-rounds-requires c =
    let a = c.args in
    let f = built_fits (record { code = a.code; n = a.n; sheet = a.sheet.now; marks = a.marks.now }) a.out.now (sym (rw c.lengths-l.ensures at c.in_ok-build.ensures)) in
    (f.count, f.sheet-room, omega (arith, f.marks-room, c.write.auto.marks), omega arith, omega arith, f.out-room)

pub returns : goal.returns
unfolding mark_of
returns c =
    let a = c.args in
    let marks = a.marks.now in
    let f = built_fits (record { code = a.code; n = a.n; sheet = a.sheet.now; marks = a.marks.now }) a.out.now (sym (rw c.lengths-l.ensures at c.in_ok-build.ensures)) in
    let h = rw c.width.ensures at c.start.ensures in
    build-together a.code a.n _ a.sheet.now marks _ _ a.out.now _
    (c.write.ensures
    ∙ written_at marks 0 (omega (arith, f.marks-room)) c.start.result
    ∙ ap (λ (h : State). overwrite (words_of_all (five h)) marks) h)
    c.work_on-rounds.ensures.value c.work_on-rounds.ensures.marks_after c.work_on-rounds.ensures.out_after
    ∙ build_done a.code a.sheet.now a.n marks a.out.now (rw c.lengths-l.ensures at c.in_ok-build.ensures) refl

-- `sheet_work::work_on` meets its contract. The loop's invariant: what is still to come from mark k is what was to come from mark m.
-- Assumes nothing.
use mathlib.Core.Path.{◌∙◌}
use Prim.Native.Nat.{◌+◌}
use native.Mathlib.Omega.{arith}
use Rattle.sheet_definition.specs.Sheet.{q}
use Rattle.sheet_marks.proofs.Total.{read_at, written_at}
use Rattle.sheet_work.proofs.Groups.{group-on, all_worked}
use Rattle.sheet_work.proofs.work_on.Goals as goal

pub loop-k-preserved : goal.loop-k-preserved
unfolding q
loop-k-preserved c =
    let l = c.loop-k in
    let a = c.args in
    let n = c.write.auto.marks in (
      n ∙ l.invariant.0,
      group-on _ a.n l.k l.c c.absorb-c.result a.sheet.now l.marks _ (omega arith) (omega arith) (omega arith) c.absorb-c.ensures
          (c.write.ensures ∙ written_at l.marks (l.k + 1) (omega arith) c.absorb-c.result.state)
          ∙ l.invariant.1,
    )

pub returns : goal.returns
unfolding q
returns c =
    let l = c.loop-k in
    let w = c.width-w.ensures in
    let a = c.args in
    let marks = a.marks.now in
    let z = all_worked a.code a.n a.m a.before a.sheet.now marks a.out.now c.read.result l.k l.c c.absorb_last-d.result l.marks
    ((rw w at c.read.ensures) ∙ read_at marks a.m (omega arith) _)
    (omega arith)
    (rw w at l.invariant.1)
    (rw w at c.absorb_last-d.ensures)
    c.requires.1 c.requires.5 c.squeeze-e.result _ c.requires.0 c.requires.4 (omega arith)
    (rw (c.words.ensures, w) at c.squeeze-e.ensures.value, rw (c.words.ensures, w) at c.squeeze-e.ensures.out_after) in record {
      value = z.0;
      marks_after = z.1.0;
      out_after = z.1.1;
    }

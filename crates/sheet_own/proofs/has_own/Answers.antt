-- `sheet_own::has_own` meets its contract: the count, the room, and mark 0.
-- Assumes nothing.
use mathlib.Core.Path.{ap, ap₂, ◌∙◌}
use mathlib.Core.Bool.{not}
use Rattle.refusals.proofs.Judged.{handed_on, not_zero}
use Rattle.definition.specs.Block.{words_of_all}
use Rattle.definition.specs.State.{five}
use Rattle.definition.specs.declared.State.{State}
use Rattle.definition.specs.declared.Width.{Width}
use Rattle.definition.specs.Start.{start}
use Rattle.definition.specs.Buffer.{same}
use Rattle.sheet_definition.specs.Marks.{mark_at, state_from, mark_of}
use Rattle.sheet_definition.specs.Own.{used}
use Rattle.sheet_own.proofs.Judged.{too_many, too_short, mark_0, by_mark}
use Rattle.sheet_own.proofs.Marks.{words-read}
use Rattle.sheet_own.proofs.has_own.Goals as goal

pub returns-in_err-when : goal.returns-in_err-when
returns-in_err-when c =
    let a = c.args in
    handed_on _ _ c.from_residual.ensures.1 ∙ too_many a.code a.n a.marks.now c.in_err-when.ensures (not_zero _)

pub returns-in_err-when-2 : goal.returns-in_err-when-2
returns-in_err-when-2 c =
    let a = c.args in
    handed_on _ _ c.from_residual-in_err-when-2.ensures.1
    ∙ too_short a.code a.n a.marks.now _ c.has_marks.ensures (rw c.is_err.ensures.value at c.in_err-when-2.ensures) (not_zero _)

pub returns : goal.returns
unfolding used mark_of
returns c =
    let a = c.args in
    let f = c.width-w.ensures in
    let z = rw c.is_err.ensures.value at c.in_ok-when-2.ensures in
    c.when-3.ensures
    ∙ by_mark a.code a.n a.marks.now _ c.has_marks.ensures c.in_ok-when.ensures z
    (c.differs.ensures
    ∙ ap not (ap₂ same
    (c.words-a.ensures
    ∙ ap (λ (t : State). words_of_all (five t)) c.read.ensures
    ∙ words-read c.width-w.result a.marks.now 0 (mark_0 a.code a.n a.marks.now _ c.has_marks.ensures z)
    ∙ ap (λ (v : Width). mark_of (state_from v (mark_at a.marks.now 0))) f)
    (c.words-b.ensures ∙ ap (λ (t : State). words_of_all (five t)) c.start.ensures ∙ ap (λ (v : Width). mark_of (start v)) f)))

-- `sheet_own::other` meets its contract: two marks read, and their words compared.
-- Assumes nothing.
use mathlib.Core.Path.{ap, ap₂, ◌∙◌}
use mathlib.Core.Bool.{not}
use Rattle.definition.specs.Block.{words_of_all}
use Rattle.definition.specs.State.{five}
use Rattle.definition.specs.declared.State.{State}
use Rattle.definition.specs.Buffer.{same}
use Rattle.sheet_own.proofs.Marks.{words-read}
use Rattle.sheet_own.proofs.other.Goals as goal

pub returns : goal.returns
returns c =
    let x = c.args in
    c.differs.ensures
    ∙ ap not (ap₂ same
    (c.words-a.ensures ∙ ap (λ (t : State). words_of_all (five t)) c.read.ensures ∙ words-read x.w x.held.now x.m c.requires.0)
    (c.words-b.ensures ∙ ap (λ (t : State). words_of_all (five t)) c.read-2.ensures ∙ words-read x.w x.own.now x.m c.requires.1))

-- `luffa::luffa_sheet_mend` meets its contract: the answer for C of what was mended.
-- Assumes nothing.
use mathlib.Core.Path.{ap, ◌∙◌}
use Rattle.mend_definition.specs.Mend.{MendOutcome, mend_answer}
use Rattle.luffa.proofs.luffa_sheet_mend.Goals as goal

pub returns : goal.returns
returns c =
    let m = c.mend.ensures in
    record {
      value = c.from.ensures ∙ ap (λ (o : MendOutcome). mend_answer o.answer) m;
      marks_after = ap (λ (o : MendOutcome). o.marks) m;
    }

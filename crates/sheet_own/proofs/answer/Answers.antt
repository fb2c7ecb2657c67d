-- `sheet_own::answer` meets its contract, case by case.
-- Assumes nothing.
use mathlib.Core.Path.{sym, ap}
use Rattle.sheet_definition.specs.Own.{kind_of, group_of, located_answer}
use Rattle.sheet_own.specs.Located.{located_of}
use Rattle.sheet_own.proofs.answer.Goals as goal
use Rattle.sheet_own.proofs.answer.Goals.{in-Same, in-Group}

pub returns-in-Ok : goal.returns-in-Ok
unfolding located_answer kind_of group_of
returns-in-Ok c = ap (λ s. located_answer (located_of c.args.n s)) (sym c.in-Ok.is)

pub returns-after-strayed : goal.returns-after-strayed
unfolding located_answer kind_of group_of
returns-after-strayed c =
    elim c.match-strayed.branch [
      | in-Same s ↦ rw (c.in-Err.is, s.kind-is, s.in-Same.is, c.from-in-Err.ensures, c.from.ensures)
      | in-Group s ↦ rw (c.in-Err.is, s.kind-is, s.in-Group.is, c.from-in-Err.ensures, c.from.ensures)
    ]

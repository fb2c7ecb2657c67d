-- `step_back::sub_crumb` meets its contract: it runs a program of Appendix D's instructions, which undoes SubCrumb on words of 32 bits.
-- Assumes nothing.
use Rattle.definition.specs.AppendixD.{execute, execute_all}
use Rattle.step_back.proofs.Program.{program, results, program-back}
use Rattle.step_back.proofs.sub_crumb.Goals as goal

pub returns : goal.returns
unfolding results execute_all execute program
returns c =
    program-back c.args.x0 c.args.x1 c.args.x2 c.args.x3
    c.ranges.x0.fits c.ranges.x1.fits c.ranges.x2.fits c.ranges.x3.fits

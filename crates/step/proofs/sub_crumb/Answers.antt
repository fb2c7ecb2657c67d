-- `step::sub_crumb` meets its contract: it runs Appendix D's instructions, which give SubCrumb on words of 32 bits.
-- Assumes nothing.
use Rattle.definition.specs.AppendixD.{table4, execute, execute_all, results, appendix_d}
use Rattle.definition.proofs.SubCrumb.{instructions}
use Rattle.step.proofs.sub_crumb.Goals as goal

pub returns : goal.returns
unfolding appendix_d results execute_all execute table4
returns c =
    instructions c.args.a0 c.args.a1 c.args.a2 c.args.a3
    c.ranges.a0.fits c.ranges.a1.fits c.ranges.a2.fits c.ranges.a3.fits

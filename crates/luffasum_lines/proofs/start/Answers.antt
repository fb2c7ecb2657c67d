-- `luffasum_lines::start` meets its contract.
-- Assumes nothing.
use Rattle.luffasum_lines.specs.Text.{started_records}
use Rattle.luffasum_lines.proofs.start.Goals as goal

pub returns : goal.returns
unfolding started_records
returns c = rw (c.started.ensures, c.started-2.ensures, c.started-3.ensures)

-- `luffasum_lines::digit` meets its contract: the test is the definition's.
-- Assumes nothing.
use borrow.Author.Tests.{lt-ltb, le-ltb}
use Rattle.luffasum_lines.specs.Line.{digit}
use Rattle.luffasum_lines.proofs.digit.Goals as goal

pub returns-then-n-lt10 : goal.returns-then-n-lt10
unfolding digit
returns-then-n-lt10 c = rw (lt-ltb _ 10 c.if-n-lt10.true)

pub returns : goal.returns
unfolding digit
returns c = rw (le-ltb _ 10 c.if-n-lt10.false)

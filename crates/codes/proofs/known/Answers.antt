-- `codes::known` meets its contract: the range is the definition's.
-- Assumes nothing.
use native.Mathlib.Omega.{arith}
use borrow.Author.Tests.{lt-leb, le-leb}
use Rattle.definition.specs.Refusal.{known as known_of}
use Rattle.codes.proofs.known.Goals as goal

pub returns-in-1-to-4 : goal.returns-in-1-to-4
unfolding known_of
returns-in-1-to-4 c = rw (le-leb 1 c.args.code (omega arith), le-leb c.args.code 4 (omega arith))

pub returns-in_default : goal.returns-in_default
unfolding known_of
returns-in_default c = rw (lt-leb 1 c.args.code (omega arith))

pub returns-in_default-2 : goal.returns-in_default-2
unfolding known_of
returns-in_default-2 c = rw (le-leb 1 c.args.code (omega arith), lt-leb c.args.code 4 (omega arith))

-- `hash_kept::byte_limit` meets its contract, at each of Table 1's limits.
-- Assumes nothing.
use Rattle.std.proofs.Common.{sym}
use Rattle.hash_kept.proofs.Limit.{limit_low, limit_high}
use Rattle.hash_kept.proofs.byte_limit.Goals as goal

pub returns-then-code-lt3 : goal.returns-then-code-lt3
returns-then-code-lt3 c = sym (limit_low c.args.code c.if-code-lt3.true)

pub returns-else-code-lt3 : goal.returns-else-code-lt3
returns-else-code-lt3 c = sym (limit_high c.args.code c.if-code-lt3.false)

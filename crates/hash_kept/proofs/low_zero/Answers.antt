-- `hash_kept::low_zero` meets its contract: the shift moves the first bits out of the byte.
-- Assumes nothing.
use Rattle.std.proofs.Common.{◌*◌, ◌^◌, arith}
use lib.Pow.{mod-mod-pow}
use Rattle.hash_kept.proofs.Zeros.{odd-zero}
use Rattle.hash_kept.proofs.low_zero.Goals as goal

pub returns : goal.returns
returns c =
    let a = c.args in
    rw (c.from.ensures, mod-mod-pow (a.x * 2 ^ a.odd) 24 8) (odd-zero a.odd a.x c.requires (omega arith))

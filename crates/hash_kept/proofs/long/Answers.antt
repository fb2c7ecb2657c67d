-- `hash_kept::long` meets its contract: a sum that passes what the machine holds passes the limit too.
-- Assumes nothing.
use mathlib.Core.Path.{◌≡◌}
use native.Mathlib.Omega.{arith}
use Prim.Native.Nat.{◌+◌, ◌-◌, ◌^◌, min}
use lib.Pow.{le_ones}
use Rattle.hash_kept.proofs.Limit.{past}
use Rattle.hash_kept.proofs.long.Goals as goal

pub returns : goal.returns
returns c =
    let a = c.args in
    let sum : c.saturating_add.result ≡ min (a.count + a.n) (2 ^ 128 - 1) = omega (arith, c.saturating_add.ensures) in
    rw (← c.byte_limit.ensures, sum) (past (a.count + a.n) a.odd c.byte_limit.result c.requires (2 ^ 128 - 1) (le_ones 128 c.byte_limit.type_inv))

-- What is printed stands in the buffer: luffasum_lines says that the text of any end and any records has room there.
-- Assumes nothing.
use Rattle.std.proofs.Common.{◌≡◌, ℕ, ◌≤◌, List, length, replicate}
use mathlib.Core.Path.{sym, ap}
use native.Mathlib.Omega.{arith}
use lib.Seq.{length-take-le}
use Rattle.luffasum_lines.specs.declared.End.{End}
use Rattle.luffasum_lines.specs.Text.{Printed, Reading, reading_of, printed}
use Rattle.luffasum_lines.proofs.Held.{printed-size}
use Rattle.luffasum.proofs.say.Goals as goal

fits : (end : End) (r : Reading) (n : ℕ) (out : List ℕ)
    → record { size = n; buffer = out } ≡ printed end r (replicate 440 0) → length out ≡ 440 → n ≤ length out
fits end r n out p l = omega (arith, printed-size end r (replicate 440 0), ap (λ (p : Printed). p.size) p, l)

-- src/main.rt:44:22
pub slice_bounds-out-end : goal.slice_bounds-out-end
slice_bounds-out-end g c = fits c.args.end (reading_of c.args.r) _ _ c.print-n.ensures c.print-n.auto.out

-- src/main.rt:44:22
pub slice_bounds-write_all-end : goal.slice_bounds-write_all-end
slice_bounds-write_all-end g c = sym (length-take-le _ _ (fits c.args.end (reading_of c.args.r) _ _ c.print-n.ensures c.print-n.auto.out))

-- `luffasum_lines::put_line` meets its contract: five pieces, one behind the other, are the line.
-- Assumes nothing.
use mathlib.Core.Path.{◌≡◌, ◌∙◌}
use Prim.Native.Nat.{◌-◌}
use native.Mathlib.Omega.{arith}
use lib.ListN.{take, drop, length-drop}
use lib.Seq.{take_all}
use Rattle.luffasum_lines.specs.Line.{decimal}
use Rattle.luffasum_lines.proofs.Lines.{length-line, pieces}
use Rattle.luffasum_lines.proofs.put_line.Goals as goal

pub returns : goal.returns
returns c =
    let a = c.args in
    let r = c.decimal-from.result in
    let t = c.decimal-from.new.t in
    let e : take (20 - r) (drop r t) ≡ decimal a.count =
    take_all (20 - r) (drop r t) (omega (arith, length-drop r t, c.decimal-from.auto.t)) ∙ c.decimal-from.ensures.1 in
    let w = rw (c.put_hexadecimal.ensures, c.put_bytes-3.ensures, c.put_bytes-2.ensures, c.put_bytes.ensures, c.digit.ensures) at c.put_bytes-4.ensures in
    (rw e (omega (arith, length-line a.code a.count a.digest.now)), w ∙ pieces a.code a.count a.digest.now a.i a.out.now c.requires.1 _ e)

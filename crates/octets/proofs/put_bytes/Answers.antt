-- `octets::put_bytes` meets its contract. The loop's invariant: the first j bytes are written.
-- Assumes nothing.
use mathlib.Core.Path.{◌≡◌, sym, ap, ◌∙◌}
use native.Mathlib.Numerals.{add-one}
use native.Mathlib.Omega.{arith}
use lib.ListN.{length}
use lib.Seq.{paste-zero, paste-suc, take-length, length-paste}
use Rattle.definition.specs.Buffer.{overwrite_at}
use Rattle.octets.proofs.Total.{write_at_lem, write_not}
use Rattle.octets.proofs.put_bytes.Goals as goal
use Rattle.octets.proofs.put_bytes.Goals.{else-i-b-via-then-i-b+else-t-b, else-i-b-via-else-i-b}

pub returns-else-i-b : goal.returns-else-i-b
returns-else-i-b c = sym (write_not _ _ _ (elim c.else-i-b.branch [ else-i-b-via-then-i-b+else-t-b w ↦ omega arith | else-i-b-via-else-i-b w ↦ omega arith ]))

pub loop-j-init : goal.loop-j-init
loop-j-init c =
    let a = c.args in
    (omega arith, (omega arith, omega arith), paste-zero a.b.now a.i a.t.now)

pub loop-j-preserved : goal.loop-j-preserved
loop-j-preserved c =
    let a = c.args in
    let l = c.loop-j in (
      omega arith,
      l.invariant.1,
      rw (add-one l.j, l.invariant.2) (paste-suc a.b.now a.i a.t.now l.j 0 (omega arith) (omega arith)),
    )

pub shape_of-b : goal.shape_of-b
shape_of-b c =
    let a = c.args in
    let l = c.loop-j in
    ap length l.invariant.2 ∙ length-paste a.b.now a.i a.t.now l.j (omega arith) (omega arith)

pub returns-after-loop-j : goal.returns-after-loop-j
unfolding overwrite_at
returns-after-loop-j c =
    let a = c.args in
    let t = a.t.now in
    let l = c.loop-j in
    let e : l.j ≡ length t = omega arith in
    (rw (e, take-length t) at l.invariant.2) ∙ sym (write_at_lem a.i t a.b.now (omega arith))

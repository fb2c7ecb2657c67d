-- `luffasum_lines::put_hexadecimal` meets its contract. The loop's invariant: the digits of the first k bytes are written.
-- Assumes nothing.
use mathlib.Core.Path.{◌≡◌, sym, ap, ◌∙◌}
use mathlib.Core.List.{List, [], ◌∷◌}
use Prim.Native.Nat.{ℕ, suc, ◌+◌, ◌*◌, ◌/◌, ◌%◌, ◌<◌, ◌≤◌}
use native.Mathlib.Numerals.{add-one}
use native.Mathlib.Omega.{arith}
use lib.ListN.{length, get_or, take}
use lib.Seq.{take-suc, take-length, length-take-le}
use Rattle.octets.specs.Total.{write_at}
use Rattle.octets.proofs.Total.{write_none, write_at-more, length-write_at}
use Rattle.luffasum_lines.specs.Line.{digit, hexadecimal}
use Rattle.luffasum_lines.proofs.Digits.{length-hexadecimal, hexadecimal_snoc}
use Rattle.luffasum_lines.proofs.put_hexadecimal.Invariants.{some}
use Rattle.luffasum_lines.proofs.put_hexadecimal.Goals as goal

one_more : (i k : ℕ) (bs out : List ℕ) → k < length bs → i + 2 * length bs ≤ length out
    → write_at (i + 2 * k) (digit (get_or bs k 0 / 16) ∷ digit (get_or bs k 0 % 16) ∷ []) (write_at i (some k bs) out) ≡ write_at i (some (suc k) bs) out
unfolding some
one_more i k bs out h r =
    let n : length (hexadecimal (take k bs)) ≡ 2 * k = length-hexadecimal (take k bs) ∙ ap (λ (n : ℕ). 2 * n) (length-take-le k bs (omega arith)) in
    rw (take-suc bs k 0 h, hexadecimal_snoc) (write_at-more i (i + 2 * k) (hexadecimal (take k bs)) _ out (omega arith) (omega arith))

pub loop-k-init : goal.loop-k-init
unfolding some hexadecimal
loop-k-init c = (omega arith, (omega arith, omega arith), sym (write_none _ _))

pub loop-k-preserved : goal.loop-k-preserved
loop-k-preserved c =
    let l = c.loop-k in (
      omega arith,
      l.invariant.1,
      rw (add-one l.k)
          ((rw (l.invariant.2, c.digit.ensures, c.digit-in-loop-k.ensures) at c.put_bytes.ensures)
          ∙ one_more _ l.k _ _ (omega arith) (omega arith)),
    )

pub shape_of-out : goal.shape_of-out
shape_of-out c = ap length c.loop-k.invariant.2 ∙ length-write_at _ _ _

pub returns : goal.returns
unfolding some
returns c =
    let l = c.loop-k in
    let bs = c.args.digest.now in
    let e : l.k ≡ length bs = omega arith in
    rw (e, take-length bs) at l.invariant.2

-- `luffasum_lines::decimal` meets its contract. The loop's invariant: the digits of what is left, before those that stand there, are the whole.
-- Assumes nothing.
use mathlib.Core.Path.{◌≡◌, ◌∙◌}
use mathlib.Core.List.{[]}
use Prim.Native.Nat.{suc, ◌-◌}
use native.Mathlib.Omega.{arith}
use lib.ListN.{drop, length-set, drop_of_length-le}
use Rattle.luffasum_lines.specs.Line.{decimal}
use Rattle.luffasum_lines.proofs.Digits.{store_next, store_last, shorter}
use Rattle.luffasum_lines.proofs.decimal.Goals as goal

pub loop-rest-init : goal.loop-rest-init
unfolding decimal
loop-rest-init c =
    let e : drop 20 c.args.t.now ≡ [] = drop_of_length-le c.args.t.now {i = 20} (omega arith) in
    ((omega arith, omega arith, omega arith), omega arith, rw e)

pub loop-rest-preserved : goal.loop-rest-preserved
loop-rest-preserved c =
    let l = c.loop-rest in
    let e : l.i ≡ suc (l.i - 1) = omega arith in
    let s = shorter (l.i - 1) l.rest (omega arith) (rw (← e) l.invariant.1) in (
      (s.0, omega arith, length-set l.t _ _ ∙ l.invariant.0.2),
      s.1,
      rw c.digit.ensures (store_next l.i l.rest l.t (omega arith) (omega arith) (omega arith)) ∙ l.invariant.2,
    )

pub returns : goal.returns
returns c =
    let l = c.loop-rest in
    (omega arith, rw c.digit-2.ensures (store_last l.i l.rest l.t (omega arith) (omega arith) (omega arith)) ∙ l.invariant.2)

pub shape_of-t : goal.shape_of-t
shape_of-t c =
    simp length-set (omega arith)

-- `sheet_close_up::zero` meets its contract: a part filled.
-- Assumes nothing.
use mathlib.Core.Path.{◌≡◌, sym}
use mathlib.Core.List.{List, append_assoc}
use Prim.Native.Nat.{ℕ, ◌+◌, ◌-◌, ◌*◌}
use native.Mathlib.Omega.{arith}
use lib.ListN.{length, take, drop, replicate, length-drop, length-replicate}
use lib.Seq.{drop-drop, length-take-le}
use Rattle.definition.specs.Buffer.{overwrite_at}
use Rattle.sheet_definition.specs.Sheet.{record_bytes}
use Rattle.sheet_close_up.proofs.zero.Goals as goal

pub returns : goal.returns
unfolding overwrite_at
returns c =
    let a = c.args in
    let s : List ℕ = a.sheet.now in
    let i : ℕ = record_bytes * a.from in
    let k : ℕ = record_bytes * a.to - i in
    let e : record_bytes * (a.to - a.from) ≡ k = omega arith in
    let n : length (take k (drop i s)) ≡ k = length-take-le k (drop i s) (omega (arith, c.requires, length-drop i s)) in
    let f : c.fill.new.self ≡ replicate k 0 = rw n at (c.fill.ensures.after (λ y e. e)) in
    rw (f, e, length-replicate {A = ℕ} k 0, drop-drop k i s) (sym (append_assoc (take i s) (replicate k 0) (drop (i + k) s)))

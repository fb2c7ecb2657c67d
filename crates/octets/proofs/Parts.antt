-- The part of a slice from a place to its end.
-- Assumes nothing.
use mathlib.Core.Path.{◌≡◌}
use mathlib.Core.List.{List}
use Prim.Native.Nat.{ℕ, ◌-◌}
use native.Mathlib.Omega.{arith}
use lib.ListN.{length, take, drop, length-drop}
use lib.Seq.{take_all}

pub part_rest : (n : ℕ) (l : List ℕ) → take (length l - n) (drop n l) ≡ drop n l
part_rest n l = take_all (length l - n) (drop n l) (omega (arith, length-drop n l))

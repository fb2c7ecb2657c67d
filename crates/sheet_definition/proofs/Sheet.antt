-- Document 01's numbers of the sheet, one from the other.
-- Assumes nothing.
use mathlib.Core.Path.{◌≡◌}
use Prim.Native.Nat.{ℕ, ◌+◌, ◌*◌}
use native.Mathlib.Omega.{arith}
use Rattle.sheet_definition.specs.Sheet.{q, r, N, rounds_from, build_rounds, check_rounds}

-- N = 5q + r + 1
pub blocks_of_sheet : (n : ℕ) → N n ≡ 5 * q n + r n + 1
unfolding N q r
blocks_of_sheet n = omega arith

-- the check is the work from mark q to the end
pub check_from_last_mark : (code n : ℕ) → check_rounds code n ≡ rounds_from code n (q n)
unfolding check_rounds rounds_from N q r
check_from_last_mark code n = omega arith

-- a build is the work from mark 0 to the end
pub build_from_start : (code n : ℕ) → build_rounds code n ≡ rounds_from code n 0
unfolding build_rounds rounds_from
build_from_start code n = omega arith

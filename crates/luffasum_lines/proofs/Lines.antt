-- A line's length, and a line that is written piece by piece.
-- Assumes nothing.
use mathlib.Core.Path.{◌≡◌, refl}
use mathlib.Core.List.{List, [], ◌∷◌, ◌++◌}
use Prim.Native.Nat.{ℕ, ◌+◌, ◌*◌, ◌≤◌}
use native.Mathlib.Omega.{arith}
use lib.ListN.{length, length-append}
use Rattle.octets.specs.Total.{write_at}
use Rattle.octets.proofs.Total.{write_at-more}
use Rattle.luffasum_lines.specs.Line.{space, line_end, digit, decimal, hexadecimal, line}
use Rattle.luffasum_lines.proofs.Digits.{length-decimal, length-hexadecimal}

module _ (code count : ℕ) (digest : List ℕ) where
  -- the line as far as its parts are written
  abbrev first : List ℕ
  first = digit code ∷ space ∷ []

  abbrev second : List ℕ
  second = first ++ decimal count

  abbrev third : List ℕ
  third = second ++ space ∷ []

  abbrev fourth : List ℕ
  fourth = third ++ hexadecimal digest

  length_fourth : length fourth ≡ 3 + length (decimal count) + 2 * length digest
  length_fourth = omega (arith, length-append third (hexadecimal digest), length-append second (space ∷ []), length-append first (decimal count), length-hexadecimal digest)

  pub length-line : length (line code count digest) ≡ 4 + length (decimal count) + 2 * length digest
  unfolding line
  length-line = omega (arith, length-append fourth (line_end ∷ []), length_fourth)

  module _ (i : ℕ) (out : List ℕ) (room : i + (24 + 2 * length digest) ≤ length out) where
    pub pieces : (v : List ℕ) → v ≡ decimal count
        → write_at (i + 2 + length v + 1 + 2 * length digest) (line_end ∷ []) (write_at (i + 2 + length v + 1) (hexadecimal digest) (write_at (i + 2 + length v) (space ∷ []) (write_at (i + 2) v (write_at i first out))))
        ≡ write_at i (line code count digest) out
    unfolding line
    pieces v e =
        let d : length (decimal count) ≤ 20 = length-decimal count in
        let h : length (hexadecimal digest) ≡ 2 * length digest = length-hexadecimal digest in
        let two : length second ≡ 2 + length (decimal count) = length-append first (decimal count) in
        let three : length third ≡ 3 + length (decimal count) = omega (arith, length-append second (space ∷ [])) in
        rw (
          e,
          write_at-more i (i + 2) first (decimal count) out refl (omega arith),
          write_at-more i (i + 2 + length (decimal count)) second (space ∷ []) out (omega arith) (omega arith),
          write_at-more i (i + 2 + length (decimal count) + 1) third (hexadecimal digest) out (omega arith) (omega arith),
        )
        (write_at-more i (i + 2 + length (decimal count) + 1 + 2 * length digest) fourth (line_end ∷ []) out (omega (arith, length_fourth)) (omega arith))

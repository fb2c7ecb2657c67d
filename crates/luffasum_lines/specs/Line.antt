-- A line of the digest program: document 01, "code, message bytes in decimal, digest in lower-case hexadecimal, one space between". Text is
-- bytes.
use Rattle.std.specs.Prelude.{ℕ, zero, suc, ◌+◌, ◌-◌, ◌/◌, ◌%◌, cond, List, [], ◌∷◌, ◌++◌, ltb, length}
use Rattle.definition.specs.Luffa.{luffa}

abbrev pub space : ℕ
space = 32

abbrev pub line_end : ℕ
line_end = 10

-- a number below 16 as a digit: `0` to `9`, then `a` to `f`
unfoldable pub digit : ℕ → ℕ
digit n = cond (ltb n 10) (48 + n) (97 + (n - 10))

-- the decimal digits of n in front of what follows them, k at most
unfoldable pub decimal_before : (k n : ℕ) → List ℕ → List ℕ
decimal_before zero n after = after
decimal_before (suc k) n after = cond (ltb n 10) (digit n ∷ after) (decimal_before k (n / 10) (digit (n % 10) ∷ after))

-- "in decimal": a number of 64 bits has 20 digits at most
unfoldable pub decimal : ℕ → List ℕ
decimal n = decimal_before 20 n []

-- "in lower-case hexadecimal": two digits for each byte, the high one first
unfoldable pub hexadecimal : List ℕ → List ℕ
hexadecimal [] = []
hexadecimal (b ∷ bs) = digit (b / 16) ∷ digit (b % 16) ∷ hexadecimal bs

unfoldable pub line : (code count : ℕ) → (digest : List ℕ) → List ℕ
line code count digest =
    (digit code ∷ space ∷ []) ++ decimal count ++ (space ∷ []) ++ hexadecimal digest ++ (line_end ∷ [])

-- "four lines, one for each code from 1 to 4", of a message
unfoldable pub message_line : (code : ℕ) → List ℕ → List ℕ
message_line code m = line code (length m) (luffa code m)

unfoldable pub four_lines : List ℕ → List ℕ
four_lines m = message_line 1 m ++ message_line 2 m ++ message_line 3 m ++ message_line 4 m

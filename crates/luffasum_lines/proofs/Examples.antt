-- Document 01's four lines for `abc`, and decimal numbers at the edges, as the checker computes them from the definitions. Texts are quoted.
-- Assumes nothing.
use mathlib.Core.Path.{◌≡◌, refl}
use mathlib.Core.List.{List, [], ◌∷◌, map}
use Prim.Native.Nat.{ℕ, zero, suc, ◌^◌, ◌<◌}
use native.Mathlib.Omega.{arith}
use lib.ListN.{length, replicate, length-append, length-replicate}
use Prim.Native.Char.{code}
use Prim.Native.String.{String, len, char_at}
use Rattle.definition.specs.Word.{bytes_of, bytes_of_all}
use Rattle.definition.specs.Buffer.{joined}
use Rattle.definition.proofs.Cases.{same→eq}
use Rattle.definition.proofs.Vectors.{abc, luffa_224, luffa_256, luffa_384, luffa_512}
use Rattle.luffasum_lines.specs.declared.End.TheVariants.{Whole}
use Rattle.luffasum_lines.specs.Text.{limit, started_records, program}
use Rattle.luffasum_lines.proofs.Program.{prints_lines, prints_four}
use Rattle.luffasum_lines.specs.Line.{digit, decimal_before, decimal, hexadecimal, line, message_line, four_lines}

-- the bytes of a text that has only ASCII characters, n of them from place i on
abbrev quoted_from : (n i : ℕ) → String → List ℕ
quoted_from zero i s = []
quoted_from (suc n) i s = code (char_at s i) ∷ quoted_from n (suc i) s

abbrev pub quoted : String → List ℕ
quoted s = quoted_from (len s) 0 s

pub abc_lines : four_lines abc ≡ quoted "1 3 f29311b87e9e40de7699be23fbeb5a47cb16ea4f5556d47ca40c12ad\n2 3 f29311b87e9e40de7699be23fbeb5a47cb16ea4f5556d47ca40c12ad764a73bd\n3 3 9a7abb797a840e2d423c34c91f559f6809bdb2916fb2e9effec2fa0a7a69881be9872480c635d20d2fd6e95d046601a7\n4 3 f40245973e80d79d0f4b9b202ddd4505b81b8830501bea31612b5817aae387921dcefd808ca2c78020aff59345d6f91f0ee6b2eee113f0cbcf22b64381387e8a\n"
unfolding four_lines message_line line digit decimal_before decimal hexadecimal bytes_of bytes_of_all
abc_lines = rw (luffa_224, luffa_256, luffa_384, luffa_512) (same→eq _ _ tt)

-- and so the program prints them, whatever reads bring `abc`
pub abc_printed : program started_records ((0x61 ∷ []) ∷ [] ∷ (0x62 ∷ 0x63 ∷ []) ∷ []) Whole ≡ four_lines abc
unfolding joined
abc_printed = prints_lines ((0x61 ∷ []) ∷ [] ∷ (0x62 ∷ 0x63 ∷ []) ∷ []) (omega arith)

-- 2^61 bytes pass the limit, and bring `4`
long : (n : ℕ) → limit < n → limit < length (joined (replicate n 0 ∷ []))
unfolding joined
long n h = omega (arith, length-append {A = ℕ} (replicate n 0) [], length-replicate {A = ℕ} n 0)

pub past-limit : program started_records (replicate (2 ^ 61) 0 ∷ []) Whole ≡ quoted "4\n"
past-limit = prints_four (replicate (2 ^ 61) 0 ∷ []) Whole (long (2 ^ 61) (omega arith))

-- numbers at which a digit is added, 2^32 and the greatest of 64 bits
pub decimal_edges : map decimal (0 ∷ 9 ∷ 10 ∷ 99 ∷ 100 ∷ 4294967296 ∷ 18446744073709551615 ∷ [])
    ≡ map quoted ("0" ∷ "9" ∷ "10" ∷ "99" ∷ "100" ∷ "4294967296" ∷ "18446744073709551615" ∷ [])
unfolding digit decimal_before decimal
decimal_edges = refl

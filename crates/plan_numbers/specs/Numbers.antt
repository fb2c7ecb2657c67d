-- A set of numbers as a table of bits: number k is bit k mod 64 of word k / 64.
use Rattle.std.specs.Prelude.{ℕ, ◌/◌, ◌%◌, Bool, ◌||◌, List, eqb, get_or}
use Rattle.definition.specs.Word.{bit}

unfoldable pub has : List ℕ → (k : ℕ) → Bool
has t k = eqb (bit (k % 64) (get_or t (k / 64) 0)) 1

-- a set with a number more
unfoldable pub plus : (k : ℕ) → (ℕ → Bool) → ℕ → Bool
plus k f j = eqb k j || f j

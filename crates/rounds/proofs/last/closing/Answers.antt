-- `rounds::last::closing` meets its contract: the padding bit stands after the odd bits, so the sum is a byte.
-- Assumes nothing.
use Rattle.std.proofs.Common.{◌≡◌, ℕ, ◌+◌, ◌-◌, ◌/◌, ◌^◌, ◌<◌, eqb, ltb, arith, eqb→eq, ltb→lt}
use Rattle.definition.specs.Padding.{high_bits, closing_byte}
use Rattle.definition.proofs.Cases.{every_below, at_below}
use Rattle.rounds.proofs.last.closing.Goals as goal

-- the padding bit after so many odd bits, and the bound, by trying all bytes
one_bit : (o : ℕ) → o < 8 → 2 ^ 7 / 2 ^ o ≡ 2 ^ (7 - o)
one_bit o h = eqb→eq (2 ^ 7 / 2 ^ o) (2 ^ (7 - o)) (at_below 8 (λ o. eqb (2 ^ 7 / 2 ^ o) (2 ^ (7 - o))) tt o h)

is_byte : (o b : ℕ) → o < 8 → b < 256 → high_bits o b + 2 ^ 7 / 2 ^ o < 256
unfolding high_bits
is_byte o b h l =
    ltb→lt (high_bits o b + 2 ^ 7 / 2 ^ o) 256
    (at_below 256 (λ b. ltb (high_bits o b + 2 ^ 7 / 2 ^ o) 256)
    (at_below 8 (λ o. every_below 256 (λ b. ltb (high_bits o b + 2 ^ 7 / 2 ^ o) 256)) tt o h) b l)

pub overflow_add-result : goal.overflow_add-result
overflow_add-result c =
    let a = c.args in
    omega (arith, is_byte a.odd a.byte (omega arith) (omega arith), c.high_bits.ensures)

pub returns : goal.returns
unfolding closing_byte
returns c h = let a = c.args in rw (c.high_bits.ensures, one_bit a.odd (omega arith))

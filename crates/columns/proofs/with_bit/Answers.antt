-- `columns::with_bit` meets its contract.
-- Assumes nothing.
use Prim.Native.Nat.{ℕ, ◌+◌}
use mathlib.Core.Path.{ap}
use Rattle.definition.specs.Word.{bit}
use Rattle.definition.proofs.Bits.{bit_lt}
use Rattle.columns.proofs.Parts.{bit_fits, bit_shifted}
use Rattle.columns.proofs.with_bit.Goals as goal

pub overflow_add-result : goal.overflow_add-result
unfolding bit
overflow_add-result c =
    let a = c.args in
    let p = c.requires in
    rw (c.from.ensures, bit_shifted (bit a.k a.x) a.l a.a (bit_lt a.k a.x) p.2 p.0)
    (record { fits = bit_fits (bit a.k a.x) a.l a.a (bit_lt a.k a.x) p.2 p.0 })

pub returns : goal.returns
unfolding bit
returns c =
    let a = c.args in
    let p = c.requires in
    rw c.from.ensures (ap (λ (n : ℕ). n + a.a) (bit_shifted (bit a.k a.x) a.l a.a (bit_lt a.k a.x) p.2 p.0))

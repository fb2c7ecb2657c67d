-- A message in one call: what its rounds and the final stage put out is what the definition says.
-- Assumes nothing.
use mathlib.Core.Path.{◌≡◌, refl, sym}
use mathlib.Core.List.{List}
use Prim.Native.Nat.{ℕ, zero, suc, ◌+◌, ◌*◌, ◌<◌, ◌≤◌}
use native.Mathlib.Nat.{zero-lt-suc}
use native.Mathlib.Omega.{arith}
use lib.ListN.{length, get_or, take}
use Rattle.definition.specs.declared.State.{State}
use Rattle.definition.specs.Word.{bytes_of_all}
use Rattle.definition.specs.Round.{chain}
use Rattle.definition.specs.Start.{start}
use Rattle.definition.specs.State.{blocks_in, state_of}
use Rattle.definition.specs.Padding.{whole_bytes, bits_in, closing, closing_byte, high_bits, padded, blocks}
use Rattle.definition.specs.Final.{final}
use Rattle.definition.specs.Width.{width_at}
use Rattle.definition.specs.Luffa.{output_of, luffa_output}
use Rattle.definition.proofs.Chain.{blocks_of_start}
use Rattle.definition.proofs.BitStrings.{output-bits}
use Rattle.hash_definition.specs.Said.{Ends}

-- a message has the bits that its whole bytes and the odd bits are
enough : (odd n : ℕ) → (odd ≤ 7) × (0 < odd → 0 < n) → 8 * whole_bytes odd n + odd ≤ 8 * n
unfolding whole_bytes
enough zero n e = omega arith
enough (suc o) n e = omega (arith, e.0, e.1 (zero-lt-suc o))

-- from the starting variables, over a whole message: Luffa's output of its bits
pub whole-message : (code words : ℕ) (m : List ℕ) (odd n byte : ℕ) (s : State) → s ≡ state_of (start (width_at code)) → Ends odd m
    → n ≡ whole_bytes odd (length m) → byte ≡ closing_byte odd (get_or m n 0)
    → bytes_of_all (final (width_at code) words (chain (width_at code) (blocks_in (width_at code) s) (blocks (padded byte (take n m)))))
    ≡ luffa_output code words (bits_in m odd)
unfolding output_of luffa_output bits_in
whole-message code words m odd n byte s e o w b =
    rw (e, blocks_of_start, b, w) (sym (output-bits code words (start (width_at code)) m (whole_bytes odd (length m)) odd o.0 (enough odd (length m) o)))

-- a message whose bytes are all whole has no odd bits
pub closing-whole : (odd n x : ℕ) → (0 < odd → 0 < n) → n ≤ whole_bytes odd n → closing ≡ closing_byte odd x
unfolding whole_bytes closing_byte high_bits
closing-whole zero n x h e = refl
closing-whole (suc o) n x h e = absurd (omega (arith, h (zero-lt-suc o)))

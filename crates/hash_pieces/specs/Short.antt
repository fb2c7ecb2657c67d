-- A piece that completes no block, as the words of the machine hold it: document 01, "Pending bytes are the last (count mod 32) fed", and
-- document 02, Q-7. That this is what feeding such a piece leaves is a law.
use Rattle.std.specs.Prelude.{ℕ, zero, suc, ◌+◌, ◌-◌, ◌/◌, ◌%◌, ◌^◌, List, [], ◌∷◌, length, take, slice_index}
use Rattle.definition.specs.Padding.{high_bits}
use Rattle.octets.specs.Total.{write_at}
use Rattle.hash_definition.specs.declared.Held.{Held}
use Rattle.hash_definition.specs.Record.{count_of}

-- n whole bytes more: the sum as two words
unfoldable pub high_of : (high low n : ℕ) → ℕ
high_of high low n = (count_of high low + n) / 2 ^ 64 % 2 ^ 64

unfoldable pub low_of : (high low n : ℕ) → ℕ
low_of high low n = (count_of high low + n) % 2 ^ 64

-- whole bytes after the pending ones
unfoldable pub stays_of : Held → List ℕ → Held
stays_of h piece =
    record {
      odd = h.odd;
      pending = write_at (h.low % 32) piece h.pending;
      high = high_of h.high h.low (length piece);
      low = low_of h.high h.low (length piece);
    }

-- odd bits after them
unfoldable pub ended_of : Held → (odd byte : ℕ) → Held
ended_of h odd byte =
    record { odd = odd; pending = write_at (h.low % 32) (high_bits odd byte ∷ []) h.pending; high = h.high; low = h.low }

-- whole bytes, and then the odd bits of the last byte where there are any
unfoldable pub by_odd : {A : Type 0} → (List ℕ → A) → (A → (odd byte : ℕ) → A) → (piece : List ℕ) → (odd : ℕ) → A
by_odd whole ends piece zero = whole piece
by_odd whole ends piece (suc o) = ends (whole (take (length piece - 1) piece)) (suc o) (slice_index piece (length piece - 1))

unfoldable pub short_of : Held → List ℕ → (odd : ℕ) → Held
short_of h piece odd = by_odd (stays_of h) ended_of piece odd

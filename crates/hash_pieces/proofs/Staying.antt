-- A piece that completes no block alters what is held beside code and state, and nothing else.
-- Assumes nothing.
use Rattle.std.proofs.Common.{◌≡◌, ℕ, zero, suc, ◌+◌, ◌-◌, ◌*◌, ◌%◌, ◌<◌, ◌≤◌, true, List, [], ◌∷◌, ◌++◌, length, get_or, take, refl, ap, ◌∙◌, le_refl, zero-lt-suc, arith, length-append, length-take-le, take_all}
use Rattle.hash_definition.specs.declared.Kept.{Kept}
use Rattle.hash_definition.specs.declared.Held.{Held}
use Rattle.definition.specs.Padding.{whole_bytes, high_bits}
use Rattle.definition.specs.Round.{chain}
use Rattle.definition.specs.Luffa.{limit_at}
use Rattle.definition.specs.Buffer.{overwrite_at}
use Rattle.definition.specs.Width.{width_at}
use Rattle.octets.specs.Total.{write_at}
use Rattle.hash_definition.specs.Record.{with_zeros, held_of, with_held, bytes_fed, pending_count, pending_bytes, well_kept, fed, ended, fed_bits}
use Rattle.hash_pieces.specs.Short.{stays_of, ended_of, by_odd, short_of}
use Rattle.definition.proofs.Padding.{blocks_none, rest_short}
use Rattle.octets.proofs.Total.{write_at_lem, length-write_at}
use Rattle.hash_definition.proofs.Feeding.{well_kept_lem, zeros-after, state-used, fed-pending}
use Rattle.hash_definition.proofs.Ending.{low_pending, pending_lt}
use Rattle.hash_pieces.proofs.Counts.{high_sum, low_sum}
use Rattle.hash_pieces.proofs.Pieces.{after-piece}

pub whole_le : (odd n : ℕ) → whole_bytes odd n ≤ n
unfolding whole_bytes
whole_le zero n = le_refl n
whole_le (suc o) n = omega arith

-- by whether the piece's last byte is whole
module _ {A : Type 0} (whole : List ℕ → A) (ends : A → ℕ → ℕ → A) (piece : List ℕ) where
  pub all_whole : (odd : ℕ) → whole_bytes odd (length piece) ≡ length piece → (0 < odd → 0 < length piece)
      → whole (take (whole_bytes odd (length piece)) piece) ≡ by_odd whole ends piece odd
  unfolding whole_bytes by_odd
  all_whole zero e h = ap whole (take_all (length piece) piece (le_refl (length piece)))
  all_whole (suc o) e h = absurd (omega (arith, h (zero-lt-suc o)))

  pub not_whole : (odd : ℕ) → (whole_bytes odd (length piece) ≡ length piece → ⊥)
      → ends (whole (take (whole_bytes odd (length piece)) piece)) odd (get_or piece (whole_bytes odd (length piece)) 0) ≡ by_odd whole ends piece odd
  unfolding whole_bytes by_odd
  not_whole zero h = absurd (h refl)
  not_whole (suc o) h = refl

-- feeding goes by it
pub fed_by_odd : (k : Kept) (piece : List ℕ) (odd : ℕ) → by_odd (fed k) ended piece odd ≡ fed_bits k piece odd
unfolding by_odd fed_bits
fed_by_odd k piece zero = refl
fed_by_odd k piece (suc o) = refl

-- odd bits put into what is held
pub ended_held : (k : Kept) (odd byte : ℕ) → length k.pending ≡ 32 → with_held k (ended_of (held_of k) odd byte) ≡ ended k odd byte
unfolding with_held ended_of held_of ended
ended_held k odd byte l = rw (low_pending k, write_at_lem (pending_count k) (high_bits odd byte ∷ []) k.pending (omega (arith, pending_lt k)))

-- whole bytes that stay pending
pub stays : (k : Kept) (piece : List ℕ) → well_kept k ≡ true → length k.pending ≡ 32 → k.odd ≡ 0 → 8 * (bytes_fed k + length piece) < limit_at k.code
    → length piece < 32 - k.low % 32 → with_held k (stays_of (held_of k) piece) ≡ fed k piece
unfolding fed with_held stays_of held_of pending_bytes chain
stays k piece e m z h n =
    let pos : ℕ = pending_count k in
    let p : List ℕ = k.pending in
    let x : List ℕ = take pos p ++ piece in
    let q : k.low % 32 ≡ pos = low_pending k in
    let l : length x < 32 = omega (arith, length-append (take pos p) piece, length-take-le pos p (omega arith)) in
    rw (
      q,
      high_sum k (length piece) h,
      low_sum k (length piece),
      blocks_none x l,
      rest_short x l,
      state-used (width_at k.code) k.state (well_kept_lem k e).unused,
      pasted k piece e m z (omega arith),
    )
  where
    pasted : (k : Kept) (piece : List ℕ) → well_kept k ≡ true → length k.pending ≡ 32 → k.odd ≡ 0 → pending_count k + length piece ≤ 32
        → write_at (pending_count k) piece k.pending ≡ with_zeros (take (pending_count k) k.pending ++ piece)
    pasted k piece e m z n =
        write_at_lem (pending_count k) piece k.pending (omega arith)
        ∙ unfold overwrite_at with_zeros in ap (λ (y : List ℕ). take (pending_count k) k.pending ++ piece ++ y) (after-piece k.pending piece (pending_count k) m (zeros-after k e m z) n)

held_again : (k : Kept) (h : Held) (odd byte : ℕ)
    → with_held k (ended_of h odd byte) ≡ with_held (with_held k h) (ended_of (held_of (with_held k h)) odd byte)
unfolding with_held held_of
held_again k h odd byte = refl

-- a piece that may end with odd bits
pub short_fed : (k : Kept) (piece : List ℕ) (odd : ℕ) → well_kept k ≡ true → length k.pending ≡ 32 → k.odd ≡ 0
    → 8 * (bytes_fed k + whole_bytes odd (length piece)) + odd < limit_at k.code → whole_bytes odd (length piece) < 32 - k.low % 32
    → with_held k (short_of (held_of k) piece odd) ≡ fed_bits k piece odd
unfolding short_of by_odd fed_bits whole_bytes
short_fed k piece zero e m z h n = stays k piece e m z (omega arith) n
short_fed k piece (suc o) e m z h n =
    let y : List ℕ = take (length piece - 1) piece in
    let l : length y ≡ length piece - 1 = length-take-le (length piece - 1) piece (omega arith) in
    let f : with_held k (stays_of (held_of k) y) ≡ fed k y = stays k y e m z (omega arith) (omega arith) in
    let b : ℕ = get_or piece (length piece - 1) 0 in
    held_again k (stays_of (held_of k) y) (suc o) b ∙ ap (λ (j : Kept). with_held j (ended_of (held_of j) (suc o) b)) f
    ∙ ended_held (fed k y) (suc o) b (fed-pending k y)

-- the pending block keeps its length
pub short_length : (h : Held) (piece : List ℕ) (odd : ℕ) → length (short_of h piece odd).pending ≡ length h.pending
unfolding short_of by_odd stays_of ended_of
short_length h piece zero = length-write_at (h.low % 32) piece h.pending
short_length h piece (suc o) =
    length-write_at _ (_ ∷ []) (write_at (h.low % 32) (take (length piece - 1) piece) h.pending)
    ∙ length-write_at (h.low % 32) (take (length piece - 1) piece) h.pending

-- Odd bits at the end of a message: a record that is ended with them stays sound, pieces in turn end it as their concatenation does, and
-- finishing gives Luffa of the bit string.
-- Assumes nothing.
use mathlib.Core.Path.{◌≡◌, refl, sym, ap, ap₂, ◌∙◌}
use mathlib.Core.Bool.{true}
use mathlib.Core.List.{List, [], ◌∷◌, ◌++◌, append_assoc}
use Prim.Native.Nat.{ℕ, zero, suc, ◌+◌, ◌-◌, ◌*◌, ◌/◌, ◌%◌, ◌^◌, ◌<◌, ◌≤◌}
use native.Mathlib.Nat.{zero-lt-suc, le_refl}
use native.Mathlib.Omega.{arith}
use lib.ListN.{length, get_or, take, drop, length-append}
use lib.Pow.{shl-shr}
use lib.Seq.{take-append-add, get_or-append_seam, get_or-append-add, length-take-le}
use Rattle.hash_definition.specs.declared.Kept.{Kept}
use Rattle.definition.specs.Padding.{bits_of, whole_bytes, bits_in, high_bits, closing, closing_byte, padded, blocks}
use Rattle.definition.specs.Round.{chain}
use Rattle.definition.specs.declared.Width.{Width}
use Rattle.definition.specs.Width.{width_at}
use Rattle.definition.specs.Start.{start}
use Rattle.definition.specs.State.{blocks_in}
use Rattle.definition.specs.Buffer.{overwrite_at}
use Rattle.definition.specs.Luffa.{words_at, limit_at, output_of, luffa_output, luffa_of_bits}
use Rattle.hash_definition.specs.Record.{count_of, bytes_fed, pending_count, pending_bytes, pending_bits, all_zero, started, fed, ended, fed_bits, output_from, finished}
use Rattle.hash_definition.specs.Said.{Ends}
use Rattle.definition.proofs.Buffer.{length-overwrite_at, take-overwrite_at, drop-overwrite_at}
use Rattle.definition.proofs.BitStrings.{output-bits, output-bytes, bits_none}
use Rattle.hash_definition.proofs.Zeros.{zero-next, zero_from_bit, high_low}
use Rattle.hash_definition.proofs.Feeding.{WellKept, well_kept_lem, kept_well, Sound, zeros-after, fed-fed, fed-odd, fed-count, fed-code, fed-pending, fed-sound, kept_of, kept_closed}

-- the low word alone tells how many bytes are pending, and they leave room for one more
pub low_pending : (k : Kept) → k.low % 32 ≡ pending_count k
unfolding pending_count bytes_fed count_of
low_pending k = omega arith

pub pending_lt : (k : Kept) → pending_count k < 32
unfolding pending_count
pending_lt k = omega arith

-- ended at a byte: what stands in front of it, it, and after it
module _ (k : Kept) (odd byte : ℕ) (l : length k.pending ≡ 32) where
  abbrev n : ℕ
  n = pending_count k

  abbrev x : List ℕ
  x = high_bits odd byte ∷ []

  ended-length : length (ended k odd byte).pending ≡ 32
  unfolding ended
  ended-length = length-overwrite_at n x k.pending (omega (arith, pending_lt k)) ∙ l

  ended-front : take n (ended k odd byte).pending ≡ pending_bytes k
  unfolding ended pending_bytes
  ended-front = take-overwrite_at n n x k.pending (le_refl n) (omega (arith, pending_lt k))

  ended-byte : get_or (ended k odd byte).pending n 0 ≡ high_bits odd byte
  unfolding ended overwrite_at
  ended-byte =
      let e : length (take n k.pending) ≡ n = length-take-le n k.pending (omega (arith, pending_lt k)) in
      let r : List ℕ = drop (n + 1) k.pending in
      ap (λ (y : List ℕ). get_or y n 0) (append_assoc (take n k.pending) x r)
      ∙ ap (λ (i : ℕ). get_or (take n k.pending ++ high_bits odd byte ∷ r) i 0) (sym e)
      ∙ get_or-append_seam (take n k.pending) (high_bits odd byte) r 0

  ended-rest : drop (suc n) (ended k odd byte).pending ≡ drop (suc n) k.pending
  unfolding ended
  ended-rest = drop-overwrite_at n (suc n) x k.pending (omega arith) (omega (arith, pending_lt k))

  -- zeros come after the odd bits where they came after the pending bytes
  ended-after : odd ≤ 7 → all_zero (drop n k.pending) ≡ true
      → all_zero (drop (8 * n + odd) (bits_of (ended k odd byte).pending)) ≡ true
  ended-after h z =
      let r : all_zero (drop (suc n) k.pending) ≡ true = zero-next k.pending n (omega (arith, pending_lt k)) z in
      rw (zero_from_bit (ended k odd byte).pending n odd (omega (arith, ended-length, pending_lt k)) h, ended-byte, ended-rest, high_low odd byte h, r)

  pub ended-sound : Sound k → k.odd ≡ 0 → odd ≤ 7 → 8 * bytes_fed k + odd < limit_at k.code → Sound (ended k odd byte)
  ended-sound s z h w =
      let c : WellKept k = well_kept_lem k s.well in
      record {
        words = unfold ended in s.words;
        buffer = ended-length;
        low = unfold ended in s.low;
        well =
            kept_well (ended k odd byte)
            (record {
              code-known = unfold ended in c.code-known;
              odd_le = unfold ended in h;
              after = after_is (ended-after h (zeros-after k s.well l z));
              within = unfold ended bytes_fed in w;
              unused = unfold ended in c.unused;
            });
      }
    where
      after_is : all_zero (drop (8 * n + odd) (bits_of (ended k odd byte).pending)) ≡ true
          → all_zero (drop (8 * pending_count (ended k odd byte) + (ended k odd byte).odd) (bits_of (ended k odd byte).pending)) ≡ true
      after_is t = unfold ended pending_count bytes_fed in t

-- a piece within the limit leaves a sound record sound
pub fed_bits_sound : (k : Kept) (p : List ℕ) (odd : ℕ) → Sound k → k.odd ≡ 0 → Ends odd p
    → 8 * (bytes_fed k + whole_bytes odd (length p)) + odd < limit_at k.code → Sound (fed_bits k p odd)
unfolding fed_bits whole_bytes
fed_bits_sound k p zero s z e w = fed-sound k p s z (omega arith)
fed_bits_sound k p (suc o) s z e w =
    let y : List ℕ = take (length p - 1) p in
    let n : length y ≡ length p - 1 = length-take-le (length p - 1) p (omega arith) in
    let f : Sound (fed k y) = fed-sound k y s z (omega arith) in
    ended-sound (fed k y) (suc o) _ f.buffer f (fed-odd k y ∙ z) e.0
    (rw (fed-count k y, n, fed-code k y) w)

-- in turn is at once
pub fed_bits_fed : (k : Kept) (y z : List ℕ) (odd : ℕ) → length k.pending ≡ 32 → Ends odd z → fed_bits (fed k y) z odd ≡ fed_bits k (y ++ z) odd
unfolding fed_bits
fed_bits_fed k y z zero l e = fed-fed k y z l
fed_bits_fed k y z (suc o) l e =
    let n : ℕ = length z - 1 in
    let h : 0 < length z = e.1 (zero-lt-suc o) in
    let m : length (y ++ z) - 1 ≡ length y + n = omega (arith, length-append y z) in
    rw (m, take-append-add y z n, get_or-append-add y z n 0, fed-fed k y (take n z) l)

-- the final stage closes the pending bytes with the byte that holds the odd bits
pub output_closed : (k : Kept) (words : ℕ) → length k.pending ≡ 32 → k.odd ≤ 7
    → output_from k words
    ≡ output_of k.code words (chain (width_at k.code) (blocks_in (width_at k.code) k.state) (blocks (padded (closing_byte k.odd (get_or k.pending (pending_count k) 0)) (pending_bytes k))))
unfolding output_from pending_bits pending_bytes
output_closed k words l h = output-bits k.code words _ k.pending (pending_count k) k.odd h (omega (arith, pending_lt k))

-- the bits that feeding ignores are no part of the closing byte
closing_high : (o b : ℕ) → closing_byte o (high_bits o b) ≡ closing_byte o b
unfolding closing_byte high_bits
closing_high zero b = refl
closing_high (suc o) b = ap (λ (q : ℕ). q * 2 ^ (7 - o) + 2 ^ (7 - suc o)) (shl-shr (b / 2 ^ (7 - o)) (7 - o))

-- the output of what a message leads to is Luffa's output of the bit string
pub kept-output : (code words : ℕ) (m : List ℕ) (odd : ℕ) → Ends odd m → output_from (fed_bits (started code) m odd) words ≡ luffa_output code words (bits_in m odd)
unfolding fed_bits fed started ended closing_byte high_bits pending_bytes pending_count bytes_fed luffa_output bits_in whole_bytes
kept-output code words m zero e =
    output_closed (kept_of code m) words (fed-pending (started code) m) (omega arith)
    ∙ ap (output_of code words) (kept_closed closing code m)
    ∙ sym (ap (luffa_output code words) (bits_none m) ∙ output-bytes code words (start (width_at code)) m)
kept-output code words m (suc o) e =
    let n : ℕ = length m - 1 in
    let w : Width = width_at code in
    let k : Kept = kept_of code (take n m) in
    let l : length k.pending ≡ 32 = fed-pending (started code) (take n m) in
    let b : ℕ = get_or m n 0 in
    output_closed (ended k (suc o) b) words (ended-length k (suc o) b l) e.0
    ∙ ap₂ (λ (c : ℕ) (y : List ℕ). output_of code words (chain w (blocks_in w k.state) (blocks (padded c y))))
    (ap (closing_byte (suc o)) (ended-byte k (suc o) b l) ∙ closing_high (suc o) b)
    (ended-front k (suc o) b l)
    ∙ ap (output_of code words) (kept_closed (closing_byte (suc o) b) code (take n m))
    ∙ sym (output-bits code words (start w) m n (suc o) e.0 (omega (arith, e.1 (zero-lt-suc o))))

-- at the code that it was started at
pub kept-code : (code : ℕ) (m : List ℕ) (odd : ℕ) → (fed_bits (started code) m odd).code ≡ code
unfolding fed_bits fed started ended
kept-code code m zero = refl
kept-code code m (suc o) = refl

-- so finishing gives Luffa of it
pub kept-finished : (code : ℕ) (m : List ℕ) (odd : ℕ) → Ends odd m → finished (fed_bits (started code) m odd) ≡ luffa_of_bits code (bits_in m odd)
unfolding finished luffa_of_bits
kept-finished code m odd e = ap (λ (c : ℕ). output_from (fed_bits (started code) m odd) (words_at c)) (kept-code code m odd) ∙ kept-output code (words_at code) m odd e

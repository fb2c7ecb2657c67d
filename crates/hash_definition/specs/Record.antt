-- The kept hash record: document 01, "The kept hash record", from "no header" to "one defined continuation", with document 02, Q-7: "The hash
-- record grows to 216 bytes". Its bytes are read as a `Kept`, which is fed, ended with odd bits, and finished.
use Rattle.std.specs.Prelude.{ℕ, zero, suc, ◌+◌, ◌-◌, ◌*◌, ◌/◌, ◌%◌, ◌^◌, Bool, true, ◌&&◌, List, [], ◌∷◌, ◌++◌, leb, ltb, eqb, length, get_or, take, drop, replicate}
use Rattle.definition.specs.declared.Block.{Block}
use Rattle.definition.specs.declared.Width.{Width}
use Rattle.hash_definition.specs.declared.Kept.{Kept}
use Rattle.hash_definition.specs.declared.Held.{Held}
use Rattle.definition.specs.Word.{bytes_of_all}
use Rattle.definition.specs.Block.{words_of_all, word_at, block_of}
use Rattle.definition.specs.Round.{chain}
use Rattle.definition.specs.Padding.{bits_of, high_bits, blocks, rest}
use Rattle.definition.specs.Width.{block_count, width_at}
use Rattle.definition.specs.Start.{start}
use Rattle.definition.specs.State.{five, blocks_in, state_of}
use Rattle.definition.specs.Luffa.{words_at, limit_at, output_of_bits}
use Rattle.definition.specs.Buffer.{overwrite_at}
use Rattle.definition.specs.Refusal.{known}

-- "216 bytes", the state words from byte 8, the pending bytes from byte 168, "the count takes 16 bytes" from byte 200
abbrev pub record_length : ℕ
record_length = 216

abbrev pub state_at : ℕ
state_at = 8

abbrev pub pending_at : ℕ
pending_at = 168

abbrev pub count_at : ℕ
count_at = 200

-- "those after are zero": at most 32 bytes with zeros after them
unfoldable pub with_zeros : List ℕ → List ℕ
with_zeros x = x ++ replicate (32 - length x) 0

-- "high byte first": a number of 64 bits as two words, the high one first, and read from place i on
unfoldable pub count_words : ℕ → List ℕ
count_words n = n / 2 ^ 32 ∷ n % 2 ^ 32 ∷ []

unfoldable pub number_at : ℕ → List ℕ → ℕ
number_at i b = word_at (drop i b) 0 * 2 ^ 32 + word_at (drop (i + 4) b) 0

-- "code (byte 0)", "byte 1 holds the odd bits", six zeros, "40 state words in order, 32 pending bytes", the whole bytes fed so far
unfoldable pub encode : Kept → List ℕ
encode k =
    (k.code % 256 ∷ k.odd % 256 ∷ replicate 6 0)
    ++ bytes_of_all (words_of_all (five k.state))
    ++ k.pending
    ++ bytes_of_all (count_words k.high ++ count_words k.low)

-- block j of the "40 state words in order (bytes 8 to 167)"
unfoldable pub block_in : List ℕ → ℕ → Block
block_in b j = block_of (drop (state_at + 32 * j) b)

-- and read: what a record holds
unfoldable pub decode : List ℕ → Kept
decode b =
    record {
      code = get_or b 0 0;
      odd = get_or b 1 0;
      state =
          record { h0 = block_in b 0; h1 = block_in b 1; h2 = block_in b 2; h3 = block_in b 3; h4 = block_in b 4 };
      pending = take 32 (drop pending_at b);
      high = number_at count_at b;
      low = number_at (count_at + 8) b;
    }

-- what is held beside code and state, and put in the place of what was held
unfoldable pub held_of : Kept → Held
held_of k = record { odd = k.odd; pending = k.pending; high = k.high; low = k.low }

unfoldable pub with_held : Kept → Held → Kept
with_held k h = record { code = k.code; odd = h.odd; state = k.state; pending = h.pending; high = h.high; low = h.low }

-- "these zeros"
unfoldable pub all_zero : List ℕ → Bool
all_zero [] = true
all_zero (x ∷ xs) = eqb x 0 && all_zero xs

-- "The count is of whole bytes": the two words that hold it, as one number
unfoldable pub count_of : (high low : ℕ) → ℕ
count_of high low = high * 2 ^ 64 + low

unfoldable pub bytes_fed : Kept → ℕ
bytes_fed k = count_of k.high k.low

-- "Pending bytes are the last (count mod 32) fed", and after them stand the odd bits
unfoldable pub pending_count : Kept → ℕ
pending_count k = bytes_fed k % 32

unfoldable pub pending_bytes : Kept → List ℕ
pending_bytes k = take (pending_count k) k.pending

unfoldable pub pending_bits : Kept → List ℕ
pending_bits k = take (8 * pending_count k + k.odd) (bits_of k.pending)

-- "a known code", odd bits "0 to 7", zeros after the pending bits, and "a well-formed count follow Table 1 in bits"
unfoldable pub well_held : (code : ℕ) → Held → Bool
well_held code h =
    let count : ℕ = count_of h.high h.low in
    known code
    && leb h.odd 7
    && all_zero (drop (8 * (count % 32) + h.odd) (bits_of h.pending))
    && ltb (8 * count + h.odd) (limit_at code)

-- and zeros in unused blocks
unfoldable pub well_kept : Kept → Bool
well_kept k =
    well_held k.code (held_of k) && all_zero (words_of_all (drop (block_count (width_at k.code)) (five k.state)))

-- "A record is well formed if it has this length" and the six zeros, and what it holds is well kept
unfoldable pub well_formed : List ℕ → Bool
well_formed b = eqb (length b) record_length && all_zero (take 6 (drop 2 b)) && well_kept (decode b)

-- a record to begin with: "Starting variables: Appendix A, first w blocks", and nothing fed
unfoldable pub started : (code : ℕ) → Kept
started code =
    record { code = code; odd = 0; state = state_of (start (width_at code)); pending = replicate 32 0; high = 0; low = 0 }

-- "Pending bytes are the last (count mod 32) fed": pending bytes and piece in one list, its full blocks chained, the rest pending
unfoldable pub fed : Kept → List ℕ → Kept
fed k piece =
    let w : Width = width_at k.code in
    let x : List ℕ = pending_bytes k ++ piece in
    let count : ℕ = bytes_fed k + length piece in
    record {
      code = k.code;
      odd = k.odd;
      state = state_of (chain w (blocks_in w k.state) (blocks x));
      pending = with_zeros (rest x);
      high = count / 2 ^ 64;
      low = count % 2 ^ 64;
    }

-- "its unused low bits are ignored on feeding and must be zero in the record, where it stands after the pending whole bytes"
unfoldable pub ended : Kept → (odd byte : ℕ) → Kept
ended k odd byte =
    record {
      code = k.code;
      odd = odd;
      state = k.state;
      pending = overwrite_at (pending_count k) (high_bits odd byte ∷ []) k.pending;
      high = k.high;
      low = k.low;
    }

-- the last piece "may end with 1 to 7 bits", "That byte is the last of its piece": the whole bytes are fed, and the odd bits end the message
unfoldable pub fed_bits : Kept → (piece : List ℕ) → (odd : ℕ) → Kept
fed_bits k piece zero = fed k piece
fed_bits k piece (suc o) = ended (fed k (take (length piece - 1) piece)) (suc o) (get_or piece (length piece - 1) 0)

-- "Padding (3.1)" of the pending bits, and the final stage over a number of words
unfoldable pub output_from : Kept → (words : ℕ) → List ℕ
output_from k words = output_of_bits k.code words (blocks_in (width_at k.code) k.state) (pending_bits k)

-- "Finish: F rounds with a zero block": the digest's words of it
unfoldable pub finished : Kept → List ℕ
finished k = output_from k (words_at k.code)

-- The hypotheses of the theorems on demand 2 and on longer output can be met: `abc` in two pieces, with its last byte whole or five bits of it; and the edge of Table 1,
-- document 01's "A piece of 1 byte onto count 2^61 - 2 is taken; 2 bytes are refused 4", odd bits onto count 2^61 - 1, and the carry at code 4.
-- Assumes nothing.
use mathlib.Core.Path.{◌≡◌, refl}
use mathlib.Core.Bool.{true, false}
use mathlib.Core.List.{List, [], ◌∷◌, ◌++◌}
use Prim.Native.Nat.{ℕ, ◌-◌, ◌^◌, ◌<◌}
use native.Mathlib.Omega.{arith}
use lib.ListN.{get_or, replicate}
use Rattle.hash_definition.specs.declared.Kept.{Kept}
use Rattle.definition.specs.Word.{bytes_of, bytes_of_all}
use Rattle.definition.specs.Block.{words_of_all}
use Rattle.definition.specs.State.{five}
use Rattle.definition.specs.Width.{width_at}
use Rattle.definition.specs.Buffer.{Every, joined}
use Rattle.definition.specs.Luffa.{limit_at}
use Rattle.definition.specs.Padding.{whole_bytes, rest}
use Rattle.definition.specs.Refusal.{LONG, ODD, known}
use Rattle.hash_definition.specs.Record.{encode, decode, block_in, count_words, number_at, all_zero, count_of, bytes_fed, pending_count, pending_bytes, with_zeros, held_of, well_held, well_kept, well_formed, started, fed, ended, fed_bits}
use Rattle.hash_definition.specs.Calls.{feed_outcome}
use Rattle.hash_definition.specs.Lent.{lent_feed_bits_outcome, lent_feed_outcome}
use Rattle.hash_definition.specs.Output.{output_bits_outcome, finish_output_outcome, lent_finish_output_outcome}
use Rattle.hash_definition.specs.Said.{done, taken, refused, long, Typed, Demand2, BitsDemand2, LentDemand2, LentBitsDemand2, AnyFed, OutputDemand2, Begins}
use Rattle.definition.proofs.Computed.{everything}
use Rattle.definition.proofs.Every.{every_at}
use Rattle.definition.proofs.Bounds.{start-words, five-words}
use Rattle.hash_definition.proofs.Feeding.{Sound}
use Rattle.hash_definition.proofs.Working.{sound_typed, no_byte}
use Rattle.hash_definition.proofs.WorkingDemand2.{no_bits, lent_demand2, lent_bits_demand2, lent-twice, lent_empty, lent_feed_done, lent_feed_long, lent_feed_odd}
use Rattle.hash_definition.proofs.AnyRecord.{any_long, any_odd, any_fed, any_twice, any_empty}
use Rattle.hash_definition.proofs.Demand2.{demand2, bits_demand2}
use Rattle.hash_definition.proofs.Output.{lent_shorter, any_shorter, output_shorter, output_demand2}

-- `ab` and `c`
abbrev pub pieces : List (List ℕ)
pieces = (0x61 ∷ 0x62 ∷ []) ∷ (0x63 ∷ []) ∷ []

-- a count over the starting state: well formed under the limit, whether or not a message leads to it
abbrev pub counting : (code odd high low : ℕ) → Kept
counting code odd high low = record { code = code; odd = odd; state = (started code).state; pending = replicate 32 0; high = high; low = low }

-- 2^61 - 2 at code 2, and 2^61 - 1 at code 1
abbrev pub nearly : Kept
nearly = counting 2 0 0 (2 ^ 61 - 2)

abbrev pub full : Kept
full = counting 1 0 0 (2 ^ 61 - 1)

-- code 2, a buffer of 216 bytes, three bytes in two pieces, and 32 bytes of room: demand2
pub abc_fed : Demand2 2 (replicate 216 0) pieces (replicate 32 0)
unfolding everything joined
abc_fed = demand2 2 (replicate 216 0) pieces (replicate 32 0) refl refl (omega arith) (omega arith)

-- and over a working state: lent-demand2
pub abc_lent : LentDemand2 2 nearly pieces (replicate 32 0)
unfolding everything joined
abc_lent = lent_demand2 2 nearly pieces (replicate 32 0) refl (omega arith) (omega arith)

-- five bits of the last byte: bits-demand2, lent-bits-demand2
pub bits-fed : BitsDemand2 2 (replicate 216 0) pieces (0x64 ∷ []) 5 (replicate 32 0)
unfolding everything joined
bits-fed = bits_demand2 2 (replicate 216 0) pieces (0x64 ∷ []) 5 (replicate 32 0) refl refl (omega arith, λ h. omega arith) (omega arith) (omega arith)

pub bits-lent : LentBitsDemand2 2 nearly pieces (0x64 ∷ []) 5 (replicate 32 0)
unfolding everything joined
bits-lent = lent_bits_demand2 2 nearly pieces (0x64 ∷ []) 5 (replicate 32 0) refl (omega arith, λ h. omega arith) (omega arith) (omega arith)

pub nearly_kept : well_kept nearly ≡ true
unfolding everything started well_kept well_held held_of all_zero count_of
nearly_kept = refl

pub nearly_formed : well_formed (encode nearly) ≡ true
unfolding everything started encode decode block_in count_words number_at well_formed well_kept well_held held_of all_zero count_of
nearly_formed = refl

held : decode (encode nearly) ≡ nearly
unfolding everything started encode decode block_in count_words number_at
held = refl

-- what is written into a record is bytes
pub bytes_all : (ws : List ℕ) → Every (λ x. x < 256) (bytes_of_all ws)
unfolding bytes_of_all bytes_of
bytes_all [] = tt
bytes_all (w ∷ ws) = (omega arith, (omega arith, (omega arith, (omega arith, bytes_all ws))))

nearly_bytes : (i : ℕ) → get_or (encode nearly) i 0 < 256
unfolding everything started encode count_words
nearly_bytes =
    every_at (λ x. x < 256) (encode nearly) 0 (omega arith)
    (bytes_all (0x02000000 ∷ 0 ∷ words_of_all (five (started 2).state) ++ replicate 8 0 ++ count_words 0 ++ count_words (2 ^ 61 - 2)))

-- two bytes more pass the limit: any-long
pub two-refused : feed_outcome (encode nearly) (0 ∷ 0 ∷ []) ≡ long (encode nearly)
unfolding limit_at bytes_fed count_of whole_bytes
two-refused =
    any_long (encode nearly) nearly_bytes nearly_formed (0 ∷ 0 ∷ []) 0 (rw held) (no_bits (0 ∷ 0 ∷ [])) (rw held (omega arith))

-- one is taken, and so after an empty piece: any-fed, any_twice, any-empty
pub one_taken : AnyFed (encode nearly) (0 ∷ []) 0
unfolding limit_at bytes_fed count_of whole_bytes
one_taken = any_fed (encode nearly) nearly_bytes nearly_formed (0 ∷ []) 0 (rw held) (no_bits (0 ∷ [])) (rw held (omega arith))

pub one_in_turn : feed_outcome (feed_outcome (encode nearly) []).buffer (0 ∷ []) ≡ feed_outcome (encode nearly) (0 ∷ [])
unfolding limit_at bytes_fed count_of whole_bytes
one_in_turn = any_twice (encode nearly) nearly_bytes nearly_formed [] (0 ∷ []) 0 (rw held) (no_bits (0 ∷ [])) (rw held (omega arith))

pub none_fed : feed_outcome (encode nearly) [] ≡ done (encode nearly)
none_fed = any_empty (encode nearly) nearly_bytes nearly_formed (rw held)

-- and so over the working state: lent-feed-long, lent-twice, lent-empty
pub two_refused_lent : lent_feed_outcome nearly (0 ∷ 0 ∷ []) ≡ record { number = LONG; kept = nearly }
unfolding limit_at bytes_fed count_of whole_bytes
two_refused_lent = lent_feed_long nearly (0 ∷ 0 ∷ []) 0 nearly_kept refl (no_bits (0 ∷ 0 ∷ [])) (omega arith)

pub one_in_turn_lent : lent_feed_outcome (lent_feed_outcome nearly []).kept (0 ∷ []) ≡ lent_feed_outcome nearly (0 ∷ [])
unfolding limit_at bytes_fed count_of whole_bytes
one_in_turn_lent = lent-twice nearly [] (0 ∷ []) 0 nearly_kept refl refl (no_bits (0 ∷ [])) (omega arith)

nearly_sound : Sound nearly
unfolding started
nearly_sound = record { words = five-words _ (start-words (width_at 2)); buffer = refl; low = omega arith; well = nearly_kept }

pub none_fed_lent : lent_feed_outcome nearly [] ≡ taken nearly
none_fed_lent = lent_empty nearly nearly_sound refl

-- at code 1 and count 2^61 - 1 a byte that holds seven odd bits is still taken, and a whole byte isn't: lent-feed-done, lent-feed-long
full_kept : well_kept full ≡ true
unfolding everything started well_kept well_held held_of all_zero count_of
full_kept = refl

pub bits-taken : lent_feed_bits_outcome full (0xff ∷ []) 7 ≡ taken (fed_bits full (0xff ∷ []) 7)
unfolding limit_at bytes_fed count_of whole_bytes
bits-taken = lent_feed_done full (0xff ∷ []) 7 full_kept refl (omega arith, λ h. omega arith) (omega arith)

pub byte-refused : lent_feed_outcome full (0xff ∷ []) ≡ record { number = LONG; kept = full }
unfolding limit_at bytes_fed count_of whole_bytes
byte-refused = lent_feed_long full (0xff ∷ []) 0 full_kept refl (no_bits (0xff ∷ [])) (omega arith)

-- the seven bits stand after the 31 pending bytes, and nothing more is taken, not even an empty piece: lent-feed-odd
pub bits-pending : (fed_bits full (0xff ∷ []) 7).pending ≡ replicate 31 0 ++ 0xfe ∷ []
unfolding everything started fed_bits fed ended count_of bytes_fed pending_count pending_bytes with_zeros rest
bits-pending = refl

ended-kept : well_kept (counting 2 3 0 0) ≡ true
unfolding everything started well_kept well_held held_of all_zero count_of
ended-kept = refl

abbrev ended-bits : Kept
ended-bits = counting 2 3 0 0

pub nothing_more_lent : lent_feed_outcome ended-bits [] ≡ record { number = ODD; kept = ended-bits }
nothing_more_lent = lent_feed_odd ended-bits [] 0 ended-kept (omega arith)

-- and so over its bytes: any-odd
ended-formed : well_formed (encode ended-bits) ≡ true
unfolding everything started encode decode block_in count_words number_at well_formed well_kept well_held held_of all_zero count_of
ended-formed = refl

ended-bytes : (i : ℕ) → get_or (encode ended-bits) i 0 < 256
unfolding everything started encode count_words
ended-bytes =
    every_at (λ x. x < 256) (encode ended-bits) 0 (omega arith)
    (bytes_all (0x02030000 ∷ 0 ∷ words_of_all (five (started 2).state) ++ replicate 8 0 ++ count_words 0 ++ count_words 0))

pub nothing_more : feed_outcome (encode ended-bits) [] ≡ refused ODD (encode ended-bits)
nothing_more = any_odd (encode ended-bits) ended-bytes ended-formed [] 0 (unfold encode decode in omega arith)

-- the low word's carry into the high one, at code 4: 2^64 - 1 bytes and one more
pub carried : (fed (counting 4 0 0 (2 ^ 64 - 1)) (0 ∷ [])).high ≡ 1
unfolding fed bytes_fed count_of
carried = refl

-- it fits its bytes: lent-start, lent-feed, lent-finish, decode-encode
pub nearly_typed : Typed nearly
nearly_typed = sound_typed nearly nearly_sound

-- and a code that no byte holds: unknown-feed, unknown-finish
pub no_code : known 256 ≡ false
no_code = no_byte 256 (omega arith)

-- longer output of that message, and of that record: output-demand2, any-shorter, lent-shorter, output-shorter
pub bits_put_out : OutputDemand2 2 64 (replicate 216 0) nearly pieces (0x64 ∷ []) 5 (replicate 256 0)
unfolding everything joined
bits_put_out =
    output_demand2 2 64 (replicate 216 0) nearly pieces (0x64 ∷ []) 5 (replicate 256 0) refl refl (omega arith, λ h. omega arith) (omega arith) (omega arith)
    (omega arith) (omega arith)

pub first_eight : Begins 8 64 (finish_output_outcome (encode nearly) 8 (replicate 40 0)) (finish_output_outcome (encode nearly) 64 (replicate 256 0))
first_eight = any_shorter 8 64 (replicate 40 0) (replicate 256 0) (omega arith) (omega arith) (omega arith) (omega arith) (omega arith) (encode nearly) nearly_formed

pub first_eight_lent : Begins 8 64 (lent_finish_output_outcome nearly 8 (replicate 40 0)) (lent_finish_output_outcome nearly 64 (replicate 256 0))
first_eight_lent = lent_shorter 8 64 (replicate 40 0) (replicate 256 0) (omega arith) (omega arith) (omega arith) (omega arith) (omega arith) nearly nearly_kept

pub first_eight_at_once : Begins 8 64 (output_bits_outcome 2 8 (0x64 ∷ []) 5 (replicate 40 0)) (output_bits_outcome 2 64 (0x64 ∷ []) 5 (replicate 256 0))
unfolding limit_at whole_bytes known
first_eight_at_once =
    output_shorter 8 64 (replicate 40 0) (replicate 256 0) (omega arith) (omega arith) (omega arith) (omega arith) (omega arith) 2 (0x64 ∷ []) 5 refl
    (omega arith, λ h. omega arith) (omega arith)

-- a record whose code is known: finish-as-output, lent-finish-as-output
pub nearly_known : known (decode (encode nearly)).code ≡ true
nearly_known = rw held (unfold known in refl)

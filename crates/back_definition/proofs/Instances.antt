-- The hypotheses of the theorems on stepping back can be met: a record at code 4 whose count is 2^64, so that the low word borrows, is stepped back
-- over and fed again, and fed and stepped back over, by the block fed and by another. Fed to a fresh record and
-- taken back, a block is computed at each w.
-- Assumes nothing.
use mathlib.Core.Path.{◌≡◌, refl, ap}
use mathlib.Core.List.{List, ◌∷◌, ◌++◌}
use Prim.Native.Nat.{ℕ, zero, suc, ◌<◌}
use native.Mathlib.Omega.{arith}
use lib.ListN.{get_or, replicate}
use Rattle.definition.specs.declared.Width.TheVariants.{W4, W5}
use Rattle.definition.specs.Block.{zero_block, words_of_all}
use Rattle.definition.specs.Round.{round}
use Rattle.definition.specs.Start.{start}
use Rattle.definition.specs.State.{five}
use Rattle.definition.specs.Buffer.{Every}
use Rattle.definition.specs.Refusal.{BACK}
use Rattle.definition.specs.Padding.{rest}
use Rattle.definition.proofs.Bounds.{start-words}
use Rattle.definition.proofs.Chain.{length-start}
use Rattle.definition.proofs.Computed.{everything}
use Rattle.definition.proofs.Every.{every_at}
use Rattle.hash_definition.specs.declared.Kept.{Kept}
use Rattle.hash_definition.specs.Record.{encode, decode, block_in, count_words, number_at, all_zero, count_of, bytes_fed, pending_count, pending_bytes, with_zeros, held_of, well_held, well_kept, well_formed, started, fed}
use Rattle.hash_definition.specs.Calls.{Outcome, outcome, odd_refusal, long_refusal, record_refusal, feed_refusals, feed_bits_outcome, feed_outcome}
use Rattle.hash_definition.specs.Said.{done}
use Rattle.hash_definition.proofs.Instances.{counting, bytes_all}
use Rattle.back_definition.specs.Step.{SBack, word_by, crumb_by, sub_crumb_back, mix_word_back, sub_crumbs_back, mix_words_back, step_back, steps_back, tweak_back, permute_back}
use Rattle.back_definition.specs.Injection.{less_message, ring_sum, from_last, unring, sum_on, total, unspread, equations_back, inject_back}
use Rattle.back_definition.specs.Round.{permute_back_from, round_back}
use Rattle.back_definition.specs.Back.{backed, back_refusal, back_refusals, back_outcome}
use Rattle.back_definition.proofs.Field.{zero-words}
use Rattle.back_definition.proofs.Round.{round-back, round_forth}
use Rattle.back_definition.proofs.Outcomes.{back_untouched}
use Rattle.back_definition.proofs.Records.{back_forward, forward_back, forward_back_none, other_block}

-- a count of 2^64 at code 4, and two blocks
abbrev sample : Kept
sample = counting 4 0 1 0

abbrev sevens : List ℕ
sevens = replicate 32 7

abbrev eights : List ℕ
eights = replicate 32 8

sample_bytes : (i : ℕ) → get_or (encode sample) i 0 < 256
unfolding everything started encode count_words
sample_bytes =
    every_at (λ x. x < 256) (encode sample) 0 (omega arith)
    (bytes_all (0x04000000 ∷ 0 ∷ words_of_all (five (started 4).state) ++ replicate 8 0 ++ count_words 1 ++ count_words 0))

same_bytes : (n x : ℕ) → x < 256 → (i : ℕ) → get_or (replicate n x) i 0 < 256
same_bytes n x h = every_at (λ x. x < 256) (replicate n x) 0 (omega arith) (all n)
  where
    all : (n : ℕ) → Every (λ x. x < 256) (replicate n x)
    all zero = tt
    all (suc n) = (h, all n)

seven : (i : ℕ) → get_or sevens i 0 < 256
seven = same_bytes 32 7 (omega arith)

eight : (i : ℕ) → get_or eights i 0 < 256
eight = same_bytes 32 8 (omega arith)

-- a step back is accepted: back-forward, back-formed
pub accepted : (back_outcome (encode sample) sevens).number ≡ 0
unfolding everything started encode decode block_in count_words number_at well_formed well_kept well_held held_of all_zero count_of bytes_fed pending_count outcome record_refusal back_outcome back_refusals back_refusal
accepted = refl

pub there_again : feed_outcome (back_outcome (encode sample) sevens).buffer sevens ≡ done (encode sample)
there_again = back_forward (encode sample) sample_bytes sevens seven accepted

-- a fresh record has no block to be taken back: back-untouched
pub refused : (back_outcome (encode (started 4)) sevens).number ≡ BACK
unfolding everything started encode decode block_in count_words number_at well_formed well_kept well_held held_of all_zero count_of bytes_fed pending_count outcome record_refusal back_outcome back_refusals back_refusal
refused = refl

pub stays : (back_outcome (encode (started 4)) sevens).buffer ≡ encode (started 4)
stays = back_untouched (encode (started 4)) sevens (λ e. absurd (omega (arith, e, refused)))

-- a feed is accepted, and none is pending: forward-back-none, forward-back, other_block
pub fed-accepted : (feed_outcome (encode sample) sevens).number ≡ 0
unfolding everything started encode decode block_in count_words number_at well_formed well_kept well_held held_of all_zero count_of bytes_fed outcome record_refusal feed_bits_outcome feed_refusals odd_refusal long_refusal
fed-accepted = refl

pub none_pending : pending_count (decode (encode sample)) ≡ 0
unfolding everything started encode decode count_words number_at count_of bytes_fed pending_count
none_pending = refl

pub back_again : back_outcome (feed_outcome (encode sample) sevens).buffer sevens ≡ done (encode sample)
back_again = forward_back_none (encode sample) sample_bytes sevens seven fed-accepted refl none_pending

pub both-accepted : back_outcome (feed_outcome (encode sample) sevens).buffer sevens ≡ done (encode sample)
both-accepted = forward_back (encode sample) sample_bytes sevens seven fed-accepted refl (ap (λ (o : Outcome). o.number) back_again)

pub another : (back_outcome (feed_outcome (encode sample) sevens).buffer eights).buffer ≡ encode sample → ⊥
another = (other_block (encode sample) sample_bytes sevens seven eights eight fed-accepted refl refl none_pending differ).2
  where
    differ : sevens ≡ eights → ⊥
    differ e = absurd (omega (arith, ap (λ (l : List ℕ). get_or l 0 0) e))

-- w blocks of words and a message block of words: round-back, round-forth, and what they stand on
pub round-there : round_back W5 (round W5 (start W5) zero_block) zero_block ≡ start W5
round-there = round-back W5 (start W5) (length-start W5, start-words W5) zero_block zero-words

pub round-here : round W4 (round_back W4 (start W4) zero_block) zero_block ≡ start W4
round-here = round_forth W4 (start W4) (length-start W4, start-words W4) zero_block zero-words

-- computed: 32 bytes fed to a fresh record and taken back, at each w
pub computed : (backed (fed (started 2) sevens) sevens ≡ started 2) × (backed (fed (started 3) sevens) sevens ≡ started 3) × (backed (fed (started 4) sevens) sevens ≡ started 4)
unfolding everything started fed count_of bytes_fed pending_count pending_bytes with_zeros rest backed round_back permute_back_from permute_back tweak_back steps_back step_back mix_words_back sub_crumbs_back mix_word_back sub_crumb_back crumb_by word_by SBack inject_back equations_back less_message ring_sum from_last unring unspread total sum_on
computed = (refl, refl, refl)

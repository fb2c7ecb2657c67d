-- The hypotheses of the theorems on columns can be met: words are converted at code 4 and back, a dump too, and an injection is done between; refusals
-- are met; and the injection is computed on a dump and on the words at each w.
-- Assumes nothing.
use mathlib.Core.Path.{◌≡◌, refl}
use mathlib.Core.List.{List, [], ◌∷◌}
use Prim.Native.Nat.{ℕ, zero, suc, ◌+◌, ◌*◌, ◌^◌, ◌<◌}
use native.Mathlib.Omega.{arith}
use lib.ListN.{get_or, replicate}
use Rattle.definition.specs.declared.Block.{Block}
use Rattle.definition.specs.declared.Width.TheVariants.{W3, W4, W5}
use Rattle.definition.specs.Block.{zero_block, block_of}
use Rattle.definition.specs.Buffer.{Every}
use Rattle.definition.specs.Field.{product, carryless, remainder}
use Rattle.definition.specs.Injection.{inject}
use Rattle.definition.specs.Start.{start}
use Rattle.definition.specs.Width.{width_at, block_count}
use Rattle.definition.proofs.Bounds.{start-words}
use Rattle.definition.proofs.Chain.{length-start}
use Rattle.definition.proofs.Computed.{everything}
use Rattle.definition.proofs.Every.{every_at}
use Rattle.hash_definition.specs.Calls.{outcome}
use Rattle.hash_definition.specs.Said.{done}
use Rattle.columns_definition.specs.Dump.{rows_to, column, dump, block_at, undump, blocks_of, column_at}
use Rattle.columns_definition.specs.Products.{coefficients, products}
use Rattle.columns_definition.specs.Columns.{row_sum, inject_column, inject_dump, blocks_at, columns_refusal, words_refusals, inject_refusals, message_refusals, from_words_outcome, to_words_outcome, from_message_outcome, inject_outcome}
use Rattle.columns_definition.proofs.Dumps.{undump-dump, dump-undump}
use Rattle.columns_definition.proofs.Injection.{inject-dump, inject_any}
use Rattle.columns_definition.proofs.Products.{products-rule}
use Rattle.columns_definition.proofs.Outcomes.{from_words_untouched, to_words_untouched, from_message_untouched, inject_untouched}
use Rattle.columns_definition.proofs.Calls.{words_again, dump_again, injected}

-- numbers below a bound
all_below : (n x bound : ℕ) → x < bound → 0 < bound → (i : ℕ) → get_or (replicate n x) i 0 < bound
all_below n x bound h z = every_at (λ y. y < bound) (replicate n x) 0 z (each n)
  where
    each : (n : ℕ) → Every (λ y. y < bound) (replicate n x)
    each zero = tt
    each (suc n) = (h, each n)

-- the words, the dumps and the block of the examples
abbrev words : List ℕ
words = replicate 40 0xdeadbeef

abbrev bytes : List ℕ
bytes = replicate 160 0xa5

abbrev sevens : List ℕ
sevens = replicate 32 7

-- a conversion and a dump of a block are done: dumped, words-again, injected, message-dumped
pub converted : (from_words_outcome 4 words bytes).number ≡ 0
unfolding everything outcome from_words_outcome words_refusals blocks_at columns_refusal
converted = refl

pub block_dumped : (from_message_outcome sevens sevens).number ≡ 0
unfolding everything outcome from_message_outcome message_refusals columns_refusal
block_dumped = refl

pub words-there : to_words_outcome 4 (from_words_outcome 4 words bytes).buffer (replicate 40 0) ≡ done words
words-there = words_again 4 words bytes converted (all_below 40 0xdeadbeef (2 ^ 32) (omega arith) (omega arith)) (replicate 40 0) refl

pub injection_there : inject_outcome 4 (from_words_outcome 4 words bytes).buffer (from_message_outcome sevens sevens).buffer
    ≡ done (dump (inject (width_at 4) (blocks_of (blocks_at 4) words) (block_of sevens)))
injection_there = injected 4 words bytes converted sevens sevens block_dumped

-- and back: read-back, dump-again
pub unconverted : (to_words_outcome 4 bytes words).number ≡ 0
unfolding everything outcome to_words_outcome words_refusals blocks_at columns_refusal
unconverted = refl

pub dump-there : from_words_outcome 4 (to_words_outcome 4 bytes words).buffer bytes ≡ done bytes
dump-there = dump_again 4 bytes words unconverted (all_below 160 0xa5 (2 ^ 8) (omega arith) (omega arith)) bytes refl

-- a dump of another width is refused, and stays; an unknown code is 1, whatever the lengths: the untouched
pub refused : ((from_words_outcome 3 words bytes).number ≡ 24)
    × ((inject_outcome 5 [] []).number ≡ 1)
    × ((inject_outcome 4 bytes []).number ≡ 24)
    × ((to_words_outcome 3 bytes words).number ≡ 24)
    × ((from_message_outcome [] sevens).number ≡ 24)
unfolding everything outcome from_words_outcome to_words_outcome from_message_outcome inject_outcome words_refusals message_refusals inject_refusals blocks_at columns_refusal
refused = (refl, refl, refl, refl, refl)

pub stays : ((from_words_outcome 3 words bytes).buffer ≡ bytes)
    × ((inject_outcome 4 bytes []).buffer ≡ bytes)
    × ((to_words_outcome 3 bytes words).buffer ≡ words)
    × ((from_message_outcome [] sevens).buffer ≡ sevens)
stays = (
  from_words_untouched 3 words bytes (λ e. absurd (omega (arith, e, refused.0))),
  inject_untouched 4 bytes [] (λ e. absurd (omega (arith, e, refused.2))),
  to_words_untouched 3 bytes words (λ e. absurd (omega (arith, e, refused.3))),
  from_message_untouched [] sevens (λ e. absurd (omega (arith, e, refused.4))),
)

-- w blocks of words: undump-dump, inject-dump; any bytes: dump-undump, inject-any
pub start-there : undump 5 (dump (start W5)) ≡ start W5
unfolding block_count
start-there = undump-dump 5 (start W5) (length-start W5) (start-words W5)

pub start_injected : inject_dump W5 (dump (start W5)) (dump (zero_block ∷ [])) ≡ dump (inject W5 (start W5) zero_block)
start_injected = inject-dump W5 (start W5) zero_block (length-start W5)

pub bytes-there : dump (undump 5 bytes) ≡ bytes
bytes-there = dump-undump 5 bytes refl (all_below 160 0xa5 (2 ^ 8) (omega arith) (omega arith))

pub bytes_injected : inject_dump W5 bytes sevens ≡ dump (inject W5 (undump 5 bytes) (block_at 1 0 sevens))
unfolding block_count
bytes_injected =
    inject_any W5 bytes sevens refl refl (all_below 160 0xa5 (2 ^ 8) (omega arith) (omega arith)) (all_below 32 7 (2 ^ 8) (omega arith) (omega arith))

-- bit 17 of word 5 of the second of two blocks is bit 5 of byte 2 * 17 + 1, and no other bit of that byte is 1
abbrev one_bit : Block
one_bit = record { a0 = 0; a1 = 0; a2 = 0; a3 = 0; a4 = 0; a5 = 2 ^ 17; a6 = 0; a7 = 0 }

pub placed : get_or (dump (zero_block ∷ one_bit ∷ [])) (2 * 17 + 1) 0 ≡ 2 ^ 5
unfolding everything rows_to column dump
placed = refl

-- the coefficient 10 is x^4, and not ten: entries of two tables
pub sixteen : (get_or (get_or products 9 []) 0x80 0 ≡ remainder 7 (carryless 0x10 0x80)) × (product 0x10 2 ≡ 0x20) × (product 0x0a 2 ≡ 0x14)
unfolding everything coefficients
sixteen = (products-rule 9 0x80 (omega arith) (omega arith), refl, refl)

-- computed: the injection on a dump and on the words, at each w
pub computed : (inject_dump W3 (dump (start W3)) (dump (one_bit ∷ [])) ≡ dump (inject W3 (start W3) one_bit))
    × (inject_dump W4 (dump (start W4)) (dump (one_bit ∷ [])) ≡ dump (inject W4 (start W4) one_bit))
    × (inject_dump W5 (dump (start W5)) (dump (one_bit ∷ [])) ≡ dump (inject W5 (start W5) one_bit))
unfolding everything rows_to column dump column_at row_sum inject_column inject_dump
computed = (refl, refl, refl)

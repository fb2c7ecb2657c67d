-- What calls that are done promise one after the other: a conversion there and back gives the first words, or the first dump, and an injection on
-- the dumps of words and of a message block gives the dump of the injection on the words.
-- Assumes nothing.
use mathlib.Core.Path.{◌≡◌, refl, sym, ap, ap₂, ◌∙◌}
use mathlib.Core.Bool.{not, false}
use mathlib.Core.List.{List, [], ◌∷◌}
use Prim.Native.Nat.{ℕ, ◌*◌, ◌^◌, ◌<◌}
use native.Mathlib.Omega.{arith}
use lib.Dec.{eqb}
use lib.ListN.{length, get_or}
use borrow.Author.Tests.{eq-eqb, eqb-true, not-false}
use Rattle.definition.specs.declared.Block.{Block}
use Rattle.definition.specs.Block.{block_of, words_of_all}
use Rattle.definition.specs.Injection.{inject}
use Rattle.definition.specs.Refusal.{Refusal, WIDTH, COLUMNS, pick, first_of, condition_of, width_refusal}
use Rattle.definition.specs.Width.{width_at}
use Rattle.definition.proofs.Conditions.{either_false}
use Rattle.definition.proofs.Refusals.{fails}
use Rattle.hash_definition.specs.Calls.{Outcome, outcome}
use Rattle.hash_definition.specs.Said.{done}
use Rattle.hash_definition.proofs.Refused.{accepted}
use Rattle.columns_definition.specs.Dump.{dump, undump, blocks_of}
use Rattle.columns_definition.specs.Columns.{inject_dump, blocks_at, columns_refusal, words_refusals, inject_refusals, message_refusals, from_words_outcome, to_words_outcome, from_message_outcome, inject_outcome}
use Rattle.columns_definition.proofs.Rows.{length-up_to}
use Rattle.columns_definition.proofs.Dumps.{length-dump, undump-dump, dump-undump}
use Rattle.columns_definition.proofs.Words.{length-words, words-blocks, blocks-words, blocks_all_words}
use Rattle.columns_definition.proofs.Injection.{inject-dump}

-- both lengths are what is due where 24 isn't given
not_24 : (a due-a b due-b : ℕ) → (columns_refusal a due-a b due-b).1 ≡ false → (a ≡ due-a) × (b ≡ due-b)
unfolding columns_refusal
not_24 a due-a b due-b e =
    let t = either_false (not (eqb a due-a)) (not (eqb b due-b)) e in
    (eqb-true _ _ (not-false _ t.0), eqb-true _ _ (not-false _ t.1))

-- a call without a code is done where they are
pub message-due : (b d : ℕ) → first_of (message_refusals b d) ≡ 0 → (b ≡ 32) × (d ≡ 32)
unfolding message_refusals columns_refusal condition_of pick
message-due b d e = not_24 b 32 d 32 (fails (columns_refusal b 32 d 32 ∷ []) (omega arith) e COLUMNS)

-- a call with a code is done only where the code is known too
pub due : (code a due-a b due-b : ℕ) → first_of (width_refusal code ∷ columns_refusal a due-a b due-b ∷ []) ≡ 0
    → ((width_refusal code).1 ≡ false) × (a ≡ due-a) × (b ≡ due-b)
unfolding width_refusal columns_refusal condition_of pick
due code a due-a b due-b e =
    let no = fails (width_refusal code ∷ columns_refusal a due-a b due-b ∷ []) (omega arith) e in
    let t = not_24 a due-a b due-b (no COLUMNS) in
    (no WIDTH, t.0, t.1)

none_due : (code a due-a b due-b : ℕ) → (width_refusal code).1 ≡ false → a ≡ due-a → b ≡ due-b
    → first_of (width_refusal code ∷ columns_refusal a due-a b due-b ∷ []) ≡ 0
unfolding columns_refusal first_of pick
none_due code a due-a b due-b k e f = rw (k, eq-eqb a due-a e, eq-eqb b due-b f)

-- and leaves what it is to leave
leaves : (rs : List Refusal) (after before : List ℕ) → first_of rs ≡ 0 → outcome rs after before ≡ done after
leaves rs after before e = sym (accepted rs refl after before e)

pub message_dumped : (block m : List ℕ) → (from_message_outcome block m).number ≡ 0 → from_message_outcome block m ≡ done (dump (block_of block ∷ []))
unfolding from_message_outcome outcome
message_dumped block m e = leaves (message_refusals (length block) (length m)) _ m e

pub length-blocks : (w : ℕ) (ws : List ℕ) → length (blocks_of w ws) ≡ w
unfolding blocks_of
length-blocks w ws = length-up_to w _

length_undumped : (w : ℕ) (d : List ℕ) → length (undump w d) ≡ w
unfolding undump
length_undumped w d = length-up_to w _

length_dumped : (w : ℕ) (h : List Block) → length h ≡ w → length (dump h) ≡ 32 * w
length_dumped w h e = length-dump h ∙ ap (λ (n : ℕ). 32 * n) e

-- words to a dump, where it is done
module _ (code : ℕ) (ws d : List ℕ) (zero : (from_words_outcome code ws d).number ≡ 0) where
  known : ((width_refusal code).1 ≡ false) × (length d ≡ 32 * blocks_at code) × (length ws ≡ 8 * blocks_at code)
  unfolding from_words_outcome outcome words_refusals
  known = due code (length d) (32 * blocks_at code) (length ws) (8 * blocks_at code) zero

  pub dumped : from_words_outcome code ws d ≡ done (dump (blocks_of (blocks_at code) ws))
  unfolding from_words_outcome outcome
  dumped = leaves (words_refusals code (length d) (length ws)) _ d zero

  -- "Conversion of a state there and back loses nothing": the words come back, into any buffer as long
  pub words_again : ((i : ℕ) → get_or ws i 0 < 2 ^ 32) → (words : List ℕ) → length words ≡ length ws
      → to_words_outcome code (from_words_outcome code ws d).buffer words ≡ done ws
  unfolding to_words_outcome words_refusals
  words_again b words e =
      let w : ℕ = blocks_at code in
      let h : List Block = blocks_of w ws in
      ap (λ (o : Outcome). to_words_outcome code o.buffer words) dumped
      ∙ leaves (words_refusals code (length (dump h)) (length words)) (words_of_all (undump w (dump h))) words
      (none_due code (length (dump h)) (32 * w) (length words) (8 * w) known.0 (length_dumped w h (length-blocks w ws)) (e ∙ known.2))
      ∙ ap done (ap words_of_all (undump-dump w h (length-blocks w ws) (blocks_all_words w ws b)) ∙ words-blocks w ws known.2)

  -- "Column and word forms agree": an injection on the dump of words and of a message block
  pub injected : (block m : List ℕ) → (from_message_outcome block m).number ≡ 0
      → inject_outcome code (from_words_outcome code ws d).buffer (from_message_outcome block m).buffer
      ≡ done (dump (inject (width_at code) (blocks_of (blocks_at code) ws) (block_of block)))
  unfolding inject_outcome inject_refusals blocks_at
  injected block m k =
      let w : ℕ = blocks_at code in
      let h : List Block = blocks_of w ws in
      let b : Block = block_of block in
      ap₂ (λ (o p : Outcome). inject_outcome code o.buffer p.buffer) dumped (message_dumped block m k)
      ∙ leaves (inject_refusals code (length (dump h)) (length (dump (b ∷ [])))) (inject_dump (width_at code) (dump h) (dump (b ∷ []))) (dump h)
      (none_due code (length (dump h)) (32 * w) (length (dump (b ∷ []))) 32 known.0 (length_dumped w h (length-blocks w ws)) (length-dump (b ∷ [])))
      ∙ ap done (inject-dump (width_at code) h b (length-blocks w ws))

-- a dump to words, where it is done
module _ (code : ℕ) (d ws : List ℕ) (zero : (to_words_outcome code d ws).number ≡ 0) where
  due-words : ((width_refusal code).1 ≡ false) × (length d ≡ 32 * blocks_at code) × (length ws ≡ 8 * blocks_at code)
  unfolding to_words_outcome outcome words_refusals
  due-words = due code (length d) (32 * blocks_at code) (length ws) (8 * blocks_at code) zero

  pub read_back : to_words_outcome code d ws ≡ done (words_of_all (undump (blocks_at code) d))
  unfolding to_words_outcome outcome
  read_back = leaves (words_refusals code (length d) (length ws)) _ ws zero

  -- the dump comes back
  pub dump_again : ((i : ℕ) → get_or d i 0 < 2 ^ 8) → (bytes : List ℕ) → length bytes ≡ length d
      → from_words_outcome code (to_words_outcome code d ws).buffer bytes ≡ done d
  unfolding from_words_outcome words_refusals
  dump_again b bytes e =
      let w : ℕ = blocks_at code in
      let h : List Block = undump w d in
      let l : length (words_of_all h) ≡ 8 * w = length-words w h (length_undumped w d) in
      ap (λ (o : Outcome). from_words_outcome code o.buffer bytes) read_back
      ∙ leaves (words_refusals code (length bytes) (length (words_of_all h))) (dump (blocks_of w (words_of_all h))) bytes
      (none_due code (length bytes) (32 * w) (length (words_of_all h)) (8 * w) due-words.0 (e ∙ due-words.1) l)
      ∙ ap done (ap dump (blocks-words w h (length_undumped w d)) ∙ dump-undump w d due-words.1 b)

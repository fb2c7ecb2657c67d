-- Longer output: document 02, Q-2, "Let the final stage take a number of words, 1 to 64, and report its rounds", of a message in one call, of what
-- a hash record was fed, and of what a lent working state was. An outcome is the answer and the output buffer as it is at the end.
use Rattle.std.specs.Prelude.{ℕ, ◌*◌, ◌||◌, List, [], ◌∷◌, ltb, eqb, length}
use Rattle.hash_definition.specs.declared.Kept.{Kept}
use Rattle.hash_definition.specs.declared.OutputAnswer.{OutputAnswer}
use Rattle.definition.specs.Padding.{bits_in}
use Rattle.definition.specs.Final.{final_rounds}
use Rattle.definition.specs.Luffa.{luffa_output}
use Rattle.definition.specs.Buffer.{overwrite}
use Rattle.definition.specs.Refusal.{Refusal, WORDS, first_of, when_done, width_refusal, out_refusal}
use Rattle.hash_definition.specs.Record.{decode, output_from}
use Rattle.hash_definition.specs.Calls.{odd_refusal, long_refusal, record_refusal}
use Rattle.hash_definition.specs.Lent.{kept_refusal}

pub record OutputOutcome : Type 0 where
  pub answer : OutputAnswer
  pub buffer : List ℕ

-- "report its rounds: the words divided by eight, rounded up". By the number that a call answers: a refusal reports 0 rounds and writes nothing
unfoldable pub output_by : (number words : ℕ) → (after before : List ℕ) → OutputOutcome
output_by number words after before =
    record {
      answer = record { number = number; rounds = when_done number (final_rounds words) 0 };
      buffer = when_done number after before;
    }

-- "12 WORDS (0 or above 64)"
unfoldable pub words_refusal : (words : ℕ) → Refusal
words_refusal words = (WORDS, eqb words 0 || ltb 64 words)

-- "after 1 and before 2; 2 then means under 4 bytes a word"
unfoldable pub output_refusals : (code words odd message_length out_length : ℕ) → List Refusal
output_refusals code words odd message_length out_length =
    width_refusal code ∷ words_refusal words ∷ out_refusal (4 * words) out_length ∷ odd_refusal 0 odd message_length ∷ long_refusal code 0 odd message_length ∷ []

-- from a record there is no 1, and the words are judged before the record
unfoldable pub finish_output_refusals : (record' : List ℕ) → (words out_length : ℕ) → List Refusal
finish_output_refusals record' words out_length = words_refusal words ∷ record_refusal record' ∷ out_refusal (4 * words) out_length ∷ []

unfoldable pub lent_finish_output_refusals : Kept → (words out_length : ℕ) → List Refusal
lent_finish_output_refusals k words out_length = words_refusal words ∷ kept_refusal k ∷ out_refusal (4 * words) out_length ∷ []

-- what is put out stands where a digest does, "in the first bytes of the output buffer and the bytes after it are untouched"
unfoldable pub output_bits_outcome : (code words : ℕ) → (message : List ℕ) → (odd : ℕ) → (out : List ℕ) → OutputOutcome
output_bits_outcome code words message odd out =
    output_by (first_of (output_refusals code words odd (length message) (length out))) words
    (overwrite (luffa_output code words (bits_in message odd)) out) out

unfoldable pub finish_output_outcome : (record' : List ℕ) → (words : ℕ) → (out : List ℕ) → OutputOutcome
finish_output_outcome record' words out =
    output_by (first_of (finish_output_refusals record' words (length out))) words (overwrite (output_from (decode record') words) out) out

unfoldable pub lent_finish_output_outcome : Kept → (words : ℕ) → (out : List ℕ) → OutputOutcome
lent_finish_output_outcome k words out =
    output_by (first_of (lent_finish_output_refusals k words (length out))) words (overwrite (output_from k words) out) out

-- whole bytes: no odd bits
abbrev pub output_outcome : (code words : ℕ) → (message out : List ℕ) → OutputOutcome
output_outcome code words message out = output_bits_outcome code words message 0 out

-- The words in which demands 1 and 2 are proved of the hash: what document 01 promises under "Refusal numbers" and "The kept hash record", a
-- sentence each.
use Rattle.std.specs.Prelude.{◌≡◌, true, List, [], ◌∷◌, ◌++◌, ℕ, ◌*◌, ◌^◌, ◌<◌, ◌≤◌, length, get_or, take, replicate}
use Rattle.hash_definition.specs.declared.Kept.{Kept}
use Rattle.hash_definition.specs.declared.Lent.{Lent}
use Rattle.definition.specs.Block.{words_of_all}
use Rattle.definition.specs.State.{five}
use Rattle.definition.specs.Padding.{bits_in}
use Rattle.definition.specs.Final.{final_rounds}
use Rattle.definition.specs.Luffa.{luffa_output, luffa_of_bits, luffa}
use Rattle.definition.specs.Buffer.{overwrite, joined}
use Rattle.definition.specs.Refusal.{LONG}
use Rattle.hash_definition.specs.Record.{encode, decode, well_formed, fed_bits}
use Rattle.hash_definition.specs.Calls.{Outcome, digest_bits_outcome, digest_outcome, start_outcome, feed_bits_outcome, feed_outcome, finish_outcome}
use Rattle.hash_definition.specs.Lent.{lent_start_outcome, lent_feed_bits_outcome, lent_feed_outcome, lent_finish_outcome}
use Rattle.hash_definition.specs.Output.{OutputOutcome, output_bits_outcome, finish_output_outcome, lent_finish_output_outcome}

-- 0, "done": a call that is done, and the buffer or the working state that it leaves
abbrev pub done : List ℕ → Outcome
done buffer = record { number = 0; buffer = buffer }

abbrev pub taken : Kept → Lent
taken k = record { number = 0; kept = k }

-- a number of words put out, and the output buffer
abbrev pub put_out : (words : ℕ) → List ℕ → OutputOutcome
put_out words buffer = record { answer = record { number = 0; rounds = final_rounds words }; buffer = buffer }

-- its number and its buffer alone, as a call for a digest has them
abbrev pub as_digest : OutputOutcome → Outcome
as_digest o = record { number = o.answer.number; buffer = o.buffer }

-- a refused call, and its buffer
abbrev pub refused : (number : ℕ) → List ℕ → Outcome
refused n buffer = record { number = n; buffer = buffer }

abbrev pub long : List ℕ → Outcome
long buffer = refused LONG buffer

-- the answers of calls that feed pieces in turn, and what the last of them leaves: "with feeding altering it where it stands"
pub record Fed (A : Type 0) : Type 0 where
  pub numbers : List ℕ
  pub last : A

-- each piece fed to what the piece before left
module _ {A : Type 0} (number : A → List ℕ → ℕ) (next : A → List ℕ → A) where
  unfoldable pub feed_each : A → (pieces : List (List ℕ)) → Fed A
  feed_each a [] = record { numbers = []; last = a }
  feed_each a (p ∷ ps) =
      let f : Fed A = feed_each (next a p) ps in
      record { numbers = number a p ∷ f.numbers; last = f.last }

-- over a record, and over a working state
abbrev pub feed_all : (record' : List ℕ) → (pieces : List (List ℕ)) → Fed (List ℕ)
feed_all = feed_each (λ b p. (feed_outcome b p).number) (λ b p. (feed_outcome b p).buffer)

abbrev pub lent_feed_all : Kept → (pieces : List (List ℕ)) → Fed Kept
lent_feed_all = feed_each (λ k p. (lent_feed_outcome k p).number) (λ k p. (lent_feed_outcome k p).kept)

-- Demand 2, for a code, a buffer for the record, the pieces of a message and an output buffer: starting is accepted, feeding each piece in
-- turn is accepted each time, finishing puts the digest of the message into the output buffer, and so does digesting the message at once.
pub record Demand2 (code : ℕ) (buffer : List ℕ) (ps : List (List ℕ)) (out : List ℕ) : Type 0 where
  pub started : (start_outcome code buffer).number ≡ 0
  pub fed : (feed_all (start_outcome code buffer).buffer ps).numbers ≡ replicate (length ps) 0
  pub finished : finish_outcome (feed_all (start_outcome code buffer).buffer ps).last out ≡ done (overwrite (luffa code (joined ps)) out)
  pub digested : digest_outcome code (joined ps) out ≡ done (overwrite (luffa code (joined ps)) out)

-- the same over a working state: finishing does what digesting the message at once does
pub record LentDemand2 (code : ℕ) (k : Kept) (ps : List (List ℕ)) (out : List ℕ) : Type 0 where
  pub started : (lent_start_outcome code k).number ≡ 0
  pub fed : (lent_feed_all (lent_start_outcome code k).kept ps).numbers ≡ replicate (length ps) 0
  pub finished : lent_finish_outcome (lent_feed_all (lent_start_outcome code k).kept ps).last out ≡ digest_outcome code (joined ps) out

-- "odd bits with an empty piece" and "an odd-bit number over 7" aside: odd bits that a last piece can have
abbrev pub Ends : (odd : ℕ) → (last : List ℕ) → Type 0
Ends odd last = (odd ≤ 7) × (0 < odd → 0 < length last)

-- Q-7: "Demand 2 now covers all bit lengths under Table 1". After pieces of whole bytes comes the last, which may end with odd bits: it is
-- accepted too, and finishing gives Luffa of the bit string, as digesting it at once does.
pub record BitsDemand2 (code : ℕ) (buffer : List ℕ) (ps : List (List ℕ)) (last : List ℕ) (odd : ℕ) (out : List ℕ) : Type 0 where
  pub started : (start_outcome code buffer).number ≡ 0
  pub fed : (feed_all (start_outcome code buffer).buffer ps).numbers ≡ replicate (length ps) 0
  pub ended : (feed_bits_outcome (feed_all (start_outcome code buffer).buffer ps).last last odd).number ≡ 0
  pub finished : finish_outcome (feed_bits_outcome (feed_all (start_outcome code buffer).buffer ps).last last odd).buffer out
      ≡ done (overwrite (luffa_of_bits code (bits_in (joined ps ++ last) odd)) out)
  pub digested : digest_bits_outcome code (joined ps ++ last) odd out ≡ done (overwrite (luffa_of_bits code (bits_in (joined ps ++ last) odd)) out)

pub record LentBitsDemand2 (code : ℕ) (k : Kept) (ps : List (List ℕ)) (last : List ℕ) (odd : ℕ) (out : List ℕ) : Type 0 where
  pub started : (lent_start_outcome code k).number ≡ 0
  pub fed : (lent_feed_all (lent_start_outcome code k).kept ps).numbers ≡ replicate (length ps) 0
  pub ended : (lent_feed_bits_outcome (lent_feed_all (lent_start_outcome code k).kept ps).last last odd).number ≡ 0
  pub finished : lent_finish_outcome (lent_feed_bits_outcome (lent_feed_all (lent_start_outcome code k).kept ps).last last odd).kept out
      ≡ digest_bits_outcome code (joined ps ++ last) odd out

-- Q-2: a number of words of such a message is Luffa's output of the bit string, as it is in one call, from the record and over the working state
pub record OutputDemand2 (code words : ℕ) (buffer : List ℕ) (k : Kept) (ps : List (List ℕ)) (last : List ℕ) (odd : ℕ) (out : List ℕ) : Type 0 where
  pub at_once : output_bits_outcome code words (joined ps ++ last) odd out ≡ put_out words (overwrite (luffa_output code words (bits_in (joined ps ++ last) odd)) out)
  pub in_pieces : finish_output_outcome (feed_bits_outcome (feed_all (start_outcome code buffer).buffer ps).last last odd).buffer words out
      ≡ output_bits_outcome code words (joined ps ++ last) odd out
  pub lent_in_pieces : lent_finish_output_outcome (lent_feed_bits_outcome (lent_feed_all (lent_start_outcome code k).kept ps).last last odd).kept words out
      ≡ output_bits_outcome code words (joined ps ++ last) odd out

-- "At one code, shorter output is the beginning of longer output": both are put out, and what the first puts out stands in front of the second
pub record Begins (m n : ℕ) (shorter longer : OutputOutcome) : Type 0 where
  pub shorter_done : shorter.answer ≡ record { number = 0; rounds = final_rounds m }
  pub longer_done : longer.answer ≡ record { number = 0; rounds = final_rounds n }
  pub begins : take (4 * m) shorter.buffer ≡ take (4 * m) longer.buffer

-- "a well-formed record always has one defined continuation": feeding a piece to a record is accepted, the record that it leaves is well formed
-- again, and it holds what was fed
pub record AnyFed (record' piece : List ℕ) (odd : ℕ) : Type 0 where
  pub accepts : feed_bits_outcome record' piece odd ≡ done (encode (fed_bits (decode record') piece odd))
  pub formed : well_formed (encode (fed_bits (decode record') piece odd)) ≡ true
  pub holds : decode (encode (fed_bits (decode record') piece odd)) ≡ fed_bits (decode record') piece odd

-- a working state whose fields fit a record's: "40 state words", "32 pending bytes", a byte of odd bits, a count in 16 bytes
pub record Typed (k : Kept) : Type 0 where
  pub words : (i : ℕ) → get_or (words_of_all (five k.state)) i 0 < 2 ^ 32
  pub pending : length k.pending ≡ 32
  pub odd : k.odd < 256
  pub high : k.high < 2 ^ 64
  pub low : k.low < 2 ^ 64

-- the outcome of the byte form that answers an outcome over a working state
abbrev pub in_bytes : Lent → Outcome
in_bytes o = record { number = o.number; buffer = encode o.kept }

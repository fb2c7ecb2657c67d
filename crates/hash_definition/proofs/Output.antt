-- Longer output by its calls: which are done, that the digests are uses of it, that shorter output is the beginning of longer output, that the bytes
-- after it stay, and that a message's output is the same in one call and in pieces.
-- Assumes nothing.
use mathlib.Core.Path.{◌≡◌, refl, sym, ap, ◌∙◌}
use mathlib.Core.Bool.{Bool, true, false, false≢true}
use mathlib.Core.List.{List, ◌++◌}
use Prim.Native.Nat.{ℕ, zero, suc, ◌+◌, ◌*◌, ◌<◌, ◌≤◌}
use native.Mathlib.Nat.{zero-add}
use native.Mathlib.Omega.{arith}
use lib.ListN.{length, take, drop}
use lib.Seq.{take_all, take-append-le}
use lib.Dec.{leb}
use borrow.Author.Tests.{ne_eqb, le-ltb, lt-leb, leb-true}
use Rattle.hash_definition.specs.declared.Kept.{Kept}
use Rattle.definition.specs.declared.Block.{Block}
use Rattle.definition.specs.Padding.{whole_bytes, bits_in}
use Rattle.definition.specs.Luffa.{words_at, bytes_at, limit_at, output_of, output_of_bits, luffa_output, luffa_of_bits}
use Rattle.definition.specs.Buffer.{overwrite_at, overwrite, joined}
use Rattle.definition.specs.Refusal.{WORDS, pick, first_of, known, width_refusal, out_refusal, when_done}
use Rattle.hash_definition.specs.Record.{record_length, decode, well_kept, well_formed, started, fed_bits, output_from, finished}
use Rattle.hash_definition.specs.Calls.{outcome, long_refusal, digest_refusals, finish_refusals, digest_bits_outcome, finish_outcome}
use Rattle.hash_definition.specs.Lent.{kept_refusal, lent_finish_refusals, lent_finish_outcome}
use Rattle.hash_definition.specs.Output.{output_by, words_refusal, output_refusals, finish_output_refusals, lent_finish_output_refusals, output_bits_outcome, finish_output_outcome, lent_finish_output_outcome}
use Rattle.hash_definition.specs.Said.{put_out, as_digest, Ends, OutputDemand2, Begins}
use Rattle.definition.proofs.Conditions.{both_true}
use Rattle.definition.proofs.Buffer.{drop-overwrite_at}
use Rattle.definition.proofs.Output.{shorter_output, length-output}
use Rattle.hash_definition.proofs.Feeding.{Sound}
use Rattle.hash_definition.proofs.Formed.{formed}
use Rattle.hash_definition.proofs.Ending.{kept-output}
use Rattle.hash_definition.proofs.Working.{sound_typed, sound-byte, lent_finish_output, held_finish_output}
use Rattle.hash_definition.proofs.WorkingDemand2.{no_odd, ends_whole, bits-within, kept_bits_sound, lent-after}
use Rattle.hash_definition.proofs.Demand2.{record-after}

-- 12 is not given for 1 to 64 words
module _ (words : ℕ) (p : 0 < words) (q : words ≤ 64) where
  allowed : words_refusal words ≡ (WORDS, false)
  unfolding words_refusal
  allowed = rw (ne_eqb words 0 (λ e. omega arith), le-ltb 64 words q)

  -- a well formed working state, and room for the words: put out
  pub lent_output_done : (k : Kept) (out : List ℕ) → well_kept k ≡ true → 4 * words ≤ length out
      → lent_finish_output_outcome k words out ≡ put_out words (overwrite (output_from k words) out)
  unfolding lent_finish_output_outcome lent_finish_output_refusals kept_refusal out_refusal output_by first_of pick when_done
  lent_output_done k out w l = rw (allowed, w, le-ltb (length out) (4 * words) l)

  -- a message within the limit in one call
  pub output_done : (code : ℕ) (m : List ℕ) (odd : ℕ) (out : List ℕ) → known code ≡ true → Ends odd m
      → 8 * whole_bytes odd (length m) + odd < limit_at code → 4 * words ≤ length out
      → output_bits_outcome code words m odd out ≡ put_out words (overwrite (luffa_output code words (bits_in m odd)) out)
  unfolding output_bits_outcome output_refusals width_refusal out_refusal long_refusal output_by first_of pick when_done
  output_done code m odd out k e h l =
      rw (
        k,
        allowed,
        le-ltb (length out) (4 * words) l,
        no_odd 0 odd (length m) refl e,
        zero-add (whole_bytes odd (length m)),
        lt-leb (limit_at code) (8 * whole_bytes odd (length m) + odd) h,
      )

-- a digest has 7 to 16 words
digest-words : (code : ℕ) → known code ≡ true → words_refusal (words_at code) ≡ (WORDS, false)
unfolding known words_at words_refusal
digest-words zero e = absurd (false≢true e)
digest-words (suc zero) e = refl
digest-words (suc (suc zero)) e = refl
digest-words (suc (suc (suc zero))) e = refl
digest-words (suc (suc (suc (suc zero)))) e = refl
digest-words (suc (suc (suc (suc (suc n))))) e =
    let c : ℕ = suc (suc (suc (suc (suc n)))) in
    absurd (omega (arith, leb-true c 4 (both_true (leb 1 c) (leb c 4) e).1))

-- "The four digests become uses of it": whatever is handed over, a digest is the output of its words, and refused as that is, since 12 is given for
-- them only beside 1
pub digest-output : (code : ℕ) (m : List ℕ) (odd : ℕ) (out : List ℕ) → as_digest (output_bits_outcome code (words_at code) m odd out) ≡ digest_bits_outcome code m odd out
digest-output code m odd out = by_code (known code) refl
  where
    by_code : (b : Bool) → known code ≡ b → as_digest (output_bits_outcome code (words_at code) m odd out) ≡ digest_bits_outcome code m odd out
    by_code true e =
        unfold output_bits_outcome output_refusals digest_bits_outcome digest_refusals outcome output_by bytes_at luffa_of_bits first_of pick in rw (digest-words code e)
    by_code false e =
        unfold output_bits_outcome output_refusals digest_bits_outcome digest_refusals outcome output_by width_refusal first_of pick when_done in rw e

-- and so is finishing, of every record whose code is known
pub lent_finish_as_output : (k : Kept) (out : List ℕ) → known k.code ≡ true → as_digest (lent_finish_output_outcome k (words_at k.code) out) ≡ lent_finish_outcome k out
unfolding lent_finish_output_outcome lent_finish_output_refusals lent_finish_outcome lent_finish_refusals outcome output_by bytes_at finished first_of pick
lent_finish_as_output k out e = rw (digest-words k.code e)

pub finish_as_output : (b out : List ℕ) → known (decode b).code ≡ true → as_digest (finish_output_outcome b (words_at (decode b).code) out) ≡ finish_outcome b out
unfolding finish_output_outcome finish_output_refusals finish_outcome finish_refusals outcome output_by bytes_at finished first_of pick
finish_as_output b out e = rw (digest-words (decode b).code e)

-- "the bytes after it are untouched", by whatever number a call answers
after-stays : (n words : ℕ) (p out : List ℕ) → length p ≡ 4 * words → drop (4 * words) (output_by n words (overwrite p out) out).buffer ≡ drop (4 * words) out
unfolding output_by when_done
after-stays zero words p out e = drop-overwrite_at 0 (4 * words) p out (omega arith) (omega arith)
after-stays (suc n) words p out e = refl

pub output-stays : (code words : ℕ) (m : List ℕ) (odd : ℕ) (out : List ℕ) → drop (4 * words) (output_bits_outcome code words m odd out).buffer ≡ drop (4 * words) out
unfolding output_bits_outcome luffa_output output_of_bits
output-stays code words m odd out = after-stays _ words _ out (length-output code words _)

pub finish_output_stays : (b : List ℕ) (words : ℕ) (out : List ℕ) → drop (4 * words) (finish_output_outcome b words out).buffer ≡ drop (4 * words) out
unfolding finish_output_outcome output_from output_of_bits
finish_output_stays b words out = after-stays _ words _ out (length-output _ words _)

pub lent_finish_output_stays : (k : Kept) (words : ℕ) (out : List ℕ) → drop (4 * words) (lent_finish_output_outcome k words out).buffer ≡ drop (4 * words) out
unfolding lent_finish_output_outcome output_from output_of_bits
lent_finish_output_stays k words out = after-stays _ words _ out (length-output _ words _)

-- what is put out stands in front
in_front_lem : (n : ℕ) (p l : List ℕ) → n ≤ length p → take n (overwrite p l) ≡ take n p
unfolding overwrite_at
in_front_lem n p l h = take-append-le n p (drop (0 + length p) l) h

-- two numbers of words, and buffers that have room for them
module _ (m n : ℕ) (out out' : List ℕ) (p : 0 < m) (l : m ≤ n) (q : n ≤ 64) (r : 4 * m ≤ length out) (r' : 4 * n ≤ length out') where
  begins_with : (code : ℕ) (h : List Block) → take (4 * m) (overwrite (output_of code m h) out) ≡ take (4 * m) (overwrite (output_of code n h) out')
  begins_with code h =
      in_front_lem (4 * m) (output_of code m h) out (omega (arith, length-output code m h))
      ∙ take_all (4 * m) (output_of code m h) (omega (arith, length-output code m h))
      ∙ sym (in_front_lem (4 * m) (output_of code n h) out' (omega (arith, length-output code n h)) ∙ shorter_output code m n h l)

  -- "At one code, shorter output is the beginning of longer output": of any well formed working state and record
  pub lent_shorter : (k : Kept) → well_kept k ≡ true → Begins m n (lent_finish_output_outcome k m out) (lent_finish_output_outcome k n out')
  lent_shorter k w =
      rw (lent_output_done m p (omega arith) k out w r, lent_output_done n (omega arith) q k out' w r')
      (record { shorter_done = refl; longer_done = refl; begins = unfold output_from output_of_bits in begins_with k.code _ })

  pub any_shorter : (b : List ℕ) → well_formed b ≡ true → Begins m n (finish_output_outcome b m out) (finish_output_outcome b n out')
  any_shorter b w = rw (held_finish_output b m out w, held_finish_output b n out' w) (lent_shorter (decode b) (formed b w).holds)

  -- and of any message in one call
  pub output_shorter : (code : ℕ) (x : List ℕ) (odd : ℕ) → known code ≡ true → Ends odd x → 8 * whole_bytes odd (length x) + odd < limit_at code
      → Begins m n (output_bits_outcome code m x odd out) (output_bits_outcome code n x odd out')
  output_shorter code x odd k e h =
      rw (output_done m p (omega arith) code x odd out k e h r, output_done n (omega arith) q code x odd out' k e h r')
      (record { shorter_done = refl; longer_done = refl; begins = unfold luffa_output output_of_bits in begins_with code _ })

-- a message however it was cut, of every bit length under Table 1's limit: its output is Luffa's, from the record, over the working state and in one
-- call
pub output_demand2 : (code words : ℕ) (b : List ℕ) (k : Kept) (ps : List (List ℕ)) (last : List ℕ) (odd : ℕ) (out : List ℕ)
    → known code ≡ true → length b ≡ record_length → Ends odd last → length (bits_in (joined ps ++ last) odd) < limit_at code
    → 0 < words → words ≤ 64 → 4 * words ≤ length out → OutputDemand2 code words b k ps last odd out
output_demand2 code words b k ps last odd out c e o h p q l =
    let m : List ℕ = joined ps ++ last in
    let j : Kept = fed_bits (started code) m odd in
    let ends : Ends odd m = ends_whole code ps last odd c o h in
    let within : 8 * whole_bytes odd (length m) + odd < limit_at code = bits-within code ps last odd c o h in
    let s : Sound j = kept_bits_sound code m odd c ends within in
    let d = output_done words p q code m odd out c ends within l in
    let lent : lent_finish_output_outcome j words out ≡ output_bits_outcome code words m odd out =
    lent_output_done words p q j out s.well l ∙ ap (λ (x : List ℕ). put_out words (overwrite x out)) (kept-output code words m odd ends) ∙ sym d in
    record {
      at_once = d;
      in_pieces = rw (record-after code b ps last odd c e o h) (lent_finish_output j (sound_typed j s) (sound-byte j s) words out ∙ lent);
      lent_in_pieces = rw (lent-after code k ps last odd c o h) lent;
    }

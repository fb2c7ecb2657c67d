-- A piece that completes no block of a record: the record has its length, is judged as by the list, and what is written into it where it lies
-- makes it the record that was fed.
-- Assumes nothing.
use mathlib.Core.Path.{◌≡◌, refl, sym, ap, ◌∙◌}
use mathlib.Core.Bool.{Bool, true, false, not}
use mathlib.Core.List.{List, [], ◌∷◌}
use Prim.Native.Nat.{ℕ, ◌-◌, ◌%◌, ◌<◌, ◌≤◌}
use native.Mathlib.Omega.{arith}
use lib.Dec.{eqb}
use lib.ListN.{length, get_or}
use borrow.Author.Tests.{eqb-true, eq-eqb}
use Rattle.definition.specs.Padding.{whole_bytes}
use Rattle.definition.specs.Refusal.{RECORD, pick, first_of}
use Rattle.hash_definition.specs.declared.Held.{Held}
use Rattle.hash_definition.specs.declared.Kept.{Kept}
use Rattle.hash_definition.specs.Record.{record_length, decode, encode, held_of, count_of, bytes_fed, pending_count, well_formed, fed_bits}
use Rattle.hash_definition.specs.Calls.{odd_refusal, long_refusal, record_refusal, feed_refusals}
use Rattle.hash_record.specs.declared.Glanced.{Glanced}
use Rattle.hash_record.specs.Reading.{waiting_of, glance_of, held_written}
use Rattle.hash_pieces.specs.Short.{short_of}
use Rattle.std.specs.Prelude.{Result, IsErrAnd}
use Rattle.refusals.specs.declared.Refusal.{Refusal}
use Rattle.refusals.specs.Number.{number, number_of}
use Rattle.refusals.proofs.Judged.{refused, passed as past}
use Rattle.hash_definition.proofs.Formed.{formed}
use Rattle.hash_definition.proofs.Records.{encode-decode}
use Rattle.hash_definition.proofs.Ending.{low_pending, pending_lt}
use Rattle.hash_definition.proofs.Takes.{Takes, takes}
use Rattle.hash_record.proofs.Places.{held-written}
use Rattle.hash_pieces.proofs.Staying.{short_fed, short_length}

-- as many bytes wait as a block holds, at most
waiting_by : (k : Kept) (t : Bool) → pick t (pending_count k) 32 ≤ 32
unfolding pick
waiting_by k true = omega (arith, pending_lt k)
waiting_by k false = omega arith

pub waiting_le : (b : List ℕ) → waiting_of b ≤ 32
unfolding waiting_of
waiting_le b = waiting_by (decode b) (eqb (length b) record_length)

module _ (b piece : List ℕ) (odd : ℕ) (s : whole_bytes odd (length piece) < 32 - waiting_of b) where
  abbrev k : Kept
  k = decode b

  -- a buffer of another length has no room for a byte
  has-length : length b ≡ record_length
  has-length = by_test (eqb (length b) record_length) refl (unfold waiting_of in s)
    where
      by_test : (t : Bool) → eqb (length b) record_length ≡ t → whole_bytes odd (length piece) < 32 - pick t (pending_count k) 32 → length b ≡ record_length
      by_test true e h = eqb-true (length b) record_length e
      by_test false e h = absurd (unfold pick in omega arith)

  pub glanced : glance_of b ≡ record { code = k.code; held = held_of k; well = well_formed b }
  unfolding glance_of pick
  glanced = rw (eq-eqb (length b) record_length has-length)

  waits : waiting_of b ≡ pending_count k
  unfolding waiting_of pick
  waits = rw (eq-eqb (length b) record_length has-length)

  short : whole_bytes odd (length piece) < 32 - k.low % 32
  short = rw (low_pending k) (rw waits at s)

  -- 3 refuses
  pub by_form : {g : Glanced} (r : Result (Unit {0}) Refusal) (e : Refusal) → g ≡ glance_of b → IsErrAnd r (λ y. y ≡ e) → number e ≡ first_of ((RECORD, not g.well) ∷ [])
      → number_of r ≡ first_of (feed_refusals b odd (length piece))
  unfolding feed_refusals record_refusal
  by_form r e q h f = refused r e (_ ∷ []) (_ ∷ _ ∷ []) h (rw (q, glanced) at f)

  -- past it the piece decides
  pub by_piece : {g : Glanced} {x : ℕ} → g ≡ glance_of b → 0 ≡ first_of ((RECORD, not g.well) ∷ [])
      → x ≡ first_of (odd_refusal g.held.odd odd (length piece) ∷ long_refusal g.code (count_of g.held.high g.held.low) odd (length piece) ∷ [])
      → x ≡ first_of (feed_refusals b odd (length piece))
  unfolding feed_refusals record_refusal bytes_fed held_of odd_refusal long_refusal
  by_piece e f p = (rw (e, glanced) at p) ∙ sym (past (_ ∷ []) (_ ∷ _ ∷ []) (omega arith) (rw (e, glanced) at f))

  module _ (bytes : (i : ℕ) → get_or b i 0 < 256) (n : first_of (feed_refusals b odd (length piece)) ≡ 0) where
    -- no refusal meets the piece
    pub passed : Takes (well_formed b) k.code (bytes_fed k) k.odd odd (length piece)
    unfolding feed_refusals record_refusal
    passed = takes (well_formed b) k.code (bytes_fed k) k.odd odd (length piece) n

    pub fed_in_place : held_written (short_of (held_of k) piece odd) b ≡ encode (fed_bits k piece odd)
    fed_in_place =
        let f = formed b passed.formed in
        let h : Held = short_of (held_of k) piece odd in
        let l : length h.pending ≡ 32 = short_length (held_of k) piece odd ∙ unfold held_of in f.buffer in
        ap (held_written h) (sym (encode-decode b bytes passed.formed))
        ∙ held-written k h f.buffer l
        ∙ ap encode (short_fed k piece odd f.holds f.buffer passed.none_held passed.within short)

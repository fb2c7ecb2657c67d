-- Demand 2 over a lent working state: a message fed in pieces to it and finished gives the digest that one call gives, whatever the pieces, and
-- whatever odd bits end the last; and every well formed working state, also one that no message leads to, is fed on as by the concatenation.
-- Assumes nothing.
use mathlib.Core.Path.{◌≡◌, refl, sym, ap, ◌∙◌}
use mathlib.Core.Bool.{true, false}
use mathlib.Core.List.{List, [], ◌++◌}
use Prim.Native.Nat.{ℕ, zero, suc, ◌+◌, ◌*◌, ◌<◌, ◌≤◌}
use native.Mathlib.Nat.{zero-add, zero-lt-suc}
use native.Mathlib.Omega.{arith}
use lib.ListN.{length, replicate, length-append}
use borrow.Author.Tests.{ne_eqb, le-ltb, le-leb, lt-leb}
use Rattle.hash_definition.specs.declared.Kept.{Kept}
use Rattle.definition.specs.Padding.{whole_bytes, bits_in}
use Rattle.definition.specs.Luffa.{bytes_at, limit_at, luffa_of_bits}
use Rattle.definition.specs.Buffer.{overwrite, joined}
use Rattle.definition.specs.Refusal.{LONG, ODD, pick, first_of, known, width_refusal, out_refusal, when_done}
use Rattle.hash_definition.specs.Record.{count_of, bytes_fed, well_kept, started, fed, ended, fed_bits, finished}
use Rattle.hash_definition.specs.Calls.{outcome, odd_refusal, long_refusal, digest_refusals, digest_bits_outcome}
use Rattle.hash_definition.specs.Lent.{lent_outcome, kept_refusal, lent_start_refusals, lent_feed_refusals, lent_finish_refusals, lent_start_outcome, lent_feed_bits_outcome, lent_feed_outcome, lent_finish_outcome}
use Rattle.hash_definition.specs.Said.{done, taken, lent_feed_all, Ends, LentDemand2, LentBitsDemand2}
use Rattle.definition.proofs.BitStrings.{length_bits_in}
use Rattle.hash_definition.proofs.Feeding.{well_kept_lem, Sound, kept_of, kept-count, kept-sound, fed_well, fed-odd, fed-count, fed-code, fed_empty, started-sound, feed_each_lem}
use Rattle.hash_definition.proofs.Ending.{fed_bits_sound, fed_bits_fed, kept-finished}

-- whole bytes, and odd bits behind two pieces
pub no_bits : (p : List ℕ) → Ends 0 p
no_bits p = (omega arith, λ h. absurd (omega arith))

module _ (odd : ℕ) (y z : List ℕ) (e : Ends odd z) where
  pub ends_append : Ends odd (y ++ z)
  ends_append = (e.0, λ h. omega (arith, length-append y z, e.1 h))

  pub whole_append : whole_bytes odd (length (y ++ z)) ≡ length y + whole_bytes odd (length z)
  whole_append = go odd e.1
    where
      go : (o : ℕ) → (0 < o → 0 < length z) → whole_bytes o (length (y ++ z)) ≡ length y + whole_bytes o (length z)
      go zero h = unfold whole_bytes in length-append y z
      go (suc o) h = unfold whole_bytes in omega (arith, length-append y z, h (zero-lt-suc o))

-- 17 is not given where nothing odd is held and the piece can end so
pub no_odd : (held odd n : ℕ) → held ≡ 0 → (odd ≤ 7) × (0 < odd → 0 < n) → odd_refusal held odd n ≡ (ODD, false)
unfolding odd_refusal
no_odd held zero n z e = rw z
no_odd held (suc o) n z e = rw (z, le-ltb 7 (suc o) e.0, ne_eqb (suc o) 0 (λ m. omega arith), ne_eqb n 0 (λ m. omega (arith, e.1 (zero-lt-suc o))))

-- a known code: the working state to begin with, whatever stood there
lent_start_done : (code : ℕ) (k : Kept) → known code ≡ true → lent_start_outcome code k ≡ taken (started code)
unfolding lent_start_outcome lent_outcome lent_start_refusals width_refusal first_of pick when_done
lent_start_done code k e = rw e

-- the bits that a piece leads to
abbrev pub bits_after : Kept → (p : List ℕ) → (odd : ℕ) → ℕ
bits_after k p odd = 8 * (bytes_fed k + whole_bytes odd (length p)) + odd

module _ (k : Kept) (p : List ℕ) (odd : ℕ) (w : well_kept k ≡ true) where
  -- a well formed working state without odd bits, and a piece within the limit: accepted
  pub lent_feed_done : k.odd ≡ 0 → Ends odd p → bits_after k p odd < limit_at k.code → lent_feed_bits_outcome k p odd ≡ taken (fed_bits k p odd)
  unfolding lent_feed_bits_outcome lent_outcome lent_feed_refusals kept_refusal long_refusal first_of pick when_done
  lent_feed_done z e h = rw (w, no_odd k.odd odd (length p) z e, lt-leb (limit_at k.code) (bits_after k p odd) h)

  -- and a piece past the limit: refused, and the working state is as it was
  pub lent_feed_long : k.odd ≡ 0 → Ends odd p → limit_at k.code ≤ bits_after k p odd → lent_feed_bits_outcome k p odd ≡ record { number = LONG; kept = k }
  unfolding lent_feed_bits_outcome lent_outcome lent_feed_refusals kept_refusal long_refusal first_of pick when_done
  lent_feed_long z e h = rw (w, no_odd k.odd odd (length p) z e, le-leb (limit_at k.code) (bits_after k p odd) h)

  -- "feeding anything, even an empty piece, to a record that has odd bits": refused, and as it was
  pub lent_feed_odd : 0 < k.odd → lent_feed_bits_outcome k p odd ≡ record { number = ODD; kept = k }
  unfolding lent_feed_bits_outcome lent_outcome lent_feed_refusals kept_refusal odd_refusal first_of pick when_done
  lent_feed_odd h = rw (w, ne_eqb k.odd 0 (λ e. omega arith))

-- whole bytes
pub lent-fed : (k : Kept) (p : List ℕ) → well_kept k ≡ true → k.odd ≡ 0 → 8 * (bytes_fed k + length p) < limit_at k.code → lent_feed_outcome k p ≡ taken (fed k p)
unfolding fed_bits whole_bytes
lent-fed k p w z h = lent_feed_done k p 0 w z (no_bits p) (omega arith)

-- an output buffer that is long enough: the digest
pub lent_finish_done : (k : Kept) (out : List ℕ) → well_kept k ≡ true → bytes_at k.code ≤ length out
    → lent_finish_outcome k out ≡ done (overwrite (finished k) out)
unfolding lent_finish_outcome outcome lent_finish_refusals kept_refusal out_refusal first_of pick when_done
lent_finish_done k out w h = rw (w, le-ltb (length out) (bytes_at k.code) h)

-- what a message of whole bytes and odd bits, within the limit, leads to is sound
pub kept_bits_sound : (code : ℕ) (m : List ℕ) (odd : ℕ) → known code ≡ true → Ends odd m → 8 * whole_bytes odd (length m) + odd < limit_at code
    → Sound (fed_bits (started code) m odd)
kept_bits_sound code m odd k e h =
    fed_bits_sound (started code) m odd (started-sound code k) (unfold started in refl) e
    (unfold started bytes_fed count_of in omega arith)

-- and with room for its digest
module _ (code : ℕ) (m : List ℕ) (odd : ℕ) (out : List ℕ) (k : known code ≡ true) (e : Ends odd m)
    (h : 8 * whole_bytes odd (length m) + odd < limit_at code) (l : bytes_at code ≤ length out) where
  -- finishing gives Luffa of the bit string
  pub kept_finish_done : lent_finish_outcome (fed_bits (started code) m odd) out ≡ done (overwrite (luffa_of_bits code (bits_in m odd)) out)
  kept_finish_done =
      rw (← kept-finished code m odd e) (lent_finish_done (fed_bits (started code) m odd) out (kept_bits_sound code m odd k e h).well (room odd))
    where
      room : (o : ℕ) → bytes_at (fed_bits (started code) m o).code ≤ length out
      room zero = unfold fed_bits fed started in l
      room (suc o) = unfold fed_bits ended fed started in l

  -- and so does one call
  pub digest_done : digest_bits_outcome code m odd out ≡ done (overwrite (luffa_of_bits code (bits_in m odd)) out)
  unfolding digest_bits_outcome outcome digest_refusals width_refusal out_refusal long_refusal first_of pick when_done
  digest_done =
      rw (
        k,
        le-ltb (length out) (bytes_at code) l,
        no_odd 0 odd (length m) refl e,
        zero-add (whole_bytes odd (length m)),
        lt-leb (limit_at code) (8 * whole_bytes odd (length m) + odd) h,
      )

-- two pieces fed in turn are fed as their concatenation is: the same answer and the same working state
pub lent-twice : (k : Kept) (y z : List ℕ) (odd : ℕ) → well_kept k ≡ true → length k.pending ≡ 32 → k.odd ≡ 0 → Ends odd z
    → bits_after k (y ++ z) odd < limit_at k.code
    → lent_feed_bits_outcome (lent_feed_outcome k y).kept z odd ≡ lent_feed_bits_outcome k (y ++ z) odd
lent-twice k y z odd w l o e h =
    let n = whole_append odd y z e in
    let a : 8 * (bytes_fed k + length y) < limit_at k.code = omega arith in
    let b : bits_after (fed k y) z odd < limit_at (fed k y).code = rw (fed-count k y, fed-code k y) (omega arith) in
    rw (
      lent-fed k y w o a,
      lent_feed_done (fed k y) z odd (fed_well k y w l o a) (fed-odd k y ∙ o) e b,
      lent_feed_done k (y ++ z) odd w o (ends_append odd y z e) h,
    )
    (ap taken (fed_bits_fed k y z odd l e))

-- the empty piece leaves a well formed working state without odd bits as it is
pub lent_empty : (k : Kept) → Sound k → k.odd ≡ 0 → lent_feed_outcome k [] ≡ taken k
lent_empty k s z = lent-fed k [] s.well z (omega (arith, (well_kept_lem k s.well).within)) ∙ ap taken (fed_empty k s z)

-- pieces of whole bytes, fed in turn
fed_all : (code : ℕ) (ps : List (List ℕ)) → known code ≡ true → 8 * length (joined ps) < limit_at code
    → lent_feed_all (started code) ps ≡ record { numbers = replicate (length ps) 0; last = kept_of code (joined ps) }
fed_all code ps e h =
    feed_each_lem (λ k p. (lent_feed_outcome k p).number) (λ k p. (lent_feed_outcome k p).kept) (λ k. k)
    (λ k p s z i. rw (lent-fed k p s.well z i) (refl, refl)) code ps e h

-- Demand 2 holds for every known code, whatever stood in the struct, every message of whole bytes under Table 1's limit in any pieces, empty
-- ones too, and every output buffer that has room for the digest
pub lent_demand2 : (code : ℕ) (k : Kept) (ps : List (List ℕ)) (out : List ℕ)
    → known code ≡ true → 8 * length (joined ps) < limit_at code → bytes_at code ≤ length out → LentDemand2 code k ps out
unfolding fed_bits whole_bytes
lent_demand2 code k ps out e h l =
    let s = lent_start_done code k e in
    let f = fed_all code ps e h in
    let i : 8 * length (joined ps) + 0 < limit_at code = omega arith in
    let m : List ℕ = joined ps in
    record {
      started = rw s;
      fed = rw (s, f);
      finished = rw (s, f) (kept_finish_done code m 0 out e (no_bits m) i l ∙ sym (digest_done code m 0 out e (no_bits m) i l));
    }

-- the last piece, which may end with odd bits
module _ (code : ℕ) (ps : List (List ℕ)) (last : List ℕ) (odd : ℕ) (e : known code ≡ true) (o : Ends odd last)
    (h : length (bits_in (joined ps ++ last) odd) < limit_at code) where
  abbrev x : List ℕ
  x = joined ps

  pub ends_whole : Ends odd (x ++ last)
  ends_whole = ends_append odd x last o

  pub bits-within : 8 * whole_bytes odd (length (x ++ last)) + odd < limit_at code
  bits-within = rw (length_bits_in (x ++ last) odd o.0 ends_whole.1) at h

  pub front-within : 8 * length x < limit_at code
  front-within = omega (arith, bits-within, whole_append odd x last o)

  last_within : bits_after (kept_of code x) last odd < limit_at code
  last_within = omega (arith, bits-within, whole_append odd x last o, kept-count code x)

  pub last_fed : lent_feed_bits_outcome (kept_of code x) last odd ≡ taken (fed_bits (started code) (x ++ last) odd)
  last_fed =
      lent_feed_done (kept_of code x) last odd (kept-sound code x e front-within).well (unfold fed started in refl) o (unfold fed started in last_within)
      ∙ ap taken (fed_bits_fed (started code) x last odd (unfold started in refl) o)

-- what is held after such pieces, fed in turn
pub lent-after : (code : ℕ) (k : Kept) (ps : List (List ℕ)) (last : List ℕ) (odd : ℕ) → known code ≡ true → Ends odd last
    → length (bits_in (joined ps ++ last) odd) < limit_at code
    → (lent_feed_bits_outcome (lent_feed_all (lent_start_outcome code k).kept ps).last last odd).kept ≡ fed_bits (started code) (joined ps ++ last) odd
lent-after code k ps last odd e o h =
    rw (lent_start_done code k e, fed_all code ps e (front-within code ps last odd e o h), last_fed code ps last odd e o h)

-- and of every bit length under Table 1's limit: the last piece ends with odd bits or without
pub lent_bits_demand2 : (code : ℕ) (k : Kept) (ps : List (List ℕ)) (last : List ℕ) (odd : ℕ) (out : List ℕ)
    → known code ≡ true → Ends odd last → length (bits_in (joined ps ++ last) odd) < limit_at code → bytes_at code ≤ length out
    → LentBitsDemand2 code k ps last odd out
lent_bits_demand2 code k ps last odd out e o h l =
    let s = lent_start_done code k e in
    let f = fed_all code ps e (front-within code ps last odd e o h) in
    let d = last_fed code ps last odd e o h in
    let m : List ℕ = joined ps ++ last in
    let q : Ends odd m = ends_whole code ps last odd e o h in
    let i : 8 * whole_bytes odd (length m) + odd < limit_at code = bits-within code ps last odd e o h in
    record {
      started = rw s;
      fed = rw (s, f);
      ended = rw (s, f, d);
      finished = rw (s, f, d) (kept_finish_done code m odd out e q i l ∙ sym (digest_done code m odd out e q i l));
    }

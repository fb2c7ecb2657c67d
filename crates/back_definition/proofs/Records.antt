-- Stepping back over a hash record, in its 216 bytes: back then forward and forward then back return the first record, and a block other than the
-- one fed gives a well-formed record that isn't the earlier one.
-- Assumes nothing.
use mathlib.Core.Path.{◌≡◌, sym, ap, ◌∙◌}
use mathlib.Core.Bool.{true}
use mathlib.Core.List.{List, ◌++◌, append-nil}
use Prim.Native.Nat.{ℕ, ◌+◌, ◌-◌, ◌*◌, ◌<◌}
use native.Mathlib.Omega.{arith}
use lib.ListN.{length, get_or, drop_of_length-le}
use borrow.Author.Tests.{eq-eqb, le-ltb}
use Rattle.definition.specs.declared.Block.{Block}
use Rattle.definition.specs.declared.Width.{Width}
use Rattle.definition.specs.Block.{block_of, words_of}
use Rattle.definition.specs.Word.{bytes_of_all}
use Rattle.definition.specs.Padding.{whole_bytes}
use Rattle.definition.specs.Round.{round}
use Rattle.definition.specs.State.{blocks_in}
use Rattle.definition.specs.Width.{block_count, width_at}
use Rattle.definition.specs.Luffa.{limit_at}
use Rattle.definition.specs.Refusal.{pick, first_of, when_done}
use Rattle.hash_definition.specs.declared.Kept.{Kept}
use Rattle.hash_definition.specs.Record.{encode, decode, bytes_fed, pending_count, well_kept, well_formed, fed}
use Rattle.hash_definition.specs.Calls.{Outcome, outcome, record_refusal, feed_refusals, feed_bits_outcome, feed_outcome}
use Rattle.hash_definition.specs.Lent.{lent_outcome, kept_refusal}
use Rattle.hash_definition.specs.Said.{done, taken, in_bytes}
use Rattle.definition.proofs.Bounds.{Words, round-words}
use Rattle.definition.proofs.Chain.{blocks_of_state, blocks_of_round, length-round}
use Rattle.hash_definition.proofs.AnyRecord.{sound, block_words}
use Rattle.hash_definition.proofs.Feeding.{well_kept_lem, Sound, fed-sound, fed-count, fed-odd, fed-code}
use Rattle.hash_definition.proofs.Records.{encode-decode, block_glue}
use Rattle.hash_definition.proofs.Takes.{Takes, takes}
use Rattle.hash_definition.proofs.Working.{in_bytes_lem, lent_decoded, lent-formed, lent-feed, sound_typed, sound-byte}
use Rattle.hash_definition.proofs.WorkingDemand2.{lent-fed}
use Rattle.back_definition.specs.Back.{backed, back_refusal, back_refusals, back_outcome, lent_back_refusals, lent_back_outcome}
use Rattle.back_definition.specs.Round.{round_back}
use Rattle.back_definition.proofs.Equations.{Rows}
use Rattle.back_definition.proofs.Round.{round_forth, round_back-rows, one_message}
use Rattle.back_definition.proofs.Back.{Backs, backs, held_rows, fed-state, fed-back, backed-fed, backed-sound, backed-count}

-- each byte of a string is one
abbrev Bytes : List ℕ → Type 0
Bytes b = (i : ℕ) → get_or b i 0 < 256

-- where no condition holds the step back is taken
lent_done : (k : Kept) (m : List ℕ) → well_kept k ≡ true → Backs k (length m) → lent_back_outcome k m ≡ taken (backed k m)
unfolding lent_back_outcome lent_outcome lent_back_refusals kept_refusal back_refusal first_of pick when_done
lent_done k m w a =
    rw (
      w,
      eq-eqb (pending_count k) 0 a.none_pending,
      eq-eqb k.odd 0 a.none_odd,
      le-ltb (bytes_fed k) 32 a.enough,
      eq-eqb (length m) 32 a.whole,
    )

-- and so of a working state's bytes, and of those of a record
bytes_done : (k : Kept) → Sound k → (m : List ℕ) → Backs k (length m) → back_outcome (encode k) m ≡ done (encode (backed k m))
unfolding back_outcome back_refusals record_refusal
bytes_done k s m a =
    rw (lent-formed k (sound_typed k s) (sound-byte k s), lent_decoded k (sound_typed k s) (sound-byte k s))
    (in_bytes_lem _ _ _ ∙ unfold lent_back_outcome lent_back_refusals kept_refusal in ap in_bytes (lent_done k m s.well a))

-- and only then
bytes-takes : (k : Kept) → Sound k → (m : List ℕ) → (back_outcome (encode k) m).number ≡ 0 → Backs k (length m)
unfolding back_outcome outcome back_refusals record_refusal
bytes-takes k s m e =
    (backs (well_formed (encode k)) k (length m) (rw (lent_decoded k (sound_typed k s) (sound-byte k s)) at e)).1

-- a feed of whole bytes within the limit to a working state's bytes
feed_done : (k : Kept) → Sound k → (m : List ℕ) → k.odd ≡ 0 → 8 * (bytes_fed k + length m) < limit_at k.code → feed_outcome (encode k) m ≡ done (encode (fed k m))
feed_done k s m o h = lent-feed k (sound_typed k s) (sound-byte k s) m 0 ∙ ap in_bytes (lent-fed k m s.well o h)

-- 32 bytes as a block: its words, and its bytes again
block-bytes : (x : List ℕ) → Bytes x → length x ≡ 32 → bytes_of_all (words_of (block_of x)) ≡ x
block-bytes x h l =
    sym (append-nil (bytes_of_all (words_of (block_of x))))
    ∙ ap (λ (y : List ℕ). bytes_of_all (words_of (block_of x)) ++ y) (sym (drop_of_length-le x {i = 32} (omega arith)))
    ∙ block_glue x h (omega arith)

one_block : (x y : List ℕ) → Bytes x → Bytes y → length x ≡ 32 → length y ≡ 32 → block_of x ≡ block_of y → x ≡ y
one_block x y hx hy lx ly e = sym (block-bytes x hx lx) ∙ ap (λ (a : Block). bytes_of_all (words_of a)) e ∙ block-bytes y hy ly

module _ (b : List ℕ) (bytes : Bytes b) (m : List ℕ) (bytes' : Bytes m) where
  hm : Words (block_of m)
  hm = block_words m bytes'

  -- an accepted step back is over a well-formed record that has what Q-9 wants
  back-takes : (back_outcome b m).number ≡ 0 → (well_formed b ≡ true) × Backs (decode b) (length m)
  unfolding back_outcome outcome back_refusals record_refusal
  back-takes e = backs (well_formed b) (decode b) (length m) e

  -- an accepted feed of whole bytes is to a well-formed record without odd bits
  feed-takes : (feed_outcome b m).number ≡ 0 → Takes (well_formed b) (decode b).code (bytes_fed (decode b)) (decode b).odd 0 (length m)
  unfolding feed_bits_outcome outcome feed_refusals record_refusal
  feed-takes e = takes (well_formed b) (decode b).code (bytes_fed (decode b)) (decode b).odd 0 (length m) e

  module _ (w : well_formed b ≡ true) where
    abbrev k : Kept
    k = decode b

    held : Sound k
    held = sound b bytes w

    again : encode k ≡ b
    again = encode-decode b bytes w

    -- the count and what is under the limit
    within : Backs k (length m) → 8 * (bytes_fed (backed k m) + length m) < limit_at (backed k m).code
    within a = unfold backed in omega (arith, backed-count m a.whole hm k held a.none_pending a.none_odd a.enough, (well_kept_lem k held.well).within)

    back_done : Backs k (length m) → back_outcome b m ≡ done (encode (backed k m))
    back_done a = ap (λ (x : List ℕ). back_outcome x m) (sym again) ∙ bytes_done k held m a

    back-sound : Backs k (length m) → Sound (backed k m)
    back-sound a = backed-sound m a.whole hm k held a.none_pending a.none_odd a.enough

    back-feed : Backs k (length m) → feed_outcome (encode (backed k m)) m ≡ done b
    back-feed a =
        feed_done (backed k m) (back-sound a) m (unfold backed in a.none_odd) (within a)
        ∙ ap (λ (x : Kept). done (encode x)) (backed-fed m a.whole hm k held a.none_pending a.none_odd a.enough)
        ∙ ap done again

  -- "Back then forward": where a step back is accepted, so is a feed of the same 32 bytes, and it returns the first record
  pub back_forward : (back_outcome b m).number ≡ 0 → feed_outcome (back_outcome b m).buffer m ≡ done b
  back_forward e =
      let t = back-takes e in
      ap (λ (o : Outcome). feed_outcome o.buffer m) (back_done t.0 t.1) ∙ back-feed t.0 t.1

  -- a step back that is accepted leaves a well-formed record, its count 32 less
  pub back-formed : (back_outcome b m).number ≡ 0
      → (well_formed (back_outcome b m).buffer ≡ true) × (bytes_fed (decode (back_outcome b m).buffer) ≡ bytes_fed (decode b) - 32)
  back-formed e =
      let t = back-takes e in
      let a = t.1 in
      let d = back_done t.0 a in
      let s = back-sound t.0 a in (
        ap (λ (o : Outcome). well_formed o.buffer) d ∙ lent-formed _ (sound_typed _ s) (sound-byte _ s) ∙ s.well,
        ap (λ (o : Outcome). bytes_fed (decode o.buffer)) d
            ∙ ap bytes_fed (lent_decoded _ (sound_typed _ s) (sound-byte _ s))
            ∙ backed-count m a.whole hm (decode b) (held t.0) a.none_pending a.none_odd a.enough,
      )

  -- an accepted feed of 32 bytes to a record in which none is pending: what is held, and that it can be stepped back over
  module _ (e : (feed_outcome b m).number ≡ 0) (l : length m ≡ 32) where
    t : Takes (well_formed b) (decode b).code (bytes_fed (decode b)) (decode b).odd 0 (length m)
    t = feed-takes e

    under : 8 * (bytes_fed (decode b) + length m) < limit_at (decode b).code
    under = unfold whole_bytes in omega (arith, t.within)

    before : Sound (decode b)
    before = held t.formed

    fed_done : feed_outcome b m ≡ done (encode (fed (decode b) m))
    fed_done = ap (λ (x : List ℕ). feed_outcome x m) (sym (again t.formed)) ∙ feed_done (decode b) before m t.none_held under

    fed-held : Sound (fed (decode b) m)
    fed-held = fed-sound (decode b) m before t.none_held under

    can_back : (n : List ℕ) → length n ≡ 32 → pending_count (decode b) ≡ 0 → Backs (fed (decode b) m) (length n)
    can_back n ln p =
        record {
          none_pending = unfold pending_count in omega (arith, fed-count (decode b) m, p);
          none_odd = fed-odd (decode b) m ∙ t.none_held;
          enough = omega (arith, fed-count (decode b) m);
          whole = ln;
        }

    -- "forward then back": where none is pending the step back is accepted, and it returns the first record
    pub forward_back_none : pending_count (decode b) ≡ 0 → back_outcome (feed_outcome b m).buffer m ≡ done b
    forward_back_none p =
        ap (λ (o : Outcome). back_outcome o.buffer m) fed_done
        ∙ bytes_done (fed (decode b) m) fed-held m (can_back m l p)
        ∙ ap (λ (x : Kept). done (encode x)) (fed-back m l hm (decode b) before p t.none_held)
        ∙ ap done (again t.formed)

    -- where the step back is accepted none was pending
    none_was : (n : List ℕ) → (back_outcome (feed_outcome b m).buffer n).number ≡ 0 → pending_count (decode b) ≡ 0
    unfolding pending_count
    none_was n f =
        let a : Backs (fed (decode b) m) (length n) = bytes-takes (fed (decode b) m) fed-held n (sym (ap (λ (o : Outcome). (back_outcome o.buffer n).number) fed_done) ∙ f) in
        omega (arith, fed-count (decode b) m, a.none_pending)

  -- "Back then forward, and forward then back .. return the first record exactly where both calls are accepted"
  pub forward_back : (feed_outcome b m).number ≡ 0 → length m ≡ 32 → (back_outcome (feed_outcome b m).buffer m).number ≡ 0
      → back_outcome (feed_outcome b m).buffer m ≡ done b
  forward_back e l f = forward_back_none e l (none_was e l m f)

  -- another block than the one fed, for which the same record is left: it would have to be the one fed
  module _ (n : List ℕ) (bytes'' : Bytes n) (e : (feed_outcome b m).number ≡ 0) (l : length m ≡ 32) (ln : length n ≡ 32) (p : pending_count (decode b) ≡ 0) where
    hn : Words (block_of n)
    hn = block_words n bytes''

    fed-k : Kept
    fed-k = fed (decode b) m

    abbrev width : Width
    width = width_at (decode b).code

    abbrev blocks-before : List Block
    blocks-before = blocks_in width (decode b).state

    stepped : back_outcome (feed_outcome b m).buffer n ≡ done (encode (backed fed-k n))
    unfolding fed-k
    stepped =
        ap (λ (o : Outcome). back_outcome o.buffer n) (fed_done e l) ∙ bytes_done (fed (decode b) m) (fed-held e l) n (can_back e l n ln p)

    other-sound : Sound (backed fed-k n)
    unfolding fed-k
    other-sound =
        let a = can_back e l n ln p in
        backed-sound n ln hn (fed (decode b) m) (fed-held e l) a.none_pending a.none_odd a.enough

    round-rows : Rows (block_count width) (round width blocks-before (block_of m))
    round-rows = (length-round width blocks-before (block_of m), round-words width blocks-before (block_of m))

    -- its blocks are those before n instead of m
    other-blocks : blocks_in width (backed fed-k n).state ≡ round_back width (round width blocks-before (block_of m)) (block_of n)
    unfolding backed fed-k
    other-blocks =
        rw (
          fed-code (decode b) m,
          fed-state m l hm (decode b) (before e l) p (t e l).none_held,
          blocks_of_round width blocks-before (block_of m),
        )
        (blocks_of_state width _ (round_back-rows width _ round-rows (block_of n) hn).0)

    same_block : backed fed-k n ≡ decode b → m ≡ n
    same_block q =
        let r : Rows (block_count width) blocks-before = held_rows (decode b) (before e l) in
        let h : round_back width (round width blocks-before (block_of m)) (block_of n) ≡ blocks-before =
        sym other-blocks ∙ ap (λ (k : Kept). blocks_in width k.state) q in
        let g : round width blocks-before (block_of n) ≡ round width blocks-before (block_of m) =
        ap (λ (x : List Block). round width x (block_of n)) (sym h) ∙ round_forth width _ round-rows (block_of n) hn in
        one_block m n bytes' bytes'' l ln (one_message width blocks-before (block_of m) (block_of n) r hm hn (sym g))

    -- "A block other than the one fed gives a defined record, but never the earlier one"
    pub other_block : (m ≡ n → ⊥)
        → (let o : Outcome = back_outcome (feed_outcome b m).buffer n in (o.number ≡ 0) × (well_formed o.buffer ≡ true) × (o.buffer ≡ b → ⊥))
    other_block d =
        let s = other-sound in
        let i = lent_decoded (backed fed-k n) (sound_typed _ s) (sound-byte _ s) in (
          ap (λ (o : Outcome). o.number) stepped,
          ap (λ (o : Outcome). well_formed o.buffer) stepped ∙ lent-formed (backed fed-k n) (sound_typed _ s) (sound-byte _ s) ∙ s.well,
          λ q. d (same_block (sym i ∙ ap decode (sym (ap (λ (o : Outcome). o.buffer) stepped) ∙ q))),
        )

-- Feeding a record in pieces: what waits for a full block, a record fed in turn, the record that a message leads to, and the pieces of a message
-- fed to a record in any form.
-- Assumes nothing.
use mathlib.Core.Path.{◌≡◌, refl, sym, ap, ◌∙◌}
use mathlib.Core.Bool.{true}
use mathlib.Core.List.{List, [], ◌∷◌, ◌++◌, append_assoc, append-nil}
use Prim.Native.Nat.{ℕ, zero, suc, ◌+◌, ◌-◌, ◌*◌, ◌/◌, ◌%◌, ◌^◌, ◌<◌, ◌≤◌}
use native.Mathlib.Nat.{le_refl, zero-add, add-zero, add_assoc, div-add-mod'}
use native.Mathlib.Omega.{arith}
use lib.Dec.{ltb}
use lib.ListN.{length, get_or, take, drop, replicate, length-append, length-drop, length-replicate, take-append-drop}
use lib.Pow.{high, low, pow_pos, pow_mono}
use lib.Seq.{take_at, drop_at, length-take-le}
use borrow.Author.Tests.{leb-true, le-leb, ltb-true, lt-ltb}
use Rattle.definition.specs.declared.Block.{Block}
use Rattle.definition.specs.declared.State.{State}
use Rattle.definition.specs.declared.Width.{Width}
use Rattle.definition.specs.declared.Width.TheVariants.{W3, W4, W5}
use Rattle.hash_definition.specs.declared.Kept.{Kept}
use Rattle.definition.specs.Block.{zero_block, words_of, words_of_all}
use Rattle.definition.specs.Round.{chain}
use Rattle.definition.specs.Padding.{bits_of, padding, padded, blocks, rest}
use Rattle.definition.specs.Width.{block_count, width_at}
use Rattle.definition.specs.Start.{start}
use Rattle.definition.specs.State.{five, blocks_in, state_of}
use Rattle.definition.specs.Buffer.{joined}
use Rattle.definition.specs.Luffa.{limit_at}
use Rattle.definition.specs.Refusal.{known}
use Rattle.hash_definition.specs.Said.{feed_each}
use Rattle.hash_definition.specs.Record.{with_zeros, held_of, all_zero, count_of, bytes_fed, pending_count, pending_bytes, well_held, well_kept, started, fed}
use Rattle.definition.proofs.Conditions.{both_true}
use Rattle.definition.proofs.Every.{every_take}
use Rattle.definition.proofs.Bounds.{Words, AllWords, chain-words, start-words, five-words}
use Rattle.definition.proofs.Padding.{block_by, by_words, blocks_none, rest_short, length_rest, blocks-feed, rest-feed}
use Rattle.definition.proofs.Chain.{blocks_of_start, blocks_of_chain, length-blocks_in, length-start, chain-append}
use Rattle.hash_definition.proofs.Zeros.{zeros_replicate, zeros, zero_at, zero_from_byte}

-- Table 1's limit is at least one bit, and at most 2^128
limit-pos : (code : ℕ) → 0 < limit_at code
unfolding limit_at
limit-pos zero = omega arith
limit-pos (suc zero) = omega arith
limit-pos (suc (suc zero)) = omega arith
limit-pos (suc (suc (suc c))) = pow_pos 128

pub limit_le : (code : ℕ) → limit_at code ≤ 2 ^ 128
unfolding limit_at
limit_le zero = pow_mono {i = 64} {j = 128} (omega arith)
limit_le (suc zero) = pow_mono {i = 64} {j = 128} (omega arith)
limit_le (suc (suc zero)) = pow_mono {i = 64} {j = 128} (omega arith)
limit_le (suc (suc (suc c))) = le_refl (2 ^ 128)

-- what a well kept record says
pub record WellKept (k : Kept) : Type 0 where
  pub code-known : known k.code ≡ true
  pub odd_le : k.odd ≤ 7
  pub after : all_zero (drop (8 * pending_count k + k.odd) (bits_of k.pending)) ≡ true
  pub within : 8 * bytes_fed k + k.odd < limit_at k.code
  pub unused : all_zero (words_of_all (drop (block_count (width_at k.code)) (five k.state))) ≡ true

pub well_kept_lem : (k : Kept) → well_kept k ≡ true → WellKept k
unfolding well_kept well_held held_of pending_count bytes_fed
well_kept_lem k e =
    let p = both_true _ (all_zero (words_of_all (drop (block_count (width_at k.code)) (five k.state)))) e in
    let q = both_true _ (ltb (8 * bytes_fed k + k.odd) (limit_at k.code)) p.0 in
    let r = both_true _ (all_zero (drop (8 * pending_count k + k.odd) (bits_of k.pending))) q.0 in
    let s = both_true (known k.code) _ r.0 in
    record { code-known = s.0; odd_le = leb-true k.odd 7 s.1; after = r.1; within = ltb-true _ _ q.1; unused = p.1 }

-- and what has it all is well kept
pub kept_well : (k : Kept) → WellKept k → well_kept k ≡ true
unfolding well_kept well_held held_of pending_count bytes_fed
kept_well k c = rw (c.code-known, le-leb k.odd 7 c.odd_le, c.after, lt-ltb _ _ c.within, c.unused)

-- a working state that has words, 32 pending bytes, and is well formed
pub record Sound (k : Kept) : Type 0 where
  pub words : AllWords (five k.state)
  pub buffer : length k.pending ≡ 32
  pub low : k.low < 2 ^ 64
  pub well : well_kept k ≡ true

-- without odd bits the bytes after the pending ones are zero
pub zeros-after : (k : Kept) → well_kept k ≡ true → length k.pending ≡ 32 → k.odd ≡ 0 → all_zero (drop (pending_count k) k.pending) ≡ true
unfolding pending_count bytes_fed
zeros-after k e l z =
    let a : all_zero (drop (8 * (bytes_fed k % 32) + k.odd) (bits_of k.pending)) ≡ true = (well_kept_lem k e).after in
    sym (zero_from_byte k.pending (bytes_fed k % 32) (omega arith)) ∙ (rw z at a)

-- the count grows by the piece
pub fed-count : (k : Kept) (p : List ℕ) → bytes_fed (fed k p) ≡ bytes_fed k + length p
unfolding bytes_fed count_of fed
fed-count k p = div-add-mod' (bytes_fed k + length p) (2 ^ 64)

-- as many bytes wait after a piece as the count says
length-waiting : (k : Kept) (y : List ℕ) → length k.pending ≡ 32 → length (rest (pending_bytes k ++ y)) ≡ pending_count (fed k y)
unfolding pending_bytes pending_count
length-waiting k y e =
    let x : List ℕ = take (bytes_fed k % 32) k.pending in
    omega (arith, length_rest (x ++ y), length-append x y, length-take-le (bytes_fed k % 32) k.pending (omega arith), fed-count k y)

-- the pending bytes of a fed record are those that wait after the bytes pending before and the piece
pub pending-fed : (k : Kept) (y : List ℕ) → length k.pending ≡ 32 → pending_bytes (fed k y) ≡ rest (pending_bytes k ++ y)
pending-fed k y e = unfold pending_bytes in go
  where
    go : take (pending_count (fed k y)) (fed k y).pending ≡ rest (pending_bytes k ++ y)
    go = unfold fed with_zeros in take_at (rest (pending_bytes k ++ y)) _ _ (length-waiting k y e)

-- fed in turn is fed at once, also from a record that no message leads to
pub fed-fed : (k : Kept) (y z : List ℕ) → length k.pending ≡ 32 → fed (fed k y) z ≡ fed k (y ++ z)
unfolding fed
fed-fed k y z e =
    let w : Width = width_at k.code in
    let h : List Block = blocks_in w k.state in
    let x : List ℕ = pending_bytes k ++ y in
    rw (
      pending-fed k y e,
      fed-count k y,
      rest-feed x z,
      blocks_of_chain w h (blocks x) (length-blocks_in w k.state),
      ← chain-append w h (blocks x) (blocks (rest x ++ z)),
      ← blocks-feed x z,
      append_assoc (pending_bytes k) y z,
      length-append y z,
      add_assoc (bytes_fed k) (length y) (length z),
    )

-- blocks that w doesn't use are zero in the state that w blocks make
pub unused-zero : (w : Width) (s : State) → all_zero (words_of_all (drop (block_count w) (five (state_of (blocks_in w s))))) ≡ true
unfolding all_zero words_of_all words_of block_count five state_of blocks_in
unused-zero W3 s = refl
unused-zero W4 s = refl
unused-zero W5 s = refl

-- and so after a chain of rounds
unused-chain : (w : Width) (s : State) (ms : List Block)
    → all_zero (words_of_all (drop (block_count w) (five (state_of (chain w (blocks_in w s) ms))))) ≡ true
unused-chain w s ms = rw (blocks_of_chain w (blocks_in w s) ms (length-blocks_in w s)) at (unused-zero w (state_of (chain w (blocks_in w s) ms)))

-- the pending block stays at 32 bytes, with zeros after those that wait, and words stay words
pub fed-pending : (k : Kept) (p : List ℕ) → length (fed k p).pending ≡ 32
unfolding fed with_zeros
fed-pending k p =
    let x : List ℕ = rest (pending_bytes k ++ p) in
    omega (arith, length-append x (replicate (32 - length x) 0), length-replicate {A = ℕ} (32 - length x) 0, length_rest (pending_bytes k ++ p))

fed-after : (k : Kept) (p : List ℕ) → length k.pending ≡ 32 → all_zero (drop (pending_count (fed k p)) (fed k p).pending) ≡ true
fed-after k p l = ap all_zero go ∙ zeros_replicate (32 - length (rest (pending_bytes k ++ p)))
  where
    go : drop (pending_count (fed k p)) (fed k p).pending ≡ replicate (32 - length (rest (pending_bytes k ++ p))) 0
    go = unfold fed with_zeros in drop_at (rest (pending_bytes k ++ p)) _ _ (length-waiting k p l)

fed-words : (k : Kept) (p : List ℕ) → AllWords (five k.state) → AllWords (five (fed k p).state)
unfolding fed blocks_in
fed-words k p h =
    let w : Width = width_at k.code in
    five-words _ (chain-words w _ (blocks (pending_bytes k ++ p)) (every_take Words (five k.state) (block_count w) h))

-- feeding whole bytes within the limit, where there are no odd bits, keeps a well kept record well kept, and without odd bits
pub fed-odd : (k : Kept) (p : List ℕ) → (fed k p).odd ≡ k.odd
unfolding fed
fed-odd k p = refl

pub fed-code : (k : Kept) (p : List ℕ) → (fed k p).code ≡ k.code
unfolding fed
fed-code k p = refl

fed-zeros : (k : Kept) (p : List ℕ) → length k.pending ≡ 32 → k.odd ≡ 0
    → all_zero (drop (8 * pending_count (fed k p) + (fed k p).odd) (bits_of (fed k p).pending)) ≡ true
fed-zeros k p l z =
    ap (λ (o : ℕ). all_zero (drop (8 * pending_count (fed k p) + o) (bits_of (fed k p).pending))) (fed-odd k p ∙ z)
    ∙ zero_from_byte (fed k p).pending (pending_count (fed k p)) (unfold pending_count in omega (arith, fed-pending k p))
    ∙ fed-after k p l

fed-within : (k : Kept) (p : List ℕ) → k.odd ≡ 0 → 8 * (bytes_fed k + length p) < limit_at k.code
    → 8 * bytes_fed (fed k p) + (fed k p).odd < limit_at (fed k p).code
fed-within k p z h =
    let e : 8 * bytes_fed (fed k p) + (fed k p).odd ≡ 8 * (bytes_fed k + length p) = omega (arith, fed-count k p, fed-odd k p) in
    rw e (unfold fed in h)

pub fed_well : (k : Kept) (p : List ℕ) → well_kept k ≡ true → length k.pending ≡ 32 → k.odd ≡ 0 → 8 * (bytes_fed k + length p) < limit_at k.code
    → well_kept (fed k p) ≡ true
fed_well k p e l z h =
    kept_well (fed k p)
    (record {
      code-known = unfold fed in (well_kept_lem k e).code-known;
      odd_le = omega (arith, fed-odd k p);
      after = fed-zeros k p l z;
      within = fed-within k p z h;
      unused = unfold fed in unused-chain (width_at k.code) k.state (blocks (pending_bytes k ++ p));
    })

-- zeros as a block
zero-block : (ws : List ℕ) → all_zero ws ≡ true → (n : ℕ) → zero_block ≡ block_by (λ k. get_or ws (n + k) 0)
zero-block ws e n = by_words (λ k. 0) (λ k. get_or ws (n + k) 0) (λ k l. sym (zero_at ws e (n + k)))

-- a state whose unused blocks are zero is that of its w blocks
pub state-used : (w : Width) (s : State) → all_zero (words_of_all (drop (block_count w) (five s))) ≡ true → state_of (blocks_in w s) ≡ s
unfolding words_of_all words_of block_count five state_of blocks_in
state-used W3 s e = λ i. record { h0 = s.h0; h1 = s.h1; h2 = s.h2; h3 = zero-block _ e 0 i; h4 = zero-block _ e 8 i }
state-used W4 s e = λ i. record { h0 = s.h0; h1 = s.h1; h2 = s.h2; h3 = s.h3; h4 = zero-block _ e 0 i }
state-used W5 s e = refl

-- bytes with nothing but zeros after them are filled up with those zeros
pub with_zeros_take : (n : ℕ) (p : List ℕ) → n ≤ 32 → length p ≡ 32 → all_zero (drop n p) ≡ true → with_zeros (take n p) ≡ p
unfolding with_zeros
with_zeros_take n p h l e =
    let m : 32 - length (take n p) ≡ length (drop n p) = omega (arith, length-take-le n p (omega arith), length-drop n p) in
    rw (m, ← zeros (drop n p) e) (take-append-drop n p)

-- the two words of the count
pub high_word : (k : Kept) → k.low < 2 ^ 64 → bytes_fed k / 2 ^ 64 ≡ k.high
unfolding bytes_fed count_of
high_word k h = high k.high 64 h

pub low_word : (k : Kept) → k.low < 2 ^ 64 → bytes_fed k % 2 ^ 64 ≡ k.low
unfolding bytes_fed count_of
low_word k h = low k.high 64 h

-- feeding no bytes leaves a well kept record as it is
pub fed_empty : (k : Kept) → Sound k → k.odd ≡ 0 → fed k [] ≡ k
unfolding fed pending_bytes chain
fed_empty k s z =
    let n : ℕ = pending_count k in
    let h : n < 32 = unfold pending_count in omega arith in
    let e : length k.pending ≡ 32 = s.buffer in
    let c : WellKept k = well_kept_lem k s.well in
    let t : length (take n k.pending) < 32 = omega (arith, length-take-le n k.pending (omega arith)) in
    rw (
      append-nil (take n k.pending),
      blocks_none (take n k.pending) t,
      rest_short (take n k.pending) t,
      state-used (width_at k.code) k.state c.unused,
      with_zeros_take n k.pending (omega arith) e (zeros-after k s.well e z),
      add-zero (bytes_fed k),
      high_word k s.low,
      low_word k s.low,
    )

-- the record that a message leads to
abbrev pub kept_of : (code : ℕ) → List ℕ → Kept
kept_of code x = fed (started code) x

-- it counts the message's bytes
pub kept-count : (code : ℕ) (x : List ℕ) → bytes_fed (kept_of code x) ≡ length x
kept-count code x = fed-count (started code) x ∙ unfold started bytes_fed count_of in zero-add (length x)

-- under every closing byte, what a message leads to is padded as the message is
pub kept_closed : (byte code : ℕ) (x : List ℕ)
    → chain (width_at code) (blocks_in (width_at code) (kept_of code x).state) (blocks (padded byte (pending_bytes (kept_of code x))))
    ≡ chain (width_at code) (start (width_at code)) (blocks (padded byte x))
unfolding padded padding
kept_closed byte code x =
    let w : Width = width_at code in
    let n : length (rest x) % 32 ≡ length x % 32 = omega (arith, length_rest x) in
    let p : pending_bytes (kept_of code x) ≡ rest x = unfold pending_bytes pending_count bytes_fed count_of started in pending-fed (started code) x refl in
    rw (p, n)
    (unfold fed started pending_bytes pending_count bytes_fed count_of in rw (
      blocks_of_start w,
      blocks_of_chain w (start w) (blocks x) (length-start w),
      ← chain-append w (start w) (blocks x) (blocks (rest x ++ padding byte (length x))),
      ← blocks-feed x (padding byte (length x)),
    ))

-- a record to begin with is sound
started_well : (code : ℕ) → known code ≡ true → well_kept (started code) ≡ true
unfolding started
started_well code e =
    kept_well (started code)
    (record {
      code-known = e;
      odd_le = omega arith;
      after = unfold pending_count bytes_fed count_of in (zero_from_byte (replicate 32 0) 0 (omega arith) ∙ zeros_replicate 32);
      within = unfold bytes_fed count_of in limit-pos code;
      unused = rw (← blocks_of_start (width_at code)) (unused-zero (width_at code) (state_of (start (width_at code))));
    })

started-words : (code : ℕ) → AllWords (five (started code).state)
unfolding started
started-words code = five-words _ (start-words (width_at code))

pub started-sound : (code : ℕ) → known code ≡ true → Sound (started code)
unfolding started
started-sound code e = record { words = started-words code; buffer = refl; low = omega arith; well = started_well code e }

pub fed-sound : (k : Kept) (p : List ℕ) → Sound k → k.odd ≡ 0 → 8 * (bytes_fed k + length p) < limit_at k.code → Sound (fed k p)
fed-sound k p s z h =
    record {
      words = fed-words k p s.words;
      buffer = fed-pending k p;
      low = unfold fed in omega arith;
      well = fed_well k p s.well s.buffer z h;
    }

-- so the record that a message within the limit leads to is sound
pub kept-sound : (code : ℕ) (x : List ℕ) → known code ≡ true → 8 * length x < limit_at code → Sound (kept_of code x)
kept-sound code x e h = fed-sound (started code) x (started-sound code e) (unfold started in refl) (unfold started bytes_fed count_of in omega arith)

-- from a form of working states in which whole bytes within the limit are accepted and fed
module _ {A : Type 0} (number : A → List ℕ → ℕ) (next : A → List ℕ → A) (form : Kept → A)
    (accepts : (k : Kept) (p : List ℕ) → Sound k → k.odd ≡ 0 → 8 * (bytes_fed k + length p) < limit_at k.code
    → (number (form k) p ≡ 0) × (next (form k) p ≡ form (fed k p)))
  where
    each : (k : Kept) (ps : List (List ℕ)) → Sound k → k.odd ≡ 0 → 8 * (bytes_fed k + length (joined ps)) < limit_at k.code
        → feed_each number next (form k) ps ≡ record { numbers = replicate (length ps) 0; last = form (fed k (joined ps)) }
    unfolding feed_each joined
    each k [] s z h = rw (fed_empty k s z)
    each k (p ∷ ps) s z h =
        let l : 8 * (bytes_fed k + length p + length (joined ps)) < limit_at k.code = omega (arith, length-append p (joined ps)) in
        let a = accepts k p s z (omega arith) in
        let g = each (fed k p) ps (fed-sound k p s z (omega arith)) (fed-odd k p ∙ z) (rw (fed-count k p, fed-code k p) l) in
        rw (a.0, a.1, g, fed-fed k p (joined ps) s.buffer)

    -- pieces of a message within the limit: each answer is 0, and what the last leaves is what the message leads to
    pub feed_each_lem : (code : ℕ) (ps : List (List ℕ)) → known code ≡ true → 8 * length (joined ps) < limit_at code
        → feed_each number next (form (started code)) ps ≡ record { numbers = replicate (length ps) 0; last = form (kept_of code (joined ps)) }
    feed_each_lem code ps e h =
        each (started code) ps (started-sound code e) (unfold started in refl) (unfold started bytes_fed count_of in omega arith)

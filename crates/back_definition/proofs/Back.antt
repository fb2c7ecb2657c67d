-- Stepping back over what a record holds: a round of the same 32 bytes and a step back undo each other, and what is left is well kept.
-- Assumes nothing.
use mathlib.Core.Path.{◌≡◌, refl, sym, ap, ◌∙◌}
use mathlib.Core.Bool.{Bool, true, not}
use mathlib.Core.List.{List, [], ◌∷◌}
use Prim.Native.Nat.{ℕ, ◌+◌, ◌-◌, ◌/◌, ◌%◌, ◌^◌, ◌≤◌}
use native.Mathlib.Nat.{div-add-mod'}
use native.Mathlib.Omega.{arith}
use lib.Dec.{eqb, ltb}
use lib.ListN.{length}
use borrow.Author.Tests.{eqb-true, ltb-false, not-false}
use Rattle.definition.specs.declared.Block.{Block}
use Rattle.definition.specs.declared.Width.{Width}
use Rattle.definition.specs.Block.{block_of}
use Rattle.definition.specs.Round.{round, chain}
use Rattle.definition.specs.Width.{block_count, width_at}
use Rattle.definition.specs.State.{five, blocks_in, state_of}
use Rattle.definition.specs.Refusal.{RECORD, BACK, pick, first_of, condition_of}
use Rattle.hash_definition.specs.declared.Kept.{Kept}
use Rattle.hash_definition.specs.Record.{with_zeros, count_of, bytes_fed, pending_count, pending_bytes, well_kept, fed}
use Rattle.definition.proofs.Bounds.{Words, five-words}
use Rattle.definition.proofs.Chain.{blocks_of_state, blocks_of_round, length-blocks_in}
use Rattle.definition.proofs.Conditions.{either_false}
use Rattle.definition.proofs.Every.{every_take}
use Rattle.definition.proofs.Padding.{blocks_one, rest-whole}
use Rattle.definition.proofs.Refusals.{fails}
use Rattle.hash_definition.proofs.Feeding.{WellKept, well_kept_lem, kept_well, Sound, zeros-after, fed-count, unused-zero, state-used, with_zeros_take, high_word, low_word}
use Rattle.back_definition.specs.Round.{round_back}
use Rattle.back_definition.specs.Back.{backed, back_refusal}
use Rattle.back_definition.proofs.Equations.{Rows}
use Rattle.back_definition.proofs.Round.{round-back, round_forth, round_back-rows}

-- what 18 doesn't meet: no pending bytes and no odd bits, 32 bytes fed at least, and 32 bytes
pub record Backs (k : Kept) (block_length : ℕ) : Type 0 where
  pub none_pending : pending_count k ≡ 0
  pub none_odd : k.odd ≡ 0
  pub enough : 32 ≤ bytes_fed k
  pub whole : block_length ≡ 32

pub backs : (well : Bool) (k : Kept) (n : ℕ) → first_of ((RECORD, not well) ∷ back_refusal k n ∷ []) ≡ 0 → (well ≡ true) × Backs k n
unfolding back_refusal condition_of pick
backs well k n e =
    let no = fails ((RECORD, not well) ∷ back_refusal k n ∷ []) (omega arith) e in
    let a = either_false _ (not (eqb n 32)) (no BACK) in
    let b = either_false _ (ltb (bytes_fed k) 32) a.0 in
    let c = either_false (not (eqb (pending_count k) 0)) (not (eqb k.odd 0)) b.0 in (
      not-false well (no RECORD),
      record {
        none_pending = eqb-true _ 0 (not-false _ c.0);
        none_odd = eqb-true _ 0 (not-false _ c.1);
        enough = ltb-false _ _ b.1;
        whole = eqb-true _ 32 (not-false _ a.1);
      },
    )

-- the blocks of a sound record are w blocks of words
pub held_rows : (k : Kept) → Sound k → Rows (block_count (width_at k.code)) (blocks_in (width_at k.code) k.state)
unfolding blocks_in
held_rows k s =
    let w : Width = width_at k.code in
    (length-blocks_in w k.state, every_take Words (five k.state) (block_count w) s.words)

-- 32 bytes, as a block of words, and a record that has none pending
module _ (m : List ℕ) (l : length m ≡ 32) (hm : Words (block_of m)) (k : Kept) (s : Sound k) (p : pending_count k ≡ 0) (o : k.odd ≡ 0) where
  abbrev w : Width
  w = width_at k.code

  abbrev h : List Block
  h = blocks_in w k.state

  -- all 32 pending bytes are zero
  pub pending-zero : k.pending ≡ with_zeros []
  pending-zero = sym (with_zeros_take 0 k.pending (omega arith) s.buffer (rw p at (zeros-after k s.well s.buffer o)))

  -- a feed of 32 bytes as one piece is one round, and none is pending after it
  pub fed-state : (fed k m).state ≡ state_of (round w h (block_of m))
  unfolding fed pending_bytes chain
  fed-state = rw (p, blocks_one m l)

  fed-pending : (fed k m).pending ≡ k.pending
  unfolding fed pending_bytes
  fed-pending = rw (p, rest-whole 1 m (l ∙ refl)) (sym pending-zero)

  -- forward then back
  pub fed-back : backed (fed k m) m ≡ k
  unfolding backed
  fed-back =
      λ i.
      record {
        code = code_same i;
        odd = odd_same i;
        state = state_same i;
        pending = fed-pending i;
        high = (ap (λ (n : ℕ). n / 2 ^ 64) count_same ∙ high_word k s.low) i;
        low = (ap (λ (n : ℕ). n % 2 ^ 64) count_same ∙ low_word k s.low) i;
      }
    where
      code_same : (fed k m).code ≡ k.code
      code_same = unfold fed in refl

      odd_same : (fed k m).odd ≡ k.odd
      odd_same = unfold fed in refl

      count_same : bytes_fed (fed k m) - 32 ≡ bytes_fed k
      count_same = omega (arith, fed-count k m)

      state_same : state_of (round_back (width_at (fed k m).code) (blocks_in (width_at (fed k m).code) (fed k m).state) (block_of m)) ≡ k.state
      state_same =
          rw (code_same, fed-state, blocks_of_round w h (block_of m), round-back w h (held_rows k s) (block_of m) hm)
          (state-used w k.state (well_kept_lem k s.well).unused)

  -- what a step back leaves, its count at least 32
  module _ (n : 32 ≤ bytes_fed k) where
    rows : Rows (block_count w) (round_back w h (block_of m))
    rows = round_back-rows w h (held_rows k s) (block_of m) hm

    pub backed-count : bytes_fed (backed k m) ≡ bytes_fed k - 32
    unfolding bytes_fed count_of backed
    backed-count = div-add-mod' (bytes_fed k - 32) (2 ^ 64)

    pub backed_none : pending_count (backed k m) ≡ 0
    unfolding pending_count
    backed_none = omega (arith, backed-count, p)

    backed_well : well_kept (backed k m) ≡ true
    backed_well =
        let c : WellKept k = well_kept_lem k s.well in
        kept_well (backed k m)
        (record {
          code-known = unfold backed in c.code-known;
          odd_le = unfold backed in c.odd_le;
          after = unfold backed in rw backed_none (rw p at c.after);
          within = unfold backed in omega (arith, backed-count, c.within);
          unused = unfold backed in rw (blocks_of_state w (round_back w h (block_of m)) rows.0) at (unused-zero w (state_of (round_back w h (block_of m))));
        })

    pub backed-sound : Sound (backed k m)
    backed-sound =
        record {
          words = unfold backed in five-words _ rows.1;
          buffer = unfold backed in s.buffer;
          low = unfold backed in omega arith;
          well = backed_well;
        }

-- back then forward
pub backed-fed : (m : List ℕ) → length m ≡ 32 → Words (block_of m) → (k : Kept) → Sound k → pending_count k ≡ 0 → k.odd ≡ 0 → 32 ≤ bytes_fed k
    → fed (backed k m) m ≡ k
unfolding backed
backed-fed m l hm k s p o n =
    λ i.
    record {
      code = code_same i;
      odd = odd_same i;
      state = state_same i;
      pending = pending_same i;
      high = (high_fed ∙ high_word k s.low) i;
      low = (low_fed ∙ low_word k s.low) i;
    }
  where
    w : Width
    w = width_at k.code

    h : List Block
    h = blocks_in w k.state

    b : Kept
    b = backed k m

    sb : Sound b
    sb = backed-sound m l hm k s p o n

    pb : pending_count b ≡ 0
    pb = backed_none m l hm k s p o n

    ob : b.odd ≡ 0
    ob = unfold backed in o

    code_same : (fed b m).code ≡ k.code
    code_same = unfold fed backed in refl

    odd_same : (fed b m).odd ≡ k.odd
    odd_same = unfold fed backed in refl

    count_same : bytes_fed b + length m ≡ bytes_fed k
    count_same = omega (arith, backed-count m l hm k s p o n)

    high_fed : (fed b m).high ≡ bytes_fed k / 2 ^ 64
    high_fed = unfold fed in ap (λ (n : ℕ). n / 2 ^ 64) count_same

    low_fed : (fed b m).low ≡ bytes_fed k % 2 ^ 64
    low_fed = unfold fed in ap (λ (n : ℕ). n % 2 ^ 64) count_same

    pending_same : (fed b m).pending ≡ k.pending
    pending_same = fed-pending m l hm b sb pb ob ∙ unfold backed in refl

    blocks-back : blocks_in w b.state ≡ round_back w h (block_of m)
    blocks-back = unfold backed in blocks_of_state w (round_back w h (block_of m)) (round_back-rows w h (held_rows k s) (block_of m) hm).0

    state_same : (fed b m).state ≡ k.state
    state_same =
        fed-state m l hm b sb pb ob
        ∙ ap (λ (x : List Block). state_of (round w x (block_of m))) blocks-back
        ∙ ap state_of (round_forth w h (held_rows k s) (block_of m) hm)
        ∙ state-used w k.state (well_kept_lem k s.well).unused

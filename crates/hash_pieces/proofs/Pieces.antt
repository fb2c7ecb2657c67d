-- A piece fed to a record: what stays pending, what completes the pending block, and what comes after it.
-- Assumes nothing.
use Rattle.std.proofs.Common.{◌≡◌, ℕ, zero, suc, ◌+◌, ◌-◌, ◌*◌, ◌/◌, ◌%◌, ◌<◌, ◌≤◌, true, List, ◌++◌, length, take, drop, replicate, sym, refl, ap, ◌∙◌, append_assoc, append-nil, zero-add, arith, length-append, length-drop, take-append-drop, drop_of_length-le, length-take-le, drop-drop}
use Rattle.definition.specs.declared.State.{State}
use Rattle.definition.specs.declared.Width.{Width}
use Rattle.hash_definition.specs.declared.Kept.{Kept}
use Rattle.definition.specs.Round.{chain}
use Rattle.definition.specs.Padding.{blocks, rest}
use Rattle.definition.specs.State.{blocks_in, state_of}
use Rattle.definition.specs.Luffa.{limit_at}
use Rattle.definition.specs.Buffer.{overwrite_at}
use Rattle.definition.specs.Width.{width_at}
use Rattle.hash_definition.specs.Record.{all_zero, with_zeros, bytes_fed, pending_count, pending_bytes, fed}
use Rattle.hash_pieces.specs.Short.{high_of, low_of}
use Rattle.definition.proofs.Chain.{chain-append, length-blocks_in, blocks_of_chain}
use Rattle.definition.proofs.Padding.{blocks_none, blocks-append, rest-feed, rest-whole}
use Rattle.hash_definition.proofs.Zeros.{zeros}
use Rattle.hash_definition.proofs.Ending.{pending_lt}
use Rattle.hash_pieces.proofs.Counts.{high_sum, low_sum}

-- nothing pending, and so no front
pub empty_front : (w : Width) (s : State) (p front : List ℕ) (pos : ℕ) → pos ≡ 0 → length front ≡ (32 - pos) % 32
    → state_of (blocks_in w s) ≡ state_of (chain w (blocks_in w s) (blocks (take pos p ++ front)))
unfolding chain
empty_front w s p front pos z e =
    rw z (rw (blocks_none front (omega arith)) refl)

-- the front fills the pending block
pub full_front : (p front : List ℕ) (pos : ℕ) → length p ≡ 32 → pos + length front ≡ 32 → overwrite_at pos front p ≡ take pos p ++ front
unfolding overwrite_at
full_front p front pos e h = rw (h, drop_of_length-le p {i = 32} (omega arith)) (append-nil (take pos p ++ front))

zero_by : (n m : ℕ) → n ≡ m → ◌≡◌ {A = List ℕ} (replicate n 0) (replicate m 0)
zero_by n m e = ap (λ (k : ℕ). replicate k 0) e

drop-zeros : (n m : ℕ) → drop {A = ℕ} n (replicate m 0) ≡ replicate (m - n) 0
drop-zeros zero m = zero_by m (m - 0) (omega arith)
drop-zeros (suc n) zero = zero_by 0 (0 - suc n) (omega arith)
drop-zeros (suc n) (suc m) = drop-zeros n m ∙ zero_by (m - n) (suc m - suc n) (omega arith)

-- bytes over zeros
zero_paste : (x : List ℕ) → overwrite_at 0 x (replicate 32 0) ≡ with_zeros x
unfolding overwrite_at with_zeros
zero_paste x = rw (drop-zeros (0 + length x) 32, zero-add (length x))

-- the zeros after the pending bytes and a piece
pub after-piece : (p piece : List ℕ) (pos : ℕ) → length p ≡ 32 → all_zero (drop pos p) ≡ true → pos + length piece ≤ 32
    → drop (pos + length piece) p ≡ replicate (32 - length (take pos p ++ piece)) 0
after-piece p piece pos e z h =
    let n : length (drop pos p) - length piece ≡ 32 - length (take pos p ++ piece) =
    omega (arith, length-drop pos p, length-append (take pos p) piece, length-take-le pos p (omega arith)) in
    sym (drop-drop (length piece) pos p) ∙ ap (drop (length piece)) (zeros (drop pos p) z)
    ∙ drop-zeros (length piece) (length (drop pos p))
    ∙ zero_by _ _ n

-- the front and the rest of a piece that completes the pending block
front : (p piece : List ℕ) (pos : ℕ) → List ℕ
front p piece pos = take pos p ++ take ((32 - pos) % 32) piece

front_length : (p piece : List ℕ) (pos : ℕ) → length p ≡ 32 → pos < 32 → 32 - pos ≤ length piece
    → length (front p piece pos) ≡ (pos + 31) / 32 * 32
unfolding front
front_length p piece pos e h n =
    omega (
      arith,
      length-append (take pos p) (take ((32 - pos) % 32) piece),
      length-take-le pos p (omega arith),
      length-take-le ((32 - pos) % 32) piece (omega arith),
    )

front_rest : (p piece : List ℕ) (pos : ℕ) → take pos p ++ piece ≡ front p piece pos ++ drop ((32 - pos) % 32) piece
unfolding front
front_rest p piece pos =
    ap (λ (l : List ℕ). take pos p ++ l) (sym (take-append-drop ((32 - pos) % 32) piece))
    ∙ sym (append_assoc (take pos p) (take ((32 - pos) % 32) piece) (drop ((32 - pos) % 32) piece))

-- whole bytes that complete the pending block
pub completes : (k : Kept) (piece : List ℕ) (pos : ℕ) → pos ≡ pending_count k → length k.pending ≡ 32 → 8 * (bytes_fed k + length piece) < limit_at k.code
    → 32 - pos ≤ length piece → (s : State)
    → s ≡ state_of (chain (width_at k.code) (blocks_in (width_at k.code) k.state) (blocks (take pos k.pending ++ take ((32 - pos) % 32) piece)))
    → record {
      code = k.code;
      odd = k.odd;
      state = state_of (chain (width_at k.code) (blocks_in (width_at k.code) s) (blocks (drop ((32 - pos) % 32) piece)));
      pending = overwrite_at 0 (rest (drop ((32 - pos) % 32) piece)) (replicate 32 0);
      high = high_of k.high k.low (length piece);
      low = low_of k.high k.low (length piece);
    }
    ≡ fed k piece
unfolding fed pending_bytes front
completes k piece pos q e w n s f =
    let u : Width = width_at k.code in
    let p : List ℕ = k.pending in
    let y : List ℕ = front p piece pos in
    let t : List ℕ = drop ((32 - pos) % 32) piece in
    let l : length y ≡ (pos + 31) / 32 * 32 = front_length p piece pos e (omega (arith, pending_lt k)) n in
    rw (
      high_sum k (length piece) w,
      low_sum k (length piece),
      ← q,
      front_rest p piece pos,
      blocks-append ((pos + 31) / 32) y t l,
      ← rest-feed y t,
      rest-whole ((pos + 31) / 32) y l,
      f,
      blocks_of_chain u (blocks_in u k.state) (blocks y) (length-blocks_in u k.state),
      chain-append,
      zero_paste,
    )

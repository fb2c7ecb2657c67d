-- The final stage, eight words at a time, gives the definition's words and its blank rounds.
-- Assumes nothing.
use mathlib.Core.Path.{◌≡◌, sym, ap, ◌∙◌}
use mathlib.Core.List.{List, ◌++◌, append-nil, append_assoc}
use Prim.Native.Nat.{ℕ, zero, suc, ◌+◌, ◌-◌, ◌*◌, ◌/◌, ◌<◌, ◌≤◌, min}
use native.Mathlib.Omega.{arith}
use native.Mathlib.Numerals.{add-one}
use lib.ListN.{length, take, replicate, replicate-append-replicate}
use lib.Seq.{take_all, take-append-add, length-take-le}
use Rattle.std.proofs.lemmas.List.{take_min}
use Rattle.definition.specs.declared.Block.{Block}
use Rattle.definition.specs.declared.Counted.{Counted}
use Rattle.definition.specs.declared.State.{State}
use Rattle.definition.specs.declared.Width.{Width}
use Rattle.definition.specs.Word.{word_of, bytes_of_all}
use Rattle.definition.specs.Block.{zero_block, xor_all, words_of, word_at, block_of}
use Rattle.definition.specs.Padding.{blocks_to, blocks}
use Rattle.definition.specs.Round.{round, chain}
use Rattle.definition.specs.State.{five, blocks_in}
use Rattle.definition.specs.Final.{outputs}
use Rattle.definition.specs.Counted.{counted_round, counted_chain}
use Rattle.definition.specs.Buffer.{overwrite}
use Rattle.definition.proofs.Chain.{counted-once, counted_snoc, counted-state, length-blocks_in}
use Rattle.definition.proofs.Word.{length-bytes, bytes-append}
use Rattle.definition.proofs.Final.{blank, length-outputs, xor-five, length_blank}
use Rattle.octets.specs.Total.{write_at}
use Rattle.octets.proofs.Total.{write_more}

-- 32 zero bytes are the zero block
blank_round : (w : Width) (c : Counted) → counted_chain w c (blocks (replicate 32 0)) ≡ counted_round w c zero_block
unfolding blocks blocks_to block_of word_at word_of
blank_round w c = counted-once w c zero_block

-- n blank rounds with their count, and one more
unfoldable pub blanks : Width → Counted → ℕ → Counted
blanks w c n = counted_chain w c (replicate n zero_block)

pub blanks_more : (w : Width) (c : Counted) (n : ℕ) → counted_chain w (blanks w c n) (blocks (replicate 32 0)) ≡ blanks w c (suc n)
unfolding blanks
blanks_more w c n =
    blank_round w (blanks w c n)
    ∙ sym (counted_snoc w c (replicate n zero_block) zero_block)
    ∙ ap (counted_chain w c) (replicate-append-replicate n 1 zero_block ∙ ap (λ (k : ℕ). replicate k zero_block) (add-one n))

-- the words after one more are those before it and the eight of its output
outputs_more : (w : Width) (n : ℕ) (h : List Block) → outputs w (suc n) h ≡ outputs w n h ++ words_of (xor_all (blank w (suc n) h))
unfolding outputs blank chain
outputs_more w zero h = append-nil (words_of (xor_all (round w h zero_block)))
outputs_more w (suc n) h =
    let h' : List Block = round w h zero_block in
    ap (λ (l : List ℕ). words_of (xor_all h') ++ l) (outputs_more w n h')
    ∙ sym (append_assoc (words_of (xor_all h')) (outputs w n h') (words_of (xor_all (blank w (suc n) h'))))

-- what is put out after a blank round is its output
output_is : (w : Width) (c : Counted) (n : ℕ) → xor_all (five (blanks w c n).state) ≡ xor_all (blank w n (blocks_in w c.state))
unfolding blanks blank
output_is w c n =
    let h : List Block = blocks_in w c.state in
    ap (λ (s : State). xor_all (five s)) (counted-state w c (replicate n zero_block))
    ∙ xor-five w (blank w n h) (length_blank w n h (length-blocks_in w c.state))

-- as many of the first words as are wanted, with eight more
taken : (n i : ℕ) (ws z : List ℕ) → length ws ≡ i → i ≤ n → length z ≡ 8 → take n (ws ++ z) ≡ ws ++ take (min (n - i) 8) z
taken n i ws z l h e =
    let d : n ≡ length ws + (n - i) = omega arith in
    ap (λ (k : ℕ). take k (ws ++ z)) d
    ∙ take-append-add ws z (n - i)
    ∙ ap (λ (v : List ℕ). ws ++ v) (sym (take_min (n - i) z) ∙ ap (λ (k : ℕ). take (min (n - i) k) z) e)

-- they are written after the words before them
pub put_more : (w : Width) (c : Counted) (k n : ℕ) (z out out₀ : List ℕ) → z ≡ words_of (xor_all (five (blanks w c (suc k)).state))
    → 8 * k < n → n ≤ length out₀ / 4
    → out ≡ overwrite (bytes_of_all (take n (outputs w k (blocks_in w c.state)))) out₀
    → write_at (32 * k) (bytes_of_all (take (min (n - 8 * k) 8) z)) out
    ≡ overwrite (bytes_of_all (take n (outputs w (suc k) (blocks_in w c.state)))) out₀
unfolding words_of
put_more w c k n z out out₀ e h r f =
    let ws : List ℕ = outputs w k (blocks_in w c.state) in
    let m : ℕ = min (n - 8 * k) 8 in
    let v : List ℕ = take m z in
    let lw : length ws ≡ k * 8 = length-outputs w k (blocks_in w c.state) in
    let lz : length z ≡ 8 = ap length e in
    let lv : length v ≡ m = length-take-le m z (omega arith) in
    let all : take n ws ≡ ws = take_all n ws (omega arith) in
    rw (f, all)
    (write_more (bytes_of_all ws) (bytes_of_all v) out₀ (32 * k) (omega (arith, length-bytes ws)) (omega (arith, length-bytes v))
    ∙ ap (λ (p : List ℕ). overwrite p out₀) (sym (bytes-append ws v)
    ∙ ap bytes_of_all (sym (taken n (8 * k) ws z (omega arith) (omega arith) lz)
    ∙ ap (take n) (ap (λ (y : List ℕ). ws ++ y) (e ∙ ap words_of (output_is w c (suc k))) ∙ sym (outputs_more w k (blocks_in w c.state))))))

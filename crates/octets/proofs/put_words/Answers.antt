-- `octets::put_words` meets its contract. The loop's invariant: the first k words are written, one after the other.
-- Assumes nothing.
use mathlib.Core.Path.{◌≡◌, sym, ap, ◌∙◌}
use mathlib.Core.List.{List}
use Prim.Native.Nat.{ℕ, suc, ◌+◌, ◌*◌, ◌<◌, ◌≤◌}
use native.Mathlib.Numerals.{add-one}
use native.Mathlib.Omega.{arith}
use lib.ListN.{length, get_or, take}
use lib.Seq.{take-suc, take-length, length-take-le}
use Rattle.definition.specs.Word.{bytes_of, bytes_of_all}
use Rattle.octets.specs.Total.{write_at}
use Rattle.octets.proofs.Total.{write_none, write_not, write_at-more, length-write_at}
use Rattle.definition.proofs.Word.{length-bytes, bytes_snoc}
use Rattle.octets.proofs.put_words.Invariants.{some}
use Rattle.octets.proofs.put_words.Goals as goal
use Rattle.octets.proofs.put_words.Goals.{else-i-out-via-then-i-out+else-ws-out, else-i-out-via-else-i-out}

length_some : (k : ℕ) (ws : List ℕ) → k ≤ length ws → length (some k ws) ≡ 4 * k
unfolding some
length_some k ws h = length-bytes (take k ws) ∙ ap (λ (n : ℕ). 4 * n) (length-take-le k ws h)

no_room : (i : ℕ) (ws l : List ℕ) → length l < i + 4 * length ws → l ≡ write_at i (bytes_of_all ws) l
no_room i ws l h = sym (write_not i (bytes_of_all ws) l (rw (length-bytes ws) h))

pub returns-else-i-out : goal.returns-else-i-out
returns-else-i-out c = no_room _ _ _ (elim c.else-i-out.branch [ else-i-out-via-then-i-out+else-ws-out w ↦ omega arith | else-i-out-via-else-i-out w ↦ omega arith ])

pub loop-k-init : goal.loop-k-init
unfolding some bytes_of_all
loop-k-init c = (omega arith, (omega arith, omega arith), sym (write_none _ _))

one_more : (i k : ℕ) (ws out₀ : List ℕ) → k < length ws → i + 4 * length ws ≤ length out₀
    → write_at (i + 4 * k) (bytes_of (get_or ws k 0)) (write_at i (some k ws) out₀) ≡ write_at i (some (suc k) ws) out₀
unfolding some bytes_of
one_more i k ws out₀ h r =
    write_at-more i (i + 4 * k) (some k ws) (bytes_of (get_or ws k 0)) out₀
    (ap (λ (n : ℕ). i + n) (length_some k ws (omega arith))) (omega arith)
    ∙ ap (λ (p : List ℕ). write_at i p out₀) (sym (bytes_snoc (take k ws) (get_or ws k 0)) ∙ ap bytes_of_all (sym (take-suc ws k 0 h)))

pub loop-k-preserved : goal.loop-k-preserved
loop-k-preserved c =
    let l = c.loop-k in (
      omega arith,
      l.invariant.1,
      rw (add-one l.k)
          ((rw l.invariant.2 at c.put_word.ensures) ∙ one_more _ l.k _ _ (omega arith) (omega arith)),
    )

pub shape_of-out : goal.shape_of-out
shape_of-out c =
    let l = c.loop-k in
    ap length l.invariant.2 ∙ length-write_at _ _ _

pub returns-after-loop-k : goal.returns-after-loop-k
unfolding some
returns-after-loop-k c =
    let l = c.loop-k in
    let ws = c.args.ws.now in
    let e : l.k ≡ length ws = omega arith in
    rw (e, take-length ws) at l.invariant.2

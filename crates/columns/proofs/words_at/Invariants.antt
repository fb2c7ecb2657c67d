-- The invariants of `columns::words_at`.
use mathlib.Core.Path.{◌≡◌}
use Prim.Native.Nat.{ℕ, ◌+◌, ◌*◌, ◌<◌, ◌≤◌}
use lib.ListN.{length, get_or, drop}
use Rattle.columns.proofs.Parts.{bits_to}
use Rattle.columns.proofs.words_at.Given as goal

-- bits 0 to l - 1 of each word are read, from the first l columns
abbrev pub invariant-loop-l : goal.invariant-loop-l
invariant-loop-l l =
    let it = l.l-iterator in
    record {
      few : it.count ≤ 32;
      size : it.iter.size ≡ l.n;
      rest : it.iter.rest.now ≡ drop (l.n * it.count) l.dump;
      eight : length l.words ≡ 8;
      words : (k : ℕ) → k < 8 → get_or l.words k 0 ≡ bits_to it.count l.n l.j k l.dump;
    }

-- and bit l of the first k words
abbrev pub invariant-loop-k : goal.invariant-loop-k
invariant-loop-k l =
    record {
      eight : length l.word-items ≡ 8;
      read : (i : ℕ) → i < l.k → get_or l.word-items i 0 ≡ bits_to (l.l + 1) l.n l.j i l.dump;
      due : (i : ℕ) → l.k ≤ i → i < 8 → get_or l.word-items i 0 ≡ bits_to l.l l.n l.j i l.dump;
    }

-- What a save takes away is zeroed: zeros that were written stand there, and the marks past a sheet's new last one are zero.
-- Assumes nothing.
use mathlib.Core.Path.{◌≡◌, sym, ap, ◌∙◌}
use mathlib.Core.List.{List, ◌++◌}
use Prim.Native.Nat.{ℕ, ◌+◌, ◌-◌, ◌*◌, ◌<◌, ◌≤◌}
use native.Mathlib.Omega.{arith}
use lib.ListN.{length, take, drop, replicate, length-replicate, replicate-append-replicate}
use lib.Seq.{take-take, take_at}
use Rattle.definition.specs.Buffer.{overwrite_at}
use Rattle.definition.proofs.Buffer.{overwrite_at-more, length-overwrite_at, take-overwrite_at, drop-overwrite_at}
use Rattle.sheet_definition.specs.Sheet.{mark_words, q}
use Rattle.sheet_definition.specs.Marks.{mark_at}
use Rattle.sheet_definition.specs.SheetCalls.{past_last}
use Rattle.sheet_definition.proofs.Writes.{Rewritten}
use Rattle.sheet_definition.proofs.Fair.{read-written}

-- a + b zeros are a of them and b
parted : (a b m : ℕ) → a + b ≡ m → replicate {A = ℕ} m 0 ≡ replicate a 0 ++ replicate b 0
parted a b m e = rw (← e) (sym (replicate-append-replicate a b 0))

-- c of m zeros that were written from place i on, from place j on
pub zeroed : (i m j c : ℕ) (l : List ℕ) → i ≤ j → j + c ≤ i + m → j ≤ length l → take c (drop j (overwrite_at i (replicate m 0) l)) ≡ replicate c 0
zeroed i m j c l a b h =
    let p : List ℕ = replicate (j - i) 0 in
    let d : ℕ = i + m - j in
    let v : List ℕ = replicate d 0 in
    let n : length p ≡ j - i = length-replicate {A = ℕ} (j - i) 0 in
    rw (parted (j - i) d m (omega arith), ← overwrite_at-more i j p v l (omega arith) (omega arith))
    (sym (take-take c d (drop j (overwrite_at j v (overwrite_at i p l))) (omega arith))
    ∙ ap (take c) (read-written j d v (overwrite_at i p l) (length-replicate {A = ℕ} d 0) (omega (arith, length-overwrite_at i p l (omega arith))))
    ∙ rw (parted c (d - c) d (omega arith)) (take_at (replicate c 0) (replicate (d - c) 0) c (length-replicate {A = ℕ} c 0)))

-- marks up to any before the new last stay, those past the new last are zero, and the words behind the old last stay
pub past_last_lem : (n count m : ℕ) (marks : List ℕ) → m ≤ q count → count ≤ n → mark_words * (q n + 1) ≤ length marks
    → Rewritten n m (past_last n count marks) marks
    × ((k : ℕ) → q count < k → k ≤ q n → mark_at (past_last n count marks) k ≡ replicate mark_words 0)
unfolding past_last mark_at
past_last_lem n count m marks h c l =
    let i : ℕ = mark_words * (q count + 1) in
    let j : ℕ = mark_words * (q n - q count) in
    let z : List ℕ = replicate j 0 in
    let s : length z ≡ j = length-replicate {A = ℕ} j 0 in
    let d : q count ≤ q n = unfold q in omega arith in (
      record {
        size = length-overwrite_at i z marks (omega arith);
        before = take-overwrite_at i (mark_words * (m + 1)) z marks (omega arith) (omega arith);
        behind = λ e f. drop-overwrite_at i (mark_words * (e + 1)) z marks (omega arith) (omega arith);
      },
      λ k f g. zeroed i j (mark_words * k) mark_words marks (omega arith) (omega arith) (omega arith),
    )

-- Work over a sheet from two marks, one after the other, leaves the same in either order, from true marks or false.
-- Assumes nothing.
use mathlib.Core.Path.{◌≡◌, sym, ap, ◌∙◌}
use mathlib.Core.List.{List}
use Prim.Native.Nat.{ℕ, ◌+◌, ◌-◌, ◌*◌, ◌≤◌}
use native.Mathlib.Nat.{le_refl}
use native.Mathlib.Decide.{dec_le}
use native.Mathlib.Omega.{arith}
use lib.ListN.{length, take, drop}
use lib.Seq.{take-take}
use Rattle.definition.specs.declared.Block.{Block}
use Rattle.definition.specs.Width.{width_at}
use Rattle.definition.specs.Buffer.{overwrite_at}
use Rattle.sheet_definition.specs.Sheet.{record_bytes, group_bytes, mark_words, q}
use Rattle.sheet_definition.specs.Marks.{Worked, held, mark_at, state_from, marks_after, worked}
use Rattle.sheet_definition.proofs.Writes.{marks-kept, length-marks_after, Rewritten, rewritten}
use Rattle.sheet_definition.proofs.Again.{again_marks, again_digest}

-- marks written since behind the one that the work is from are written over
written_over : (code n m k : ℕ) (sheet marks' marks : List ℕ) → m ≤ k → m ≤ q n → Rewritten n k marks' marks
    → worked code n sheet marks' m ≡ worked code n sheet marks m
unfolding worked overwrite_at
written_over code n m k sheet marks' marks h j w =
    let i : ℕ = mark_words * (m + 1) in
    let s : List Block = state_from (width_at code) (mark_at marks m) in
    let x : List ℕ = drop (group_bytes * m) (held n sheet) in
    let t : take i marks' ≡ take i marks =
    rw (← take-take i (mark_words * (k + 1)) marks' (omega arith), w.before, take-take i (mark_words * (k + 1)) marks (omega arith)) in
    let e : i + length (marks_after (width_at code) (q n - m) s x) ≡ mark_words * (q n + 1) = omega (arith, length-marks_after (width_at code) (q n - m) s x) in
    rw (marks-kept k m marks' marks w.before h, t, e, w.behind (q n) (le_refl (q n)))

abbrev pub Alike : (a b : Worked) → Type 0
Alike a b = (a.marks ≡ b.marks) × (a.digest ≡ b.digest)

module _ (code n : ℕ) (sheet marks : List ℕ) (l : record_bytes * n ≤ length sheet) (r : mark_words * (q n + 1) ≤ length marks) where
  -- the sheet after work from mark m and then from mark k, between which it was another
  abbrev twice : (between : List ℕ) → (m k : ℕ) → Worked
  twice between m k = worked code n sheet (worked code n between marks m).marks k

  lower_first : (m k : ℕ) (s t : List ℕ) → m ≤ k → k ≤ q n → record_bytes * n ≤ length s → take (group_bytes * k) sheet ≡ take (group_bytes * k) s
      → Alike (twice s m k) (twice t k m)
  lower_first m k s t h j i e =
      let o : twice t k m ≡ worked code n sheet marks m =
      written_over code n m k sheet _ marks h (omega arith) (rewritten code n k t marks j r) in (
        again_marks code n m k sheet s marks h j l i r e ∙ sym (ap (λ (a : Worked). a.marks) o),
        again_digest code n m k sheet s marks h j l i r e ∙ sym (ap (λ (a : Worked). a.digest) o),
      )

  -- each sheet between has the groups before the other's mark as they are in the end
  pub either_first : (m k : ℕ) (s t : List ℕ) → m ≤ q n → k ≤ q n → record_bytes * n ≤ length s → record_bytes * n ≤ length t
      → take (group_bytes * k) sheet ≡ take (group_bytes * k) s → take (group_bytes * m) sheet ≡ take (group_bytes * m) t
      → Alike (twice s m k) (twice t k m)
  either_first m k s t g h i j a b =
      elim (dec_le m k) [
        | yes d ↦ lower_first m k s t d h i a
        | no d ↦ let o = lower_first k m t s (omega arith) g j b in (sym o.0, sym o.1)
      ]

-- Work over a sheet whose later groups were changed since marks were written, from a mark behind the first: it leaves what work over the new sheet
-- from the first mark would, from true marks or false.
-- Assumes nothing.
use mathlib.Core.Path.{◌≡◌, sym, ap, ◌∙◌}
use mathlib.Core.List.{List}
use Prim.Native.Nat.{ℕ, ◌+◌, ◌-◌, ◌*◌, ◌<◌, ◌≤◌}
use native.Mathlib.Nat.{le_refl}
use native.Mathlib.Decide.{dec_le, ℕ_discrete}
use native.Mathlib.Omega.{arith}
use lib.ListN.{length, take, drop, length-drop}
use lib.Seq.{length-take-le, take-take, drop-drop}
use Rattle.definition.specs.declared.Block.{Block}
use Rattle.definition.specs.declared.Width.{Width}
use Rattle.definition.specs.Round.{chain}
use Rattle.definition.specs.Padding.{blocks, blocks_to}
use Rattle.definition.specs.Width.{width_at}
use Rattle.sheet_definition.specs.Sheet.{record_bytes, group_bytes, mark_words, q}
use Rattle.sheet_definition.specs.Marks.{held, mark_at, state_from, mark_of, worked}
use Rattle.definition.proofs.Chain.{length-chain}
use Rattle.sheet_definition.proofs.Writes.{drop-take, marks-kept, Rewritten, rewritten}
use Rattle.sheet_definition.proofs.Marks.{chain_parts, digest_parts, length-state, state_of_mark, mark-worked}
use Rattle.sheet_definition.proofs.Rebuilt.{marks_same}

module _ (code n m k : ℕ) (sheet' sheet marks : List ℕ) (h : m ≤ k) (j : k ≤ q n) (l' : record_bytes * n ≤ length sheet') (l : record_bytes * n ≤ length sheet)
    (r : mark_words * (q n + 1) ≤ length marks) (e : take (group_bytes * k) sheet' ≡ take (group_bytes * k) sheet) where
  abbrev w : Width
  w = width_at code

  -- the state that mark m holds, the marks that work over the old sheet leaves, and the bytes of the new one from there on
  abbrev s : List Block
  s = state_from w (mark_at marks m)

  abbrev old : List ℕ
  old = (worked code n sheet marks m).marks

  abbrev x : List ℕ
  x = drop (group_bytes * m) (held n sheet')

  -- groups up to that of mark k are in both
  groups : (i : ℕ) → m ≤ i → i ≤ k → take (group_bytes * (i - m)) (drop (group_bytes * m) (held n sheet)) ≡ take (group_bytes * (i - m)) x
  unfolding held q
  groups i a b =
      let d : group_bytes * m + group_bytes * (i - m) ≡ group_bytes * i = omega arith in
      rw (
        ← drop-take (group_bytes * m) (group_bytes * (i - m)) (take (record_bytes * n) sheet),
        ← drop-take (group_bytes * m) (group_bytes * (i - m)) (take (record_bytes * n) sheet'),
        d,
        take-take (group_bytes * i) (record_bytes * n) sheet (omega arith),
        take-take (group_bytes * i) (record_bytes * n) sheet' (omega arith),
        ← take-take (group_bytes * i) (group_bytes * k) sheet (omega arith),
        ← take-take (group_bytes * i) (group_bytes * k) sheet' (omega arith),
        e,
      )

  -- so the old marks up to it are those of the new sheet
  old_mark : (i : ℕ) → m < i → i ≤ k → mark_at old i ≡ mark_of (chain w s (blocks (take (group_bytes * (i - m)) x)))
  old_mark i a b = mark-worked code n m i sheet marks a (omega arith) l r ∙ ap (λ (t : List ℕ). mark_of (chain w s (blocks t))) (groups i (omega arith) b)

  old_kept : (i : ℕ) → i ≤ m → mark_at old i ≡ mark_at marks i
  old_kept i a = marks-kept m i old marks (rewritten code n m sheet marks (omega arith) r).before a

  -- and mark k holds the state after its groups
  state-there : state_from w (mark_at old k) ≡ chain w s (blocks (take (group_bytes * (k - m)) x))
  unfolding chain blocks blocks_to
  state-there =
      let bs : List Block = blocks (take (group_bytes * (k - m)) x) in
      elim (ℕ_discrete k m) [
        | yes f ↦ let z : k - m ≡ 0 = omega arith in rw (z, f) (ap (state_from w) (old_kept m (le_refl m)))
        | no f ↦ rw (old_mark k (omega arith) (le_refl k)) (state_of_mark w (chain w s bs) (length-chain w s bs (length-state w (mark_at marks m))))
      ]

  -- what is left of the new sheet behind mark k
  behind : drop (group_bytes * k) (held n sheet') ≡ drop (group_bytes * (k - m)) x
  behind =
      let d : group_bytes * k ≡ group_bytes * m + group_bytes * (k - m) = omega arith in
      rw d (sym (drop-drop (group_bytes * (k - m)) (group_bytes * m) (held n sheet')))

  enough : group_bytes * (k - m) ≤ length x
  unfolding held q
  enough = omega (arith, length-drop (group_bytes * m) (take (record_bytes * n) sheet'), length-take-le (record_bytes * n) sheet' l')

  pub again_digest : (worked code n sheet' old k).digest ≡ (worked code n sheet' marks m).digest
  unfolding worked
  again_digest = rw (state-there, behind) (digest_parts code (k - m) s x enough)

  room : mark_words * (q n + 1) ≤ length old
  room = omega (arith, (rewritten code n m sheet marks (omega arith) r).size)

  -- mark by mark
  again_mark : (i : ℕ) → i < q n + 1 → mark_at (worked code n sheet' old k).marks i ≡ mark_at (worked code n sheet' marks m).marks i
  again_mark i a =
      elim (dec_le i k) [
        | yes b ↦ marks-kept k i _ old (rewritten code n k sheet' old j room).before b
            ∙ elim (dec_le i m) [
              | yes c ↦ old_kept i c ∙ sym (marks-kept m i _ marks (rewritten code n m sheet' marks (omega arith) r).before c)
              | no c ↦ old_mark i (omega arith) b ∙ sym (mark-worked code n m i sheet' marks (omega arith) (omega arith) l' r)
            ]
        | no b ↦ mark-worked code n k i sheet' old (omega arith) (omega arith) l' room
            ∙ ap mark_of (later i (omega arith))
            ∙ sym (mark-worked code n m i sheet' marks (omega arith) (omega arith) l' r)
      ]
    where
      later : (i : ℕ) → k ≤ i → chain w (state_from w (mark_at old k)) (blocks (take (group_bytes * (i - k)) (drop (group_bytes * k) (held n sheet'))))
          ≡ chain w s (blocks (take (group_bytes * (i - m)) x))
      later i b =
          let d : group_bytes * (k - m) + group_bytes * (i - k) ≡ group_bytes * (i - m) = omega arith in
          rw (state-there, behind, chain_parts w s (k - m) (group_bytes * (i - k)) x enough, d)

  pub again_marks : (worked code n sheet' old k).marks ≡ (worked code n sheet' marks m).marks
  again_marks =
      let a : Rewritten n k (worked code n sheet' old k).marks old = rewritten code n k sheet' old j room in
      let b : Rewritten n m old marks = rewritten code n m sheet marks (omega arith) r in
      let c : Rewritten n m (worked code n sheet' marks m).marks marks = rewritten code n m sheet' marks (omega arith) r in
      marks_same (q n + 1) _ _ again_mark (a.behind (q n) (le_refl (q n)) ∙ b.behind (q n) (le_refl (q n)) ∙ sym (c.behind (q n) (le_refl (q n))))

-- The work from a mark to the end, group by group: what is left to do from here gives the whole, and the whole is what the definition says.
-- Assumes nothing.
use mathlib.Core.Path.{◌≡◌, sym, ap, ap₂, ◌∙◌}
use mathlib.Core.List.{List}
use Prim.Native.Nat.{ℕ, suc, ◌+◌, ◌-◌, ◌*◌, ◌/◌, ◌%◌, ◌^◌, ◌<◌, ◌≤◌, min}
use native.Mathlib.Omega.{arith}
use lib.ListN.{length, take, drop, replicate, length-replicate, length-drop, take-append-drop}
use lib.Seq.{length-take-le, take-take, drop-drop}
use Rattle.definition.specs.declared.Block.{Block}
use Rattle.definition.specs.declared.Counted.{Counted}
use Rattle.definition.specs.declared.State.{State}
use Rattle.definition.specs.declared.Width.{Width}
use Rattle.definition.specs.Word.{bytes_of_all}
use Rattle.definition.specs.Block.{zero_block, words_of_all}
use Rattle.definition.specs.Round.{chain}
use Rattle.definition.specs.Padding.{closing, padded, blocks}
use Rattle.definition.specs.Width.{width_at}
use Rattle.definition.specs.State.{five, blocks_in, state_of}
use Rattle.definition.specs.Final.{final, final_rounds}
use Rattle.definition.specs.Counted.{counted_chain}
use Rattle.definition.specs.Luffa.{words_at, bytes_at, output_of}
use Rattle.definition.specs.Buffer.{overwrite_at, overwrite}
use Rattle.sheet_definition.specs.Sheet.{most, record_bytes, group_bytes, mark_words, q}
use Rattle.sheet_definition.specs.Marks.{held, mark_at, state_from, mark_of, marks_after, rounds_after, worked}
use Rattle.definition.proofs.Buffer.{overwrite_at-more}
use Rattle.definition.proofs.Chain.{blocks_of_state, counted-append, counted-state, counted-blocks, counted-rounds}
use Rattle.definition.proofs.Codes.{words_le}
use Rattle.definition.proofs.Padding.{blocks-append}
use Rattle.definition.proofs.BitStrings.{digest-bytes}
use Rattle.sheet_definition.proofs.Writes.{drop-take, nothing_written}
use Rattle.sheet_definition.proofs.Marks.{padded-append, padded-blocks, length-state, length-mark}
use Rattle.squeeze.proofs.Room.{all_words, squeezed-out}

-- the records held from place i on, where they lie in the sheet
from_place : (i j : ℕ) (l : List ℕ) → i ≤ j → take (j - i) (drop i l) ≡ drop i (take j l)
from_place i j l h = sym (drop-take i (j - i) l) ∙ ap (λ (k : ℕ). drop i (take k l)) {x = i + (j - i)} {y = j} (omega arith)

-- and a group of them
group-there : (k n : ℕ) (sheet : List ℕ) → k < q n → record_bytes * n ≤ length sheet
    → take (group_bytes * k + group_bytes - group_bytes * k) (drop (group_bytes * k) sheet) ≡ take group_bytes (drop (group_bytes * k) (held n sheet))
unfolding held q
group-there k n sheet h l =
    ap (λ (a : ℕ). take a (drop (group_bytes * k) sheet)) {x = group_bytes * k + group_bytes - group_bytes * k} {y = group_bytes} (omega arith)
    ∙ sym (take-take group_bytes (record_bytes * n - group_bytes * k) (drop (group_bytes * k) sheet) (omega arith))
    ∙ ap (take group_bytes) (from_place (group_bytes * k) (record_bytes * n) sheet (omega arith))

-- what is still to come from mark k on: the marks as they will be, and the state with its count after the padded rest
unfoldable pub ahead : Width → (n : ℕ) → (sheet : List ℕ) → (k : ℕ) → Counted → (marks : List ℕ) → List ℕ × Counted
ahead w n sheet k c marks =
    let x : List ℕ = drop (group_bytes * k) (held n sheet) in
    (overwrite_at (mark_words * (k + 1)) (marks_after w (q n - k) (blocks_in w c.state) x) marks, counted_chain w c (blocks (padded closing x)))

-- a group's rounds, and those after it
rounds-step : (w : Width) (c : Counted) (x : List ℕ) → group_bytes ≤ length x
    → counted_chain w (counted_chain w c (blocks (take group_bytes x))) (blocks (padded closing (drop group_bytes x))) ≡ counted_chain w c (blocks (padded closing x))
rounds-step w c x l =
    let e : length (take group_bytes x) ≡ 5 * 32 = length-take-le group_bytes x l in
    sym (counted-append w c (blocks (take group_bytes x)) (blocks (padded closing (drop group_bytes x))))
    ∙ ap (counted_chain w c)
    (sym (blocks-append 5 (take group_bytes x) (padded closing (drop group_bytes x)) e)
    ∙ ap blocks (sym (padded-append 5 closing (take group_bytes x) (drop group_bytes x) e) ∙ ap (padded closing) (take-append-drop group_bytes x)))

-- one group further on, with its mark written, the same is still to come
pub group-on : (w : Width) (n k : ℕ) (c d : Counted) (sheet marks marks' : List ℕ) → k < q n → record_bytes * n ≤ length sheet
    → mark_words * (q n + 1) ≤ length marks
    → d ≡ counted_chain w c (blocks (take (group_bytes * k + group_bytes - group_bytes * k) (drop (group_bytes * k) sheet)))
    → marks' ≡ overwrite_at (mark_words * (k + 1)) (words_of_all (five d.state)) marks
    → ahead w n sheet (k + 1) d marks' ≡ ahead w n sheet k c marks
unfolding ahead mark_of marks_after
group-on w n k c d sheet marks marks' h l r e f =
    let x : List ℕ = drop (group_bytes * k) (held n sheet) in
    let s : group_bytes ≤ length x = unfold held q in omega (arith, length-drop (group_bytes * k) (take (record_bytes * n) sheet), length-take-le (record_bytes * n) sheet l) in
    let ms : List Block = blocks (take group_bytes x) in
    let h' : List Block = chain w (blocks_in w c.state) ms in
    let g : d ≡ counted_chain w c ms = e ∙ ap (λ (t : List ℕ). counted_chain w c (blocks t)) (group-there k n sheet h l) in
    let y : drop (group_bytes * (k + 1)) (held n sheet) ≡ drop group_bytes x =
    ap (λ (i : ℕ). drop i (held n sheet)) {x = group_bytes * (k + 1)} {y = group_bytes * k + group_bytes} (omega arith) ∙ sym (drop-drop group_bytes (group_bytes * k) (held n sheet)) in
    let b : blocks_in w d.state ≡ h' = ap (λ (t : Counted). blocks_in w t.state) g ∙ counted-blocks w c ms in
    let m : marks' ≡ overwrite_at (mark_words * (k + 1)) (mark_of h') marks =
    f ∙ ap (λ (s : State). overwrite_at (mark_words * (k + 1)) (words_of_all (five s)) marks) (ap (λ (t : Counted). t.state) g ∙ counted-state w c ms) in
    let j : q n - k ≡ suc (q n - (k + 1)) = omega arith in
    ap₂ (λ (a : List ℕ) (t : Counted). (a, t))
    (rw (y, b, m, j)
    (overwrite_at-more (mark_words * (k + 1)) (mark_words * (k + 1 + 1)) (mark_of h') (marks_after w (q n - (k + 1)) h' (drop group_bytes x)) marks (omega arith) (omega (arith, length-mark h'))))
    (rw (y, g) (rounds-step w c x s))

-- few bytes and few rounds before them: no count wraps
no_wrap : (code before bytes a k z : ℕ) → before < 2 ^ 32 → a ≡ (before + k) % 2 ^ 64 → z ≡ final_rounds (words_at code) → k ≡ bytes / 32 + 1
    → bytes ≤ 40960 → (a + z) % 2 ^ 64 ≡ before + (k + final_rounds (words_at code))
unfolding final_rounds
no_wrap code before bytes a k z b d e f g = omega (arith, words_le code)

-- the whole, from the state s of mark m: c and marks' stand at the last mark, d is after the padded end, and out has room for the digest
module _ (code n m before : ℕ) (sheet marks out : List ℕ) (s : State) (k : ℕ) (c d : Counted) (marks' : List ℕ)
    (e : s ≡ state_of (state_from (width_at code) (mark_at marks m))) (g : k ≡ q n)
    (f : ahead (width_at code) n sheet k c marks' ≡ ahead (width_at code) n sheet m (record { state = s; rounds = before }) marks)
    (a : d ≡ counted_chain (width_at code) c (blocks (padded closing (take (record_bytes * n - group_bytes * (n / 4)) (drop (group_bytes * (n / 4)) sheet)))))
    (room : record_bytes * n ≤ length sheet) (out-room : bytes_at code ≤ length out) where
  abbrev pub w : Width
  w = width_at code

  abbrev from_mark : Counted
  from_mark = record { state = s; rounds = before }

  abbrev rest : List ℕ
  rest = drop (group_bytes * m) (held n sheet)

  abbrev ms : List Block
  ms = blocks (padded closing rest)

  -- the state is the mark's, and the last rounds were run over all that was to come
  found : blocks_in w s ≡ state_from w (mark_at marks m)
  found = ap (blocks_in w) e ∙ blocks_of_state w (state_from w (mark_at marks m)) (length-state w (mark_at marks m))

  ended : d ≡ counted_chain w from_mark ms
  unfolding ahead held q
  ended =
      a
      ∙ ap (λ (x : List ℕ). counted_chain w c (blocks (padded closing x))) (from_place (group_bytes * (n / 4)) (record_bytes * n) sheet (omega arith))
      ∙ ap (λ (i : ℕ). counted_chain w c (blocks (padded closing (drop (group_bytes * i) (take (record_bytes * n) sheet))))) (sym g)
      ∙ ap (λ (t : List ℕ × Counted). t.1) f

  marks-worked : mark_words * (q n + 1) ≤ length marks' → marks' ≡ (worked code n sheet marks m).marks
  unfolding worked ahead
  marks-worked r =
      sym (nothing_written w n (blocks_in w c.state) (drop (group_bytes * q n) (held n sheet)) marks')
      ∙ ap (λ (t : List ℕ × Counted). t.0) (ap (λ (i : ℕ). ahead w n sheet i c marks') (sym g) ∙ f)
      ∙ rw found

  abbrev pub words : ℕ
  words = min (words_at code) (length out / 4)

  digest-worked : bytes_of_all (final w words (blocks_in w d.state)) ≡ (worked code n sheet marks m).digest
  unfolding worked output_of bytes_at
  digest-worked = rw (ended, digest-bytes code _ rest) (ap bytes_of_all (squeezed-out w (words_at code) from_mark ms out out-room ∙ rw found))

  -- the count is the number of rounds that the definition applies
  rounds-worked : n ≤ most → before < 2 ^ 32
      → (counted_chain w d (replicate (final_rounds words) zero_block)).rounds ≡ before + (worked code n sheet marks m).rounds
  unfolding worked rounds_after
  rounds-worked h b =
      let zs : List Block = replicate (final_rounds words) zero_block in
      let t : d.rounds ≡ (before + length ms) % 2 ^ 64 =
      ap (λ (t : Counted). t.rounds) ended ∙ counted-rounds w from_mark ms (omega arith) in
      counted-rounds w d zs (omega arith)
      ∙ no_wrap code before (length rest) d.rounds (length ms) (length zs) b t
      (length-replicate (final_rounds words) zero_block ∙ ap final_rounds (all_words (words_at code) out (unfold bytes_at in out-room)))
      (padded-blocks closing rest)
      (unfold held in omega (arith, length-drop (group_bytes * m) (take (record_bytes * n) sheet), length-take-le (record_bytes * n) sheet room))

  -- so the final stage leaves what the definition says
  pub all_worked : (x : Counted) (out' : List ℕ) → n ≤ most → before < 2 ^ 32 → mark_words * (q n + 1) ≤ length marks'
      → (x ≡ counted_chain w d (replicate (final_rounds words) zero_block)) × (out' ≡ overwrite (bytes_of_all (final w words (blocks_in w d.state))) out)
      → (x.rounds ≡ before + (worked code n sheet marks m).rounds)
      × ((marks' ≡ (worked code n sheet marks m).marks) × (out' ≡ overwrite (worked code n sheet marks m).digest out))
  all_worked x out' h b r z = (
    ap (λ (t : Counted). t.rounds) z.0 ∙ rounds-worked h b,
    (marks-worked r, z.1 ∙ ap (λ (p : List ℕ). overwrite p out) digest-worked),
  )

-- `columns::words_at` meets its contract: a column adds a bit to each of the eight words.
-- Assumes nothing.
use mathlib.Core.Path.{◌≡◌, refl, sym, ap, ◌∙◌}
use mathlib.Core.List.{List, ◌++◌}
use mathlib.Core.Logic.{⊎_elim}
use Prim.Native.Nat.{ℕ, ◌+◌, ◌*◌, ◌<◌, ◌≤◌}
use native.Mathlib.Nat.{eq-or-lt_of_le, mul-zero}
use native.Mathlib.Omega.{arith}
use borrow.Author.Count.{below_more}
use lib.ListN.{length, get_or, set, drop, length-set, length-drop, length-append}
use Rattle.std.proofs.lemmas.List.{get_or-replicate, get_or-set_other}
use Rattle.std.proofs.lemmas.Grind.{get_or-set_at}
use Rattle.columns_definition.proofs.Rows.{row_inside}
use Rattle.columns.proofs.Parts.{bits_to, bits_none, bits_below, bits_more, bits_all, next_byte, next_rest}
use Rattle.columns.proofs.words_at.Goals as goal

module _ (n : ℕ) (d : List ℕ) (e : length d ≡ 32 * n) where
  -- a column more is one of the 32
  within : (l : ℕ) (column rest : List ℕ) → 0 < n → l ≤ 32 → drop (n * l) d ≡ column ++ rest → length column ≡ n → l < 32
  within l column rest p h q s =
      ⊎_elim
      (λ (t : l ≡ 32). absurd (omega (arith, rw t at (ap length q), length-drop (n * 32) d, length-append column rest)))
      (λ (t : l < 32). t)
      (eq-or-lt_of_le h)

  -- and where none is left, all were there
  full : (l : ℕ) → l ≤ 32 → length (drop (n * l) d) < n → l ≡ 32
  full l h s =
      ⊎_elim
      (λ (t : l ≡ 32). t)
      (λ (t : l < 32). absurd (omega (arith, row_inside n l t, length-drop (n * l) d)))
      (eq-or-lt_of_le h)

pub loop-l-init : goal.loop-l-init
loop-l-init c =
    let a = c.args in
    let it = c.into_iter-l-iterator in
    let z : it.result.count ≡ 0 = cc in
    record {
      few = omega (arith, z);
      size = cc;
      rest = rw (z, mul-zero a.n) cc;
      eight = refl;
      words = λ k h. rw z (get_or-replicate 8 k 0 0 h ∙ sym (bits_none a.n a.j k a.dump.now));
    }

pub with_bit-requires : goal.with_bit-requires
with_bit-requires c =
    let a = c.args in
    let l = c.loop-l in
    let k = c.loop-k in
    let s = c.in-Some.ensures.steps in
    let h : l.l-iterator.count < 32 =
    within a.n a.dump.now c.requires.1 l.l-iterator.count c.in-Some.column.now c.next.new.self.iter.rest.now (omega arith) l.invariant.few
    (sym l.invariant.rest ∙ s.0.1.0) (s.0.1.1 ∙ l.invariant.size) in
    (rw (k.invariant.due k.k (omega arith) (omega arith)) (bits_below c.in-Some.l a.n a.j k.k a.dump.now), omega arith, omega arith)

pub loop-k-preserved : goal.loop-k-preserved
loop-k-preserved c =
    let a = c.args in
    let l = c.loop-l in
    let k = c.loop-k in
    let s = c.in-Some.ensures.steps in
    let x =
    next_byte a.n l.l-iterator.count a.j a.dump.now c.in-Some.column.now c.next.new.self.iter.rest.now (sym l.invariant.rest ∙ s.0.1.0)
    (s.0.1.1 ∙ l.invariant.size) (omega arith) in
    let y : c.with_bit.result ≡ bits_to (c.in-Some.l + 1) a.n a.j k.k a.dump.now =
    c.with_bit.ensures ∙ rw (x, ← s.1, k.invariant.due k.k (omega arith) (omega arith)) (bits_more c.in-Some.l a.n a.j k.k a.dump.now) in
    record {
      eight = length-set k.word-items k.k _ ∙ k.invariant.eight;
      read =
          below_more (λ i. get_or (set k.word-items k.k c.with_bit.result) i 0 ≡ bits_to (c.in-Some.l + 1) a.n a.j i a.dump.now) k.k
          (λ i h. get_or-set_other k.word-items k.k i _ 0 (λ e. absurd (omega arith)) ∙ k.invariant.read i h)
          (get_or-set_at k.word-items k.k k.k _ 0 refl (omega arith) ∙ y);
      due = λ i h g. get_or-set_other k.word-items k.k i _ 0 (λ e. absurd (omega arith)) ∙ k.invariant.due i (omega arith) g;
    }

pub loop-l-preserved : goal.loop-l-preserved
loop-l-preserved c =
    let a = c.args in
    let l = c.loop-l in
    let k = c.loop-k in
    let s = c.in-Some.ensures.steps in
    let r : drop (a.n * l.l-iterator.count) a.dump.now ≡ c.in-Some.column.now ++ c.next.new.self.iter.rest.now = sym l.invariant.rest ∙ s.0.1.0 in
    let z : length c.in-Some.column.now ≡ a.n = s.0.1.1 ∙ l.invariant.size in
    let h : l.l-iterator.count < 32 = within a.n a.dump.now c.requires.1 l.l-iterator.count _ _ (omega arith) l.invariant.few r z in
    record {
      few = omega arith;
      size = s.0.0 ∙ l.invariant.size;
      rest = rw s.2 (next_rest a.n l.l-iterator.count a.dump.now _ _ r z);
      eight = k.invariant.eight;
      words = λ i h. rw (s.2, ← s.1) (k.invariant.read i (omega arith));
    }

pub returns : goal.returns
returns c =
    let a = c.args in
    let l = c.loop-l in
    let s = c.in-None.ensures.steps in
    let e : l.l-iterator.count ≡ 32 =
    full a.n a.dump.now c.requires.1 l.l-iterator.count l.invariant.few (rw (l.invariant.rest, l.invariant.size) at s.0.1.0) in
    bits_all a.n a.j a.dump.now l.words l.invariant.eight (λ k h. rw e at (l.invariant.words k h))

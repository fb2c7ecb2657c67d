-- `columns::put_blocks` meets its contract. The loop's invariant: the words of the first j blocks are written.
-- Assumes nothing.
use mathlib.Core.Path.{◌≡◌, refl, sym, ap, ◌∙◌}
use mathlib.Core.List.{List}
use Prim.Native.Nat.{ℕ, ◌+◌, ◌-◌, ◌*◌}
use native.Mathlib.Omega.{arith}
use lib.ListN.{length}
use Rattle.definition.specs.Block.{words_of}
use Rattle.columns_definition.specs.Dump.{block_at, undump}
use Rattle.columns_definition.proofs.Words.{words-rows}
use Rattle.columns_definition.proofs.Filling.{part_set, rows_none, rows_more, rows-length, rows_all}
use Rattle.columns.proofs.put_blocks.Invariants.{read}
use Rattle.columns.proofs.put_blocks.Goals as goal

eight : (n : ℕ) (d : List ℕ) (j : ℕ) → length (read n d j) ≡ 8
unfolding read words_of
eight n d j = refl

pub loop-j-init : goal.loop-j-init
loop-j-init c = (omega arith, refl, rows_none 8 _ _)

pub loop-j-preserved : goal.loop-j-preserved
unfolding read
loop-j-preserved c =
    let a = c.args in
    let p = c.requires in
    let l = c.loop-j in
    let f : ℕ → List ℕ = read a.n a.dump.now in
    let i : c.copy_from_slice.new.self ≡ f l.j = c.copy_from_slice.ensures.after ∙ c.words_at.ensures in
    let e =
    part_set (8 * l.j) (8 * l.j + 8 - 8 * l.j) c.copy_from_slice.new.self l.words (omega (arith, ap length i, eight a.n a.dump.now l.j))
    ∙ rw (i, l.invariant.2) (rows_more 8 f a.words.now l.j (λ i h. eight a.n a.dump.now i)) in
    (omega arith, ap length e ∙ rows-length 8 f a.words.now (l.j + 1) (λ i h. eight a.n a.dump.now i) a.n (omega arith) p.1, e)

pub returns : goal.returns
unfolding undump read
returns c =
    let a = c.args in
    let p = c.requires in
    let l = c.loop-j in
    let e : l.j ≡ a.n = omega arith in
    (rw e at l.invariant.2)
    ∙ rows_all 8 (read a.n a.dump.now) a.words.now a.n (λ i h. eight a.n a.dump.now i) p.1
    ∙ sym (words-rows a.n (λ j. block_at a.n j a.dump.now))

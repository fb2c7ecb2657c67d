-- `injection_back::unring` meets its contract. The loop's invariant: the blocks from j on, and what the next is.
-- Assumes nothing.
use Rattle.std.proofs.Common.{◌≡◌, ℕ, ◌+◌, ◌-◌, ◌<◌, [], ◌∷◌, length, length-set, drop, get_or, refl, sym, ap, ◌∙◌, rules, arith}
use Rattle.std.proofs.lemmas.List.{at_drop_all, at_drop_more, drop-set}
use Rattle.definition.specs.Block.{◌⊕◌, zero_block}
use Rattle.definition.specs.Field.{double}
use Rattle.injection_back.proofs.Rings.{next, solved, all_solved}
use Rattle.injection_back.proofs.unring.Goals as goal

pub loop-j-init : goal.loop-j-init
unfolding next solved
loop-j-init g c =
    let y = c.args.y in
    let z : drop g.row.N y ≡ [] = at_drop_all (λ ys. ys) y g.row.N (search rules) in
    record { ends = search rules; room = refl; rest = rw z refl; last = rw z refl }

pub loop-j-preserved : goal.loop-j-preserved
unfolding next solved
loop-j-preserved g c =
    let l = c.loop-j in
    let y = c.args.y in
    let start = c.times-last.result in
    let i : ℕ = l.j - 1 in
    let e : i + 1 ≡ l.j = omega (arith, c.loop-j-test.true) in
    let inside : i < length y = omega (arith, c.loop-j-test.true, l.invariant.ends) in
    let before : l.last ≡ next start (drop (i + 1) y) = rw e l.invariant.last in
    let rest : drop (i + 1) l.e ≡ solved start (drop (i + 1) y) = rw e l.invariant.rest in
    record {
      ends = omega (arith, l.invariant.ends);
      room = length-set l.e i l.last ∙ l.invariant.room;
      rest = drop-set l.e i l.last (rw l.invariant.room inside) ∙ (λ k. before k ∷ rest k) ∙ sym (at_drop_more (solved start) y i zero_block inside);
      last = c.bitxor-last.ensures ∙ ap (λ r. get_or y i zero_block ⊕ r) (c.double.ensures ∙ ap double before) ∙ sym (at_drop_more (next start) y i zero_block inside);
    }

pub returns : goal.returns
returns g c =
    let l = c.loop-j in
    let e : l.j ≡ 0 = omega (arith, c.loop-j-test.false) in
    (rw e at l.invariant.rest) ∙ (rw (c.times-last.ensures, c.ring_sum.ensures) (all_solved _ _))

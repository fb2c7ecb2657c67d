-- `hash_pieces::completed` meets its contract: nothing was pending, or the pending block is full.
-- Assumes nothing.
use Rattle.std.proofs.Common.{◌≡◌, length, ap, ◌∙◌, arith, rules}
use Rattle.definition.specs.declared.Counted.{Counted}
use Rattle.octets.proofs.Total.{write_at_lem}
use Rattle.definition.proofs.Chain.{counted-state}
use Rattle.hash_pieces.proofs.Pieces.{empty_front, full_front}
use Rattle.hash_pieces.proofs.completed.Goals as goal

pub returns-then-pos-eq0 : goal.returns-then-pos-eq0
returns-then-pos-eq0 c =
    let a = c.args in
    c.used.ensures ∙ empty_front a.w a.s a.p a.front.now a.pos c.if-pos-eq0.true c.requires.1

pub returns : goal.returns
returns c =
    let a = c.args in
    let l : length a.p ≡ 32 = search rules in
    ap (λ (d : Counted). d.state) c.absorb.ensures
    ∙ rw (c.pasted-q.ensures, write_at_lem a.pos a.front.now a.p (omega arith), full_front a.p a.front.now a.pos l (omega arith))
    (counted-state _ _ _)

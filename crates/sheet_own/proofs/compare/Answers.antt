-- `sheet_own::compare` meets its contract. The loop's invariant: what is left to compare, with the pairs before it, is the whole.
-- Assumes nothing.
use mathlib.Core.Path.{◌≡◌, sym, ◌∙◌}
use mathlib.Core.Bool.{Bool, not}
use mathlib.Core.List.{List}
use Prim.Native.Nat.{ℕ, ◌+◌}
use native.Mathlib.Omega.{arith}
use Rattle.definition.specs.declared.Width.{Width}
use Rattle.definition.specs.Width.{width_at}
use Rattle.definition.specs.Buffer.{same}
use Rattle.sheet_definition.specs.Marks.{mark_at, state_from, mark_of}
use Rattle.sheet_definition.specs.Own.{used}
use Rattle.sheet_own.proofs.Marks.{goes_on, stops, ends}
use Rattle.sheet_own.proofs.compare.Goals as goal

-- whether the next pair differs, by the code's blocks
said : {b : Bool} {w : Width} (code g : ℕ) (held own : List ℕ)
    → b ≡ not (same (mark_of (state_from w (mark_at held (g + 1)))) (mark_of (state_from w (mark_at own (g + 1))))) → w ≡ width_at code
    → b ≡ not (same (used code held (g + 1)) (used code own (g + 1)))
unfolding used
said code g held own e f = rw (e, f)

pub returns-then-other : goal.returns-then-other
returns-then-other c =
    let a = c.args in
    let d = said a.code c.loop-g.g a.held.now a.own.now c.other.ensures c.width-used.ensures in
    sym (stops a.code a.held.now a.own.now a.last c.loop-g.g c.loop-g.g (omega arith) (sym d ∙ c.if-other.true)) ∙ c.loop-g.invariant

pub loop-g-preserved : goal.loop-g-preserved
loop-g-preserved c =
    let a = c.args in
    let d = said a.code c.loop-g.g a.held.now a.own.now c.other.ensures c.width-used.ensures in
    sym (goes_on a.code a.held.now a.own.now a.last c.loop-g.g c.loop-g.g (omega arith) (sym d ∙ c.if-other.false)) ∙ c.loop-g.invariant

pub returns : goal.returns
returns c =
    let a = c.args in
    let e : c.loop-g.g ≡ a.last = omega arith in
    sym (ends a.code a.held.now a.own.now a.last) ∙ (rw e at c.loop-g.invariant)

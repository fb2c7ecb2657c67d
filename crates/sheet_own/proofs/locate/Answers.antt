-- `sheet_own::locate` meets its contract: the answer as it is, or with the place.
-- Assumes nothing.
use mathlib.Core.Path.{sym, ap, ◌∙◌}
use Prim.Native.Nat.{ℕ}
use native.Mathlib.Omega.{arith}
use Rattle.std.specs.Prelude.{Ok, Err}
use Rattle.std.proofs.lemmas.Result.{IfErr-at_err}
use Rattle.sheet_definition.specs.Sheet.{q}
use Rattle.sheet_definition.specs.Own.{compared}
use Rattle.sheet_work.specs.Answered.{answer_of}
use Rattle.sheet_own.proofs.Placed.{shared_is, as_it_is, with_place}
use Rattle.sheet_own.proofs.locate.Goals as goal

pub returns-in-Ok : goal.returns-in-Ok
returns-in-Ok c =
    let a = c.args in
    rw c.in-Ok.is (as_it_is a.code a.n a.marks.now a.owned a.own.now (answer_of a.n (Ok c.in-Ok.done)) (λ z. absurd (omega arith)))

pub compare-place-requires : goal.compare-place-requires
unfolding q
compare-place-requires c = (omega (arith, c.requires.0, c.min.ensures), omega (arith, c.requires.1, c.min.ensures))

pub returns-in-Err : goal.returns-in-Err
returns-in-Err c =
    let a = c.args in
    rw c.in-Err.is
    (with_place a.code a.n a.marks.now a.owned a.own.now (answer_of a.n (Err c.in-Err.turned)) (IfErr-at_err _ c.in-Err.is c.requires.2)
    (c.compare-place.ensures ∙ ap (λ (m : ℕ). compared a.code a.marks.now a.own.now m 0) (c.min.ensures ∙ sym (shared_is a.n a.owned))) c.stale.ensures)

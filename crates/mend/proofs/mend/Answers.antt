-- `mend::mend` meets its contract. The loop's invariant: the walk stands at mark k.
-- Assumes nothing.
use mathlib.Core.Path.{◌≡◌, refl, sym, ◌∙◌}
use mathlib.Core.List.{List}
use Prim.Native.Nat.{ℕ, ◌/◌, ◌≤◌}
use native.Mathlib.Numerals.{add-one}
use native.Mathlib.Omega.{arith}
use Rattle.std.proofs.lemmas.Result.{err_from_is_err_and}
use Rattle.refusals.proofs.Judged.{not_zero}
use Rattle.definition.specs.declared.Counted.{Counted}
use Rattle.definition.specs.Round.{chain}
use Rattle.definition.specs.Padding.{blocks_to, blocks}
use Rattle.sheet_definition.specs.Sheet.{World, q}
use Rattle.sheet_definition.specs.Marks.{state_after}
use Rattle.mend_definition.specs.Mend.{replaced, wrong_of, first_in, saying, mend_refusals}
use Rattle.mend_definition.proofs.Outcomes.{room, mend-refused, mend_done}
use Rattle.mend.specs.declared.Found.{Found}
use Rattle.mend.proofs.Upto.{Upto, few, looked, absorbed, ended}
use Rattle.mend.proofs.mend.Goals as goal

pub returns-in_err-judge : goal.returns-in_err-judge
unfolding saying first_in mend_refusals
returns-in_err-judge c =
    let a = c.args in
    let v : World = record { code = a.code; n = a.n; sheet = a.sheet.now; marks = a.marks.now } in
    let p = err_from_is_err_and c.from_residual.result c.from_residual.ensures.1 in
    rw (p.1, p.2) (mend-refused v c.in_err-judge.ensures (not_zero _))

pub loop-k-init : goal.loop-k-init
unfolding q state_after chain blocks blocks_to wrong_of first_in replaced mend_refusals
loop-k-init c =
    let a = c.args in
    let v : World = record { code = a.code; n = a.n; sheet = a.sheet.now; marks = a.marks.now } in
    let f = room v (sym c.in_ok-judge.ensures) in (
      (f.count, f.sheet-room, f.marks-room, refl),
      record {
        state = rw c.width-w.ensures at c.start.ensures;
        rounds = refl;
        found_so = refl;
        marks_so = refl;
      },
    )

-- what was found so far is at most as many as were looked at
few_found : {v : World} {k : ℕ} {c : Counted} {found : Found} {marks : List ℕ} → Upto v k c found marks → found.wrong ≤ k
few_found {v = v} {k = k} u = rw u.found_so (few v k)

pub loop-k-preserved : goal.loop-k-preserved
loop-k-preserved c =
    let l = c.loop-k in
    let w = c.width-w.ensures in
    let u = l.invariant.1 in
    let a = c.args in
    let v : World = record { code = a.code; n = a.n; sheet = a.sheet.now; marks = a.marks.now } in
    let e = looked v l.k l.c l.found l.marks u c.look-found.result _ (omega arith) (c.look-found.ensures.value, c.look-found.ensures.marks_after) in (
      (omega arith, omega arith, omega arith, c.look-found.auto.marks ∙ l.invariant.0.3),
      rw (add-one l.k) (absorbed v l.k l.c l.found l.marks u c.absorb-c.result c.look-found.result _ (omega arith) (omega arith) (rw w at c.absorb-c.ensures) e),
    )

pub returns : goal.returns
unfolding q mend_refusals
returns c =
    let l = c.loop-k in
    let u = l.invariant.1 in
    let a = c.args in
    let v : World = record { code = a.code; n = a.n; sheet = a.sheet.now; marks = a.marks.now } in
    let d : l.k ≡ a.n / 4 = omega arith in
    let o = looked v l.k l.c l.found l.marks u c.look-found-2.result _ (omega arith) (rw (← d) at c.look-found-2.ensures.value, rw (← d) at c.look-found-2.ensures.marks_after) in
    ended v l.k l.c l.found l.marks u c.look-found-2.result _ d o ∙ mend_done v c.in_ok-judge.ensures refl

pub look-found-requires : goal.look-found-requires
look-found-requires c = (omega arith, few_found c.loop-k.invariant.1)

pub look-found-requires-2 : goal.look-found-requires-2
look-found-requires-2 c = (omega arith, omega (arith, few_found c.loop-k.invariant.1))

-- `plan::check` meets its contract: refused, or the first fault by a set that has the sheet's injectors.
-- Assumes nothing.
use mathlib.Core.Path.{refl, sym, ap, ◌∙◌, fun_ext}
use mathlib.Core.Bool.{or-false}
use Prim.Native.Nat.{◌*◌}
use native.Mathlib.Omega.{arith}
use Rattle.std.proofs.lemmas.List.{length-take-le}
use Rattle.definition.specs.Refusal.{when_done}
use Rattle.definition.proofs.Refusals.{not_done}
use Rattle.refusals.proofs.Judged.{not_zero}
use Rattle.plan_definition.specs.declared.Verdict.TheVariants.{Refused}
use Rattle.sheet_definition.specs.Sheet.{cut}
use Rattle.plan_definition.specs.Well.{wells_from, wells}
use Rattle.plan_definition.specs.Check.{first_fault, check_refusals, verdict}
use Rattle.plan_definition.proofs.Verdicts.{room}
use Rattle.plan_numbers.proofs.Numbers.{none_has}
use Rattle.plan.specs.Sets.{plus_injectors}
use Rattle.plan.proofs.Passed.{front-wells}
use Rattle.plan.proofs.check.Goals as goal

pub returns-in-Err : goal.returns-in-Err
unfolding verdict check_refusals
returns-in-Err c =
    ap Refused (c.from-in-Err.ensures ∙ c.from.ensures ∙ c.in-Err.ensures)
    ∙ sym (not_done _ _ _ (λ z. not_zero c.in-Err.refusal (c.in-Err.ensures ∙ z)))

-- without records nothing is at fault
pub returns-then-n-eq0 : goal.returns-then-n-eq0
unfolding verdict check_refusals when_done first_fault wells wells_from cut
returns-then-n-eq0 c = rw (sym c.in_default.ensures, c.if-n-eq0.true) refl

-- an empty set with the sheet's injectors has these alone
pub first_broken-requires : goal.first_broken-requires
unfolding plus_injectors
first_broken-requires c = c.put_injectors.ensures ∙ fun_ext (λ k. rw (none_has 1024 k) (or-false _))

pub returns : goal.returns
unfolding verdict check_refusals when_done
returns c =
    let a = c.args in
    rw (sym c.in_default.ensures)
    (c.first_broken.ensures ∙ ap (λ ws. first_fault ws ws) (front-wells a.n a.sheet.now ((room _ _).0 (sym c.in_default.ensures)).1))

-- there is room for the records
pub overflow_mul-records : goal.overflow_mul-records
unfolding check_refusals
overflow_mul-records c = omega (arith, ((room _ _).0 (sym c.in_default.ensures)).0)

pub slice_bounds-records-end : goal.slice_bounds-records-end
unfolding check_refusals
slice_bounds-records-end c = sym (length-take-le (40 * c.args.n) c.args.sheet.now ((room _ _).0 (sym c.in_default.ensures)).1)

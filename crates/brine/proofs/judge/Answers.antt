-- `brine::judge` meets its contract: 13, 5 and 25 in turn, and of counts that none is over the sum fits.
-- Assumes nothing.
use mathlib.Core.Path.{◌≡◌, sym, ◌∙◌}
use mathlib.Core.List.{[], ◌∷◌}
use Prim.Native.Nat.{◌^◌, ◌<◌, ◌≤◌}
use native.Mathlib.Omega.{arith}
use borrow.Author.Rules.{rules}
use Rattle.std.specs.List.{sum as std_sum}
use Rattle.refusals.proofs.Judged.{refused, passed}
use Rattle.brine_definition.specs.Count.{sum}
use Rattle.brine_sheet.proofs.Rows.{summed}
use Rattle.brine.proofs.Counts.{any_over, sum_small, in_turn}
use Rattle.brine.proofs.judge.Goals as goal

pub returns-in_err-when : goal.returns-in_err-when
returns-in_err-when c =
    let a = c.args in
    refused _ _ (_ ∷ []) (_ ∷ _ ∷ _ ∷ []) c.from_residual.ensures.1 c.in_err-when.ensures ∙ sym (in_turn a.sheets a.counts.now a.intake a.spare)

pub returns-in_err-when-2 : goal.returns-in_err-when-2
returns-in_err-when-2 c =
    let a = c.args in
    refused _ _ (_ ∷ []) (_ ∷ _ ∷ []) c.from_residual-in_err-when-2.ensures.1 (rw (c.one_over.ensures, ← any_over a.counts.now) at c.in_err-when-2.ensures)
    ∙ sym (in_turn a.sheets a.counts.now a.intake a.spare ∙ passed (_ ∷ []) (_ ∷ _ ∷ _ ∷ []) (omega arith) c.in_ok-when.ensures)

-- the sum is small
small : (c : goal.After-sum-total) → sum c.args.counts.now ≤ 65536
small c =
    let counts = c.args.counts.now in
    sum_small counts c.in_ok-when.ensures (rw (c.one_over.ensures, ← any_over counts) at c.in_ok-when-2.ensures)

pub sum-total-requires-clause-fits : goal.sum-total-requires-clause-fits
sum-total-requires-clause-fits c =
    let counts = c.args.counts.now in
    let few = sum_small counts c.in_ok-when.ensures (rw (c.one_over.ensures, ← any_over counts) at c.in_ok-when-2.ensures) in
    let h : std_sum counts < 2 ^ 64 = omega (arith, summed counts, few) in
    search rules

pub overflow_mul-total : goal.overflow_mul-total
overflow_mul-total c =
    let counts = c.args.counts.now in
    let total : c.sum-total.result ≡ std_sum counts = search rules in
    omega (arith, summed counts, small c, total)

pub returns-in_err-when-3 : goal.returns-in_err-when-3
returns-in_err-when-3 c =
    let a = c.args in
    let total : c.sum-total.result ≡ std_sum a.counts.now = search rules in
    refused _ _ (_ ∷ []) (_ ∷ []) c.from_residual-in_err-when-3.ensures.1 (rw (total, ← summed a.counts.now) at c.in_err-when-3.ensures)
    ∙ sym (in_turn a.sheets a.counts.now a.intake a.spare ∙ passed (_ ∷ []) (_ ∷ _ ∷ _ ∷ []) (omega arith) c.in_ok-when.ensures
    ∙ passed (_ ∷ []) (_ ∷ _ ∷ []) (omega arith) (rw (c.one_over.ensures, ← any_over a.counts.now) at c.in_ok-when-2.ensures))

pub returns : goal.returns
returns c =
    let a = c.args in
    let total : c.sum-total.result ≡ std_sum a.counts.now = search rules in
    (rw (total, ← summed a.counts.now) at c.listed.ensures)
    ∙ sym (in_turn a.sheets a.counts.now a.intake a.spare ∙ passed (_ ∷ []) (_ ∷ _ ∷ _ ∷ []) (omega arith) c.in_ok-when.ensures
    ∙ passed (_ ∷ []) (_ ∷ _ ∷ []) (omega arith) (rw (c.one_over.ensures, ← any_over a.counts.now) at c.in_ok-when-2.ensures)
    ∙ passed (_ ∷ []) (_ ∷ []) (omega arith) (rw (total, ← summed a.counts.now) at c.in_ok-when-3.ensures))

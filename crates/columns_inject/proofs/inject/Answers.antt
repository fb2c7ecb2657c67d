-- `columns_inject::inject` meets its contract: past its refusals the dump is injected at the code's w.
-- Assumes nothing.
use mathlib.Core.Path.{refl, sym, ap, ◌∙◌}
use Rattle.hash_definition.specs.Said.{done}
use Rattle.hash_definition.proofs.Refused.{refused, accepted}
use Rattle.refusals.proofs.Judged.{handed_on, isnt_done}
use Rattle.columns_definition.specs.Columns.{blocks_at, inject_refusals, inject_outcome}
use Rattle.columns_definition.proofs.Calls.{due}
use Rattle.columns_inject.proofs.inject.Goals as goal

pub returns-in_err-refusal : goal.returns-in_err-refusal
unfolding inject_outcome inject_refusals
returns-in_err-refusal c =
    let r = c.from_residual.ensures.1 in
    refused _ (handed_on _ _ r ∙ c.in_err-refusal.ensures) _ _ (isnt_done _ _ r)

pub inject_at-requires : goal.inject_at-requires
unfolding blocks_at
inject_at-requires c =
    let d = due c.args.code _ _ _ _ (sym c.in_ok-refusal.ensures) in
    rw c.width.ensures (d.1, d.2)

pub returns : goal.returns
unfolding inject_outcome inject_refusals
returns c =
    ap done (rw c.width.ensures at c.inject_at.ensures) ∙ accepted _ c.in_ok-refusal.ensures _ _ refl

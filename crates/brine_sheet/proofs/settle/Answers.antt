-- `brine_sheet::settle` meets its contract. The loop's invariant: the spares passed are their rows'.
-- Assumes nothing.
use mathlib.Core.Path.{◌≡◌, sym, ◌∙◌, ap}
use mathlib.Core.List.{map-map}
use Prim.Native.Nat.{◌^◌, ◌<◌}
use native.Mathlib.Omega.{arith}
use borrow.Author.Rules.{rules}
use lib.IntN.{pos}
use lib.Signed.{lt_z}
use lib.ListN.{length, get_or}
use lib.Seq.{get_or-set_same, get_or-set_other}
use mir.Syntax.{w64}
use mir.Val.{to_z, of_z}
use mir.Facts.{to_z-of_z}
use Rattle.std.specs.List.{sum as std_sum, count_by}
use Rattle.std.proofs.Common.{below_more}
use Rattle.plan_definition.specs.Well.{wells}
use Rattle.plan_definition.proofs.Places.{well_at}
use Rattle.plan_definition.proofs.Listed.{column}
use Rattle.plan_record.proofs.Total.{well_read}
use Rattle.brine_definition.specs.declared.Statement.{Statement}
use Rattle.brine_definition.specs.Page.{rows, row_in}
use Rattle.brine_definition.specs.Statement.{intakes, spares, below_zero}
use Rattle.brine_definition.specs.Said.{row_at}
use Rattle.brine_definition.proofs.Sums.{at_most_sum}
use Rattle.plan.specs.Sets.{count_of}
use Rattle.brine_sheet.proofs.Rows.{length-rows_intakes, intake_at, spare_in, statement_of_lem, no_figures, summed, counted}
use Rattle.brine_sheet.proofs.settle.Goals as goal

pub bounds-intake-i : goal.bounds-intake-i
bounds-intake-i c = omega (arith, ap length c.requires.2, length-rows_intakes (count_of c.args.records.now) c.args.records.now, c.requires.0)

pub spare_of-requires : goal.spare_of-requires
spare_of-requires c = omega (arith, at_most_sum c.args.intake.now c.loop-i.i, c.requires.3)

pub loop-i-preserved : goal.loop-i-preserved
loop-i-preserved c =
    let l = c.loop-i in
    let n = (count_of c.args.records.now) in
    let records = c.args.records.now in
    let read : c.read.result ≡ well_at l.i records = c.read.ensures ∙ well_read records l.i (omega (arith, c.requires.0)) in
    let intake : get_or c.args.intake.now l.i 0 ≡ (row_at n l.i records).intake = rw c.requires.2 (intake_at n records l.i (omega (arith, c.requires.0))) in
    let told : to_z w64 (of_z w64 c.spare_of.result) ≡ (row_at n l.i records).spare =
    to_z-of_z {w = w64} (record { sfits = c.spare_of.type_inv }) ∙ (rw read at c.spare_of.ensures) ∙ spare_in (wells n records) c.requires.1 (well_at l.i records) _ intake in
    below_more _ _
    (λ q h. get_or-set_other l.spare l.i q _ (pos 0) (λ e. omega arith) ∙ l.invariant q h)
    (get_or-set_same l.spare l.i _ (pos 0) (omega arith) ∙ told)

pub sum-requires-clause-fits : goal.sum-requires-clause-fits
sum-requires-clause-fits c =
    let h : std_sum c.args.intake.now < 2 ^ 64 = omega (arith, summed c.args.intake.now, c.requires.3) in
    search rules

pub returns : goal.returns
unfolding intakes spares below_zero rows
returns c =
    let l = c.loop-i in
    let n = (count_of c.args.records.now) in
    let records = c.args.records.now in
    let ws = wells n records in
    let spare : l.spare ≡ spares (rows ws) =
    column n records (λ w. (row_in ws w).spare) (pos 0) l.spare (omega (arith, l.auto.spare, c.requires.0)) (λ q h. l.invariant q (omega (arith, l.auto.spare, c.requires.0)))
    ∙ sym (map-map (λ r. r.spare) (row_in ws) ws) in
    let total : c.sum.result ≡ std_sum c.args.intake.now = search rules in
    let many : c.count.result ≡ count_by (λ s. lt_z s (pos 0)) l.spare = search rules in (
      ap (λ (d : Statement). record { number = d.number; sound = 1; faulted = d.faulted; intake = c.sum.result; overloaded = c.count.result }) (no_figures c.default.result c.default.ensures)
          ∙ rw (statement_of_lem _ c.requires.1, total, many, ← spare, ← c.requires.2, summed c.args.intake.now, counted below_zero l.spare),
      spare,
    )

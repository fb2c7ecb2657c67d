-- `plan_record::read` meets its contract, with a whole record at the place and without.
-- Assumes nothing.
use mathlib.Core.Path.{◌≡◌, sym, ◌∙◌}
use Prim.Native.Nat.{◌+◌, ◌-◌, ◌*◌, ◌<◌, ◌≤◌}
use native.Mathlib.Omega.{arith}
use lib.ListN.{length}
use Rattle.plan_definition.proofs.Links.{no_links}
use Rattle.plan_record.specs.Total.{no_well}
use Rattle.plan_record.proofs.Total.{well_read, none_read}
use Rattle.plan_record.proofs.read.Goals as goal

pub returns-then-sheet-place : goal.returns-then-sheet-place
unfolding no_well
returns-then-sheet-place c =
    let a = c.args in
    let h : length a.sheet.now < 40 * (a.place + 1) = omega arith in
    let d = c.default.ensures in
    (λ i. record {
      place = a.place;
      number = d.1.0 i;
      kind = d.1.1.0 i;
      count = d.1.1.1.0 i;
      rate = d.1.1.1.1.0 i;
      links = no_links c.default.result.links d.1.1.1.1.1.0 i;
      noted = d.1.1.1.1.1.1 i;
    }) ∙ sym (none_read a.sheet.now a.place h)

pub returns : goal.returns
returns c =
    let a = c.args in
    let h : 40 * (a.place + 1) ≤ length a.sheet.now = omega arith in
    let e : 40 * a.place + 40 - 40 * a.place ≡ 40 = omega arith in
    (rw e at c.well.ensures) ∙ sym (well_read a.sheet.now a.place h)

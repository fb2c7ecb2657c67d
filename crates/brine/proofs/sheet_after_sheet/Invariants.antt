-- The invariants of `brine::sheet_after_sheet`.
use mathlib.Core.Path.{◌≡◌}
use Rattle.brine.proofs.Upto.{Upto}
use Rattle.brine.proofs.sheet_after_sheet.Given as goal

abbrev pub invariant-loop-n : goal.invariant-loop-n
invariant-loop-n l = record {
  number : l.all.number ≡ 0;
  upto : Upto l.sheets l.counts l.initial.intake l.initial.spare l.n-index l.at l.all l.intake l.spare;
}

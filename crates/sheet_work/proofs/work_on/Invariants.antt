-- The invariants of `sheet_work::work_on`.
use mathlib.Core.Path.{◌≡◌}
use lib.ListN.{length}
use Rattle.sheet_work.proofs.Groups.{ahead}
use Rattle.sheet_work.proofs.work_on.Given as goal

abbrev pub invariant-loop-k : goal.invariant-loop-k
invariant-loop-k l =
    (length l.marks ≡ length l.initial.marks) × (ahead l.w l.n l.sheet l.k l.c l.marks ≡ ahead l.w l.n l.sheet l.m l.initial.c l.initial.marks)

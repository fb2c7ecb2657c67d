-- The invariants of `mend::mend`.
use mathlib.Core.Path.{◌≡◌}
use Prim.Native.Nat.{◌+◌, ◌*◌, ◌/◌, ◌≤◌}
use lib.ListN.{length}
use Rattle.sheet_definition.specs.Sheet.{most, record_bytes, mark_words}
use Rattle.mend.proofs.Upto.{Upto}
use Rattle.mend.proofs.mend.Given as goal

abbrev pub invariant-loop-k : goal.invariant-loop-k
invariant-loop-k l =
    ((l.n ≤ most) × (record_bytes * l.n ≤ length l.sheet) × (mark_words * (l.n / 4 + 1) ≤ length l.initial.marks) × (length l.marks ≡ length l.initial.marks))
    × Upto (record { code = l.code; n = l.n; sheet = l.sheet; marks = l.initial.marks }) l.k l.c l.found l.marks

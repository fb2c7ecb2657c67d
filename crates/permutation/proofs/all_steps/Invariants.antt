-- The invariants of `permutation::all_steps`.
use Rattle.std.proofs.Common.{◌≡◌, ◌≤◌}
use Rattle.permutation.specs.Lanes.{fifth_after}
use Rattle.permutation.proofs.Lanes.{lanes_after}
use Rattle.permutation.proofs.all_steps.Given as goal

abbrev pub invariant-loop : goal.invariant-loop
invariant-loop l =
    record {
      ends : l.counter ≤ 8;
      lanes : l.v ≡ lanes_after l.counter l.initial.v;
      fifth : l.e ≡ fifth_after l.counter l.fifth l.initial.e;
    }

-- The invariants of `injection_back::unring`.
use Rattle.std.proofs.Common.{◌≡◌, ◌≤◌, length, drop}
use Rattle.injection_back.proofs.Rings.{next, solved}
use Rattle.injection_back.proofs.unring.Given as goal

abbrev pub invariant-loop-j : goal.invariant-loop-j
invariant-loop-j g l =
    record {
      ends : l.j ≤ length l.y;
      room : length l.e ≡ length l.y;
      rest : drop l.j l.e ≡ solved l.initial.last (drop l.j l.y);
      last : l.last ≡ next l.initial.last (drop l.j l.y);
    }

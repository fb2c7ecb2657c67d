-- The invariant of `rounds::absorb`.
use Rattle.std.proofs.Common.{◌≡◌}
use Rattle.std.specs.Slice.Iter.{chunks_exact_rest, chunks_exact_size}
use Rattle.definition.specs.Padding.{blocks}
use Rattle.definition.specs.Counted.{counted_chain}
use Rattle.rounds.proofs.absorb.Given as goal

abbrev pub invariant-loop-m : goal.invariant-loop-m
invariant-loop-m l =
    record {
      size : chunks_exact_size l.m-iterator ≡ 32;
      left : counted_chain l.w l.d (blocks (chunks_exact_rest l.m-iterator)) ≡ counted_chain l.w l.fn.c (blocks l.s);
    }

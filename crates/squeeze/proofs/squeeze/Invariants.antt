-- The invariant of `squeeze::squeeze`.
use mathlib.Core.Path.{◌≡◌}
use lib.ListN.{take}
use Rattle.definition.specs.Word.{bytes_of_all}
use Rattle.definition.specs.State.{blocks_in}
use Rattle.definition.specs.Final.{outputs}
use Rattle.definition.specs.Buffer.{overwrite}
use Rattle.squeeze.proofs.Words.{blanks}
use Rattle.squeeze.proofs.squeeze.Given as goal

abbrev pub invariant-loop-k : goal.invariant-loop-k
invariant-loop-k l =
    record {
      rounds : l.d ≡ blanks l.w l.fn.c l.k;
      words : l.out ≡ overwrite (bytes_of_all (take l.n (outputs l.w l.k (blocks_in l.w l.fn.c.state)))) l.fn.out;
    }

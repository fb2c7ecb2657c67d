-- `hash_record::waiting` meets its contract: the last byte decides the count modulo 32.
-- Assumes nothing.
use mathlib.Core.Path.{◌≡◌}
use mathlib.Core.List.{List}
use Prim.Native.Nat.{ℕ, ◌%◌}
use native.Mathlib.Omega.{arith}
use borrow.Author.Tests.{eq-eqb, ne_eqb}
use lib.ListN.{get_or}
use lib.Seq.{get_or-drop}
use Rattle.definition.specs.Word.{word_of}
use Rattle.definition.specs.Block.{word_at}
use Rattle.definition.specs.Refusal.{pick}
use Rattle.hash_definition.specs.Record.{count_of, bytes_fed, pending_count, number_at, decode}
use Rattle.hash_record.specs.Reading.{waiting_of}
use Rattle.hash_record.proofs.waiting.Goals as goal

-- every other byte of the count stands for a multiple of 32
last : (b : List ℕ) → get_or b 215 0 % 32 ≡ pending_count (decode b)
unfolding pending_count bytes_fed count_of decode number_at word_at word_of
last b = omega (arith, get_or-drop 212 b 3 0)

pub returns-in-Err : goal.returns-in-Err
unfolding waiting_of pick
returns-in-Err c = rw (ne_eqb _ _ c.in-Err.ensures.1)

pub returns-in-Ok : goal.returns-in-Ok
unfolding waiting_of pick
returns-in-Ok c =
    let r = c.in-Ok.ensures.1 in
    rw (eq-eqb _ _ r.long, c.from.ensures, r.same) (last c.args.b.now)

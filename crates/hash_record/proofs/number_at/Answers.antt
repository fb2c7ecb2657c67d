-- `hash_record::number_at` meets its contract: two words, the high one first.
-- Assumes nothing.
use mathlib.Core.Path.{◌∙◌}
use Prim.Native.Nat.{◌+◌, ◌-◌, ◌*◌, ◌^◌, ◌<◌}
use native.Mathlib.Nat.{mod-eq_of_lt}
use native.Mathlib.Omega.{arith}
use Rattle.hash_definition.specs.Record.{number_at}
use Rattle.hash_record.proofs.Places.{part_word}
use Rattle.hash_record.proofs.number_at.Goals as goal

pub returns : goal.returns
unfolding number_at
returns c =
    let b = c.args.b.now in
    let i = c.args.i in
    let h : c.from-high.result * 4294967296 < 2 ^ 64 = omega arith in
    rw (
      mod-eq_of_lt h,
      c.from-high.ensures ∙ c.first_word.ensures ∙ part_word b i (216 - i) (omega arith) (omega arith),
      c.from-low.ensures ∙ c.first_word-2.ensures ∙ part_word b (i + 4) (216 - (i + 4)) (omega arith) (omega arith),
    )

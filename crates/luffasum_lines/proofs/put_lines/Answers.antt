-- `luffasum_lines::put_lines` meets its contract: four lines, one behind the other.
-- Assumes nothing.
use mathlib.Core.Path.{◌∙◌}
use native.Mathlib.Omega.{arith}
use Rattle.definition.specs.Luffa.{words_at, bytes_at}
use Rattle.luffasum_lines.specs.Text.{reading_of, record_line, four_records}
use Rattle.luffasum_lines.proofs.Held.{length_pieces, four_pieces, sizes}
use Rattle.luffasum_lines.proofs.put_lines.Goals as goal

pub put_record-a-requires : goal.put_record-a-requires
unfolding bytes_at words_at
put_record-a-requires c = (omega arith, omega arith, omega arith)

pub put_record-b-requires : goal.put_record-b-requires
unfolding bytes_at words_at
put_record-b-requires c =
    (omega arith, omega arith, omega (arith, sizes (reading_of c.args.r.now)))

pub put_record-c-requires : goal.put_record-c-requires
unfolding bytes_at words_at
put_record-c-requires c =
    (omega arith, omega arith, omega (arith, sizes (reading_of c.args.r.now)))

pub put_record-requires : goal.put_record-requires
unfolding bytes_at words_at
put_record-requires c =
    (omega arith, omega arith, omega (arith, sizes (reading_of c.args.r.now)))

pub returns : goal.returns
unfolding four_records
returns c =
    let o = c.put_record.ensures in
    let y = c.put_record-c.ensures in
    let x = c.put_record-b.ensures in
    let w = c.put_record-a.ensures in
    let r = reading_of c.args.r.now in
    let l = sizes r in (
      omega (arith, o.0, y.0, x.0, w.0, length_pieces (record_line 1 2 r.two) (record_line 2 2 r.two) (record_line 3 3 r.three) (record_line 4 4 r.four)),
      (rw (y.1, x.1, w.1) at o.1) ∙ four_pieces _ _ _ _ c.args.out.now _ _ _ w.0 x.0 y.0 (omega (arith, c.requires)),
    )

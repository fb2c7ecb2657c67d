-- `hash_record::glance` meets its contract: what is read but for the state, and the tests of a record's form.
-- Assumes nothing.
use borrow.Author.Tests.{eq-eqb, ne_eqb}
use Rattle.definition.specs.Refusal.{pick}
use Rattle.hash_definition.specs.Record.{decode, well_formed, well_kept}
use Rattle.hash_record.specs.Reading.{glance_of}
use Rattle.hash_record.proofs.glance.Goals as goal

pub returns-in-Err : goal.returns-in-Err
unfolding glance_of pick
returns-in-Err c = rw (ne_eqb _ _ c.in-Err.ensures.1, c.held.ensures, c.nothing.ensures)

pub returns-in-Ok : goal.returns-in-Ok
unfolding glance_of pick well_formed well_kept decode
returns-in-Ok c =
    let r = c.in-Ok.ensures.1 in
    rw (
      eq-eqb _ _ r.long,
      c.well_held.ensures,
      c.unused_zero.ensures,
      c.reserved_zero.ensures,
      c.held_in-held.ensures,
      c.from-code.ensures,
      r.same,
    )

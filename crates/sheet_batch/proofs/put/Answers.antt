-- `sheet_batch::put` meets its contract. The loop's invariant: what is left to write gives the whole.
-- Assumes nothing.
use mathlib.Core.Path.{◌≡◌, sym, ap, ◌∙◌}
use mathlib.Core.Logic.{inl, inr}
use Prim.Native.Nat.{◌*◌}
use native.Mathlib.Omega.{arith}
use lib.ListN.{length, length-append}
use Rattle.sheet_definition.specs.Sheet.{record_bytes}
use Rattle.octets.proofs.Total.{write_at_lem}
use Rattle.sheet_batch.proofs.Places.{none_written, one_written}
use Rattle.sheet_batch.proofs.put.Goals as goal

pub loop-place-preserved : goal.loop-place-preserved
loop-place-preserved c =
    let l = c.loop-place in
    let p = c.in-Some.place.now in
    let x = c.in-Some.record.now in
    let n = c.next.new.self in
    let s = c.in-Some.ensures.steps in
    let v = rw s.0 at l.invariant in
    let e : length x ≡ record_bytes = s.1.1.1 ∙ v.0 in
    let w = c.put_bytes.ensures ∙ write_at_lem (record_bytes * p) x l.sheet (omega (arith, v.1.0, l.auto.sheet, e)) in (
      s.1.0 ∙ v.0,
      v.1.1,
      omega (arith, v.2, e, ap length s.1.1.0, length-append x n.b.rest.now),
      rw w (sym (one_written p n.a.rest.now x n.b.rest.now l.sheet e)) ∙ rw s.1.1.0 at v.3,
    )

pub returns : goal.returns
returns c =
    let l = c.loop-place in
    let t = l.place-iterator.a.rest.now in
    let z : length t ≡ 0 = elim c.in-None.ensures.steps [ inl h ↦ h.1.0 | inr h ↦ omega (arith, h.1.1.0, l.invariant.0, l.invariant.2) ] in
    sym (none_written t l.place-iterator.b.rest.now l.sheet z) ∙ l.invariant.3

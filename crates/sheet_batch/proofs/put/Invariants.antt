-- The invariants of `sheet_batch::put`.
use mathlib.Core.Path.{◌≡◌}
use Prim.Native.Nat.{◌+◌, ◌*◌, ◌≤◌}
use lib.ListN.{length}
use Rattle.definition.specs.Buffer.{Every}
use Rattle.sheet_definition.specs.Sheet.{record_bytes}
use Rattle.sheet_definition.specs.SheetCalls.{written_at}
use Rattle.sheet_batch.proofs.put.Given as goal

abbrev pub invariant-loop-place : goal.invariant-loop-place
invariant-loop-place l =
    let t = l.place-iterator.a.rest.now in
    let x = l.place-iterator.b.rest.now in
    (l.place-iterator.b.size ≡ record_bytes)
    × (Every (λ p. record_bytes * (p + 1) ≤ length l.initial.sheet) t)
    × (length x ≡ record_bytes * length t)
    × (written_at t x l.sheet ≡ written_at l.places l.records l.initial.sheet)

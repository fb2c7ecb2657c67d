-- The invariants of `brine_sheet::send`.
use mathlib.Core.Path.{◌≡◌}
use Prim.Native.Nat.{ℕ, ◌+◌}
use lib.ListN.{length, get_or, drop}
use Rattle.brine_sheet.specs.Sent.{brought_to}
use Rattle.brine_sheet.proofs.send.Given as goal

-- what is there and what is left to bring are the whole
abbrev pub invariant-loop-l : goal.invariant-loop-l
invariant-loop-l l = record {
  long : length l.intake ≡ length l.initial.intake;
  whole : (q : ℕ) → get_or l.intake q 0 + brought_to l.places l.rate (drop l.l-index l.links) q ≡ get_or l.initial.intake q 0 + brought_to l.places l.rate l.links q;
}

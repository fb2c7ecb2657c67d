-- The invariants of `brine_sheet::send_all`.
use mathlib.Core.Path.{◌≡◌}
use Prim.Native.Nat.{ℕ, ◌+◌}
use lib.ListN.{length, get_or}
use Rattle.plan_definition.proofs.Places.{left}
use Rattle.plan.specs.Sets.{count_of, wells_of}
use Rattle.brine_sheet.specs.Sent.{sent_to}
use Rattle.brine_sheet.proofs.send_all.Given as goal

-- what is there and what the wells left send are the whole
abbrev pub invariant-loop-i : goal.invariant-loop-i
invariant-loop-i l = record {
  long : length l.intake ≡ length l.initial.intake;
  whole : (q : ℕ) → get_or l.intake q 0 + sent_to l.places (left l.i (count_of l.records) l.records) q ≡ get_or l.initial.intake q 0 + sent_to l.places (wells_of l.records) q;
}

-- `hash_kept::well_held` meets its contract: the bits after the pending ones are the rest of a byte and the bytes after it.
-- Assumes nothing.
use Rattle.std.proofs.Common.{◌≡◌, ℕ, ◌+◌, ◌*◌, ◌%◌, ◌≤◌, ◌&&◌, ltb, length, get_or, drop, add-one, arith, rules, le-leb}
use mathlib.Core.Bool.{and-true, and-false, and_assoc}
use borrow.Author.Tests.{lt-leb}
use Rattle.definition.specs.Luffa.{limit_at}
use Rattle.definition.specs.Padding.{bits_of_byte}
use Rattle.definition.specs.Refusal.{known}
use Rattle.hash_definition.specs.declared.Held.{Held}
use Rattle.hash_definition.specs.Record.{all_zero, count_of, well_held}
use Rattle.hash_definition.proofs.Zeros.{zero_from_bit}
use Rattle.hash_kept.proofs.well_held.Goals as goal

-- an array has its length
pending : (s : goal.After-within-under) → length s.args.h.pending ≡ 32
pending s = search rules

pub returns-then-odd-gt7 : goal.returns-then-odd-gt7
unfolding well_held
returns-then-odd-gt7 c = rw (lt-leb c.args.h.odd 7 c.if-odd-gt7.true, and-false)

-- the tests in the code's order
in_order : (code : ℕ) (h : Held) → length h.pending ≡ 32 → h.odd ≤ 7
    → known code && all_zero (drop h.odd (bits_of_byte (get_or h.pending (h.low % 32) 0))) && all_zero (drop (h.low % 32 + 1) h.pending) && ltb (8 * count_of h.high h.low + h.odd) (limit_at code)
    ≡ well_held code h
unfolding well_held
in_order code h n o =
    let e : count_of h.high h.low % 32 ≡ h.low % 32 = unfold count_of in omega arith in
    rw (le-leb h.odd 7 o, and-true, e, zero_from_bit h.pending (h.low % 32) h.odd (omega arith) o, add-one (h.low % 32), ← and_assoc (known code))

pub returns : goal.returns
returns c =
    rw (c.known-known.ensures, c.low_zero-low.ensures, c.zero_from-after.ensures, c.within-under.ensures, c.count.ensures)
    (in_order c.args.code c.args.h (pending c) c.if-odd-gt7.false)

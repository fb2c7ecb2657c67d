-- The hypotheses of the laws of who depends on a well can be met: in the line of the examples, from its end with two hops, and among struck records.
-- Assumes nothing.
use mathlib.Core.Path.{◌≡◌, refl}
use mathlib.Core.List.{List}
use Prim.Native.Nat.{ℕ, ◌<◌}
use native.Mathlib.Decide.{dec_lt}
use native.Mathlib.Omega.{arith}
use lib.Dec.{ltb, ltb→lt}
use lib.ListN.{get_or, replicate, get_or-eq_default}
use Rattle.definition.specs.Buffer.{joined}
use Rattle.definition.proofs.Cases.{at_below}
use Rattle.plan_definition.specs.Well.{wells}
use Rattle.plan_definition.proofs.Places.{well_at}
use Rattle.reach_definition.specs.Chain.{Joined}
use Rattle.reach_definition.proofs.Outcomes.{given}
use Rattle.reach_definition.proofs.Refused.{none_refused, zero_absent}
use Rattle.reach_definition.proofs.Marked.{byte_after, Named, named_well, marked_exactly, struck_unmarked, number-whole, more_hops, both_ways}
use Rattle.reach_definition.proofs.Examples.{row, thinned}
use Rattle.reach_definition.proofs.Computed.{everything}

abbrev pub sheet : List ℕ
sheet = joined row

pub line-accepted : given sheet 5 1 2 (replicate 5 9) ≡ 0
unfolding everything joined
line-accepted = refl

-- producer 3, at place 0, is marked
marked : byte_after sheet 5 1 2 (replicate 5 9) 0 ≡ 1
unfolding everything joined
marked = refl

-- so two links join it to producer 1: marked-exactly
pub joined_by_two : Joined (wells 5 sheet) 2 (named_well sheet 5 1 2 (replicate 5 9) line-accepted).well (well_at 0 sheet)
joined_by_two =
    (marked_exactly sheet 5 1 2 (replicate 5 9) line-accepted 0 (omega arith) (named_well sheet 5 1 2 (replicate 5 9) line-accepted)).0 marked

-- with a hop more it is marked still: more-hops
pub marked_still : byte_after sheet 5 1 3 (replicate 5 9) 0 ≡ 1
marked_still = more_hops sheet 5 1 2 3 (replicate 5 9) (omega arith) (omega arith) line-accepted 0 (omega arith) marked

-- and marks producer 1, at place 3, back: both-ways
pub marked_back : byte_after sheet 5 3 2 (replicate 5 9) 3 ≡ 1
unfolding everything joined
marked_back = (both_ways sheet 5 2 (replicate 5 9) 3 0 (omega arith) (omega arith) refl refl).1

-- its bytes are bytes, so 65,539 names nobody, and not producer 3: number-whole
line-bytes : (i : ℕ) → get_or sheet i 0 < 256
unfolding joined
line-bytes i =
    elim (dec_lt i 200) [
      | yes h ↦ ltb→lt _ 256 (at_below 200 (λ i. ltb (get_or sheet i 0) 256) tt i h)
      | no h ↦ rw (get_or-eq_default sheet 0 {n = i} (omega arith)) (omega arith)
    ]

pub nobody : Named sheet 5 65539 → ⊥
nobody = number-whole sheet 5 65539 line-bytes (omega arith)

-- injector 2 among struck records: struck-unmarked, zero-absent
pub thinned_accepted : given (joined thinned) 5 2 3 (replicate 5 9) ≡ 0
unfolding everything joined
thinned_accepted = refl

pub first_unmarked : byte_after (joined thinned) 5 2 3 (replicate 5 9) 0 ≡ 0
unfolding everything joined
first_unmarked = struck_unmarked (joined thinned) 5 2 3 (replicate 5 9) thinned_accepted 0 (omega arith) refl

pub nobody_0 : given (joined thinned) 5 0 3 (replicate 5 9) ≡ 21
nobody_0 =
    let s = (none_refused (joined thinned) 5 2 3 5).0 thinned_accepted in
    zero_absent (joined thinned) 5 3 5 s.0 s.1.0 s.1.1.0

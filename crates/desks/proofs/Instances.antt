-- Two desks, computed: five records are built, one desk changes a record of the first group and the other the record after it, in both orders. So the
-- hypotheses of the laws can be met.
-- Assumes nothing.
use mathlib.Core.Path.{◌≡◌, refl}
use mathlib.Core.List.{List, [], ◌∷◌}
use Prim.Native.Nat.{ℕ, ◌+◌}
use native.Mathlib.Omega.{arith}
use lib.ListN.{replicate}
use Rattle.sheet_definition.specs.Sheet.{World, cut}
use Rattle.sheet_definition.specs.Save.{SheetOutcome, done_with}
use Rattle.sheet_definition.specs.SheetCalls.{build_outcome, Call, call}
use Rattle.sheet_definition.specs.Run.{left}
use Rattle.sheet_definition.specs.Said.{Stands}
use Rattle.sheet_definition.proofs.Computed.{everything}
use Rattle.sheet_definition.proofs.Build.{build_laid}
use Rattle.sheet_definition.proofs.Demand3.{stands_laid}
use Rattle.sheet_definition.proofs.Instances.{ones, twos, zeros, blank}
use Rattle.desks.specs.Desks.{handed, Changing, places_of, records_of, EitherOrder, Seen, Ready}
use Rattle.desks.proofs.Desks.{made, is_made, second-accepted, both_is}
use Rattle.desks.proofs.Planners.{change_by, ready_done, two_planners}

abbrev pub opened : World
opened = left 2 (build_outcome 2 (replicate 200 0) 5 (replicate 80 0) blank)

abbrev pub records : List (List ℕ)
records = zeros ∷ zeros ∷ zeros ∷ zeros ∷ zeros ∷ []

built : (build_outcome 2 (replicate 200 0) 5 (replicate 80 0) blank).answer.number ≡ 0
unfolding everything
built = refl

pub stands : Stands opened records
unfolding everything cut
stands = stands_laid opened (build_laid 2 (replicate 200 0) 5 (replicate 80 0) blank built)

-- both are ready: ready-done, two-desks, two-planners
ready_one : Ready opened 1 ones blank
unfolding everything
ready_one = record { known-code = refl; held = omega arith; sized = refl; room = omega arith }

ready_other : Ready opened 4 twos blank
unfolding everything
ready_other = record { known-code = refl; held = omega arith; sized = refl; room = omega arith }

abbrev pub one : Call
one = change_by opened records stands 1 ones blank

abbrev pub other : Call
other = change_by opened records stands 4 twos blank

one_done : (call opened one).answer.number ≡ 0
one_done = ready_done opened records stands 1 ones blank ready_one

other_done : (call opened other).answer.number ≡ 0
other_done = ready_done opened records stands 4 twos blank ready_other

pub as_seen : Seen opened records one other
as_seen = two_planners opened records stands 1 4 ones twos blank blank ready_one ready_other (λ e. absurd (omega arith))

-- what both leave, one after the other
abbrev leaves : (a b : Call) → SheetOutcome
leaves a b = made (left opened.code (made opened a.kind blank)) b.kind blank

-- the four equalities, by evaluation
sheets : (leaves one other).sheet ≡ (leaves other one).sheet
unfolding everything places_of records_of
sheets = refl

marks : (leaves one other).marks ≡ (leaves other one).marks
unfolding everything places_of records_of
marks = refl

digests : handed opened.code (leaves one other) ≡ handed opened.code (leaves other one)
unfolding everything handed places_of records_of
digests = refl

rounds : (made opened one.kind blank).answer.rounds + (leaves one other).answer.rounds
    ≡ (made opened other.kind blank).answer.rounds + (leaves other one).answer.rounds
unfolding everything places_of records_of
rounds = refl

-- so of the calls
pub computed : EitherOrder opened one other
unfolding Changing left done_with
computed =
    let ab = both_is opened one other tt tt one_done other_done in
    let ba = both_is opened other one tt tt other_done one_done in
    record {
      accepted = (second-accepted opened one other tt tt one_done other_done, second-accepted opened other one tt tt other_done one_done);
      same_count = rw (ab, ba);
      same_sheet = rw (ab, ba) sheets;
      same_marks = rw (ab, ba) marks;
      same_digest = rw (ab, ba) digests;
      same_rounds = rw (ab, ba, is_made opened one tt one_done, is_made opened other tt other_done) rounds;
    }

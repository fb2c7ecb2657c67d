-- The hypotheses of demand 3's theorems can be met: a sheet of one record is built, one planner changes it and another is turned away, the change is
-- taken back, and the record is dropped with the old digest; a fourth record is appended to three and dropped again.
-- Assumes nothing.
use mathlib.Core.Path.{◌≡◌, refl, sym, ap, ◌∙◌}
use mathlib.Core.Bool.{false, false≢true}
use mathlib.Core.List.{List, [], ◌∷◌, ◌++◌}
use Prim.Native.Nat.{ℕ, ◌*◌}
use native.Mathlib.Nat.{zero-lt-suc}
use lib.ListN.{take, drop, replicate}
use Rattle.definition.specs.Luffa.{luffa}
use Rattle.definition.specs.Buffer.{same, joined}
use Rattle.definition.specs.Refusal.{first_of}
use Rattle.sheet_definition.specs.Sheet.{World, cut}
use Rattle.sheet_definition.specs.SheetCalls.{build_outcome, Call, save_of, call, changing, plain}
use Rattle.sheet_definition.specs.SheetCalls.Kind.{Append, Drop}
use Rattle.sheet_definition.specs.Run.{left, next, run, list_after, applied}
use Rattle.sheet_definition.specs.Said.{Stale, Stands, Laid, Restored}
use Rattle.sheet_definition.proofs.Computed.{everything}
use Rattle.sheet_definition.proofs.Writes.{same_refl}
use Rattle.sheet_definition.proofs.Outcomes.{accepted}
use Rattle.sheet_definition.proofs.Build.{build_laid}
use Rattle.sheet_definition.proofs.Demand3.{stands_laid, stands-next, laid_run, after}
use Rattle.sheet_definition.proofs.Claims.{accepted_is, change_same, change-back, two_saves, old_claim}

-- room for two records, their mark and a digest of 256 bits; records that differ
abbrev pub ones : List ℕ
ones = replicate 40 1

abbrev pub twos : List ℕ
twos = replicate 40 2

abbrev pub blank : List ℕ
blank = replicate 32 0

abbrev pub built_sheet : List ℕ
built_sheet = ones ++ replicate 40 0

abbrev pub opened : World
opened = left 2 (build_outcome 2 built_sheet 1 (replicate 40 0) blank)

-- the build is accepted, so its marks are laid and the world stands for one record: build-laid, demand3-laid
pub built : (build_outcome 2 built_sheet 1 (replicate 40 0) blank).answer.number ≡ 0
unfolding everything
built = refl

pub laid : Laid opened
laid = build_laid 2 built_sheet 1 (replicate 40 0) blank built

pub stands : Stands opened (ones ∷ [])
unfolding everything cut
stands = stands_laid opened laid

-- two plans, and the digest of the sheet that both planners opened
abbrev pub one : Call
one = changing 0 twos (luffa 2 ones) blank

abbrev pub another : Call
another = changing 0 (replicate 40 3) (luffa 2 ones) blank

-- the first change is accepted
valid_one : first_of (save_of opened one).refusals ≡ 0
unfolding everything
valid_one = refl

pub changed : (call opened one).answer.number ≡ 0
unfolding joined left
changed = (after opened one (ones ∷ []) stands).accepted.1 (valid_one, refl)

-- and leaves the sheet with the other record
abbrev pub second : World
second = next opened one

changed_is : call opened one ≡ accepted opened (save_of opened one)
changed_is = (accepted_is opened one changed).1

pub stands_changed : Stands second (twos ∷ [])
unfolding applied list_after
stands_changed = rw changed at (stands-next opened one (ones ∷ []) stands)

-- the second planner's is valid in its other arguments
room : first_of (save_of (left 2 (accepted opened (save_of opened one))) another).refusals ≡ 0
unfolding everything
room = refl

pub valid_another : first_of (save_of second another).refusals ≡ 0
unfolding next left
valid_another = rw changed_is room

-- and the two sheets have two digests, as is computed: two-saves
differ : same (luffa 2 ones) (luffa 2 twos) ≡ false
unfolding everything
differ = refl

pub two_digests : luffa 2 ones ≡ luffa 2 twos → ⊥
two_digests e = false≢true (sym differ ∙ ap (λ (d : List ℕ). same d (luffa 2 twos)) e ∙ same_refl (luffa 2 twos))

-- so it is turned away
pub turned_away_lem : Stale (call second another).answer.number
unfolding joined applied list_after left
turned_away_lem = (two_saves opened (ones ∷ []) stands one another refl changed valid_another two_digests).0

-- a change back to the old record is accepted too, and then a drop with the old digest: change-back, old-claim
abbrev pub back : Call
back = changing 0 (take 40 (drop (40 * 0) opened.sheet)) (luffa 2 twos) blank

room_back : first_of (save_of (left 2 (accepted opened (save_of opened one))) back).refusals ≡ 0
unfolding everything
room_back = refl

valid_back : first_of (save_of second back).refusals ≡ 0
unfolding next left
valid_back = rw changed_is room_back

pub changed_back : (call second back).answer.number ≡ 0
unfolding joined next left
changed_back = (after second back (twos ∷ []) stands_changed).accepted.1 (valid_back, refl)

pub restored : Restored opened.code opened.n opened.sheet blank (call second back)
restored = change-back opened 0 twos (luffa 2 ones) blank (luffa 2 twos) blank stands.marks_true changed changed_back

abbrev pub last : Call
last = plain Drop (luffa 2 ones) blank

room_last : first_of (save_of (left 2 (accepted (left 2 (accepted opened (save_of opened one))) (save_of (left 2 (accepted opened (save_of opened one))) back))) last).refusals ≡ 0
unfolding everything
room_last = refl

valid_last : first_of (save_of (next second back) last).refusals ≡ 0
unfolding next left
valid_last = rw ((accepted_is second back changed_back).1, changed_is) room_last

pub dropped : (call (next second back) last).answer.number ≡ 0
unfolding joined left
dropped = old_claim opened (ones ∷ []) stands 0 twos (luffa 2 ones) blank (luffa 2 twos) blank last changed changed_back valid_last refl

-- and a record saved as it is: change-same
pub same_record : (call opened (changing 0 (take 40 (drop (40 * 0) opened.sheet)) (luffa 2 ones) blank)).answer.number ≡ 0
unfolding everything
same_record = (change_same opened 0 (luffa 2 ones) blank stands.marks_true refl (zero-lt-suc 0) refl).0

-- the marks after such a run are those of a build: laid-run
pub as_built : Laid (run opened (one ∷ back ∷ last ∷ []))
as_built = laid_run opened laid (one ∷ back ∷ last ∷ [])

-- a fourth record appended to three, which fills a group, and dropped again: append-mark, append-others, drop-bytes, drop-mark
abbrev pub zeros : List ℕ
zeros = replicate 40 0

abbrev pub three : World
three = left 2 (build_outcome 2 (replicate 160 0) 3 (replicate 80 0) blank)

three_built : (build_outcome 2 (replicate 160 0) 3 (replicate 80 0) blank).answer.number ≡ 0
unfolding everything
three_built = refl

pub three-stands : Stands three (zeros ∷ zeros ∷ zeros ∷ [])
unfolding everything cut
three-stands = stands_laid three (build_laid 2 (replicate 160 0) 3 (replicate 80 0) blank three_built)

abbrev pub fourth : Call
fourth = plain (Append ones) (luffa 2 (joined (zeros ∷ zeros ∷ zeros ∷ []))) blank

valid_fourth : first_of (save_of three fourth).refusals ≡ 0
unfolding everything
valid_fourth = refl

pub appended : (call three fourth).answer.number ≡ 0
unfolding left
appended = (after three fourth (zeros ∷ zeros ∷ zeros ∷ []) three-stands).accepted.1 (valid_fourth, refl)

four-stands : Stands (next three fourth) (zeros ∷ zeros ∷ zeros ∷ ones ∷ [])
unfolding applied list_after
four-stands = rw appended at (stands-next three fourth (zeros ∷ zeros ∷ zeros ∷ []) three-stands)

abbrev pub dropping : Call
dropping = plain Drop (luffa 2 (joined (zeros ∷ zeros ∷ zeros ∷ ones ∷ []))) blank

room_dropping : first_of (save_of (left 2 (accepted three (save_of three fourth))) dropping).refusals ≡ 0
unfolding everything
room_dropping = refl

valid_dropping : first_of (save_of (next three fourth) dropping).refusals ≡ 0
unfolding next left
valid_dropping = rw (accepted_is three fourth appended).1 room_dropping

pub fourth_dropped : (call (next three fourth) dropping).answer.number ≡ 0
unfolding next left
fourth_dropped = (after (next three fourth) dropping (zeros ∷ zeros ∷ zeros ∷ ones ∷ []) four-stands).accepted.1 (valid_dropping, refl)

-- A planner who is told where, computed: four records whose mark 1 isn't the planner's, and a claim that isn't the digest held.
-- Assumes nothing.
use mathlib.Core.Path.{◌≡◌, refl}
use mathlib.Core.Bool.{true}
use mathlib.Core.List.{List, ◌++◌}
use Prim.Native.Nat.{ℕ}
use lib.ListN.{replicate}
use Rattle.definition.specs.Start.{start}
use Rattle.definition.specs.Width.{width_at}
use Rattle.sheet_definition.specs.declared.Found.TheVariants.{Same, Group}
use Rattle.sheet_definition.specs.Sheet.{World}
use Rattle.sheet_definition.specs.Marks.{mark_of}
use Rattle.sheet_definition.specs.Own.{used, own_refusal, shared, one_more, compared, stale_as, stale}
use Rattle.sheet_definition.specs.SheetCalls.{Call, call, where_of}
use Rattle.sheet_definition.specs.SheetCalls.Kind.{Drop}
use Rattle.sheet_definition.specs.Said.{Names, Tail}
use Rattle.sheet_definition.proofs.Computed.{everything}
use Rattle.sheet_definition.proofs.Instances.{blank}
use Rattle.sheet_definition.proofs.Owned.{bringing, named, tail}

-- the marks of four records: mark 0, and any words as mark 1
abbrev pub marked : (word : ℕ) → List ℕ
marked word = mark_of (start (width_at 2)) ++ replicate 40 word

abbrev pub four : (word : ℕ) → World
four word = record { code = 2; n = 4; sheet = replicate 160 0; marks = marked word }

-- the planner's mark 1 is another, or the same: named, tail
abbrev pub late : (word : ℕ) → Call
late word = bringing (four 1) (four word) Drop blank blank

told_group : (where_of (four 1) (late 2)).found ≡ Group 0
unfolding everything used own_refusal shared one_more compared stale_as stale where_of
told_group = refl

pub told_named : Names (four 1) (four 2) (late 2) 0
told_named = named (four 1) (four 2) Drop blank blank 0 told_group

told_same : (stale (call (four 1) (late 1)).answer.number ≡ true) × ((where_of (four 1) (late 1)).found ≡ Same)
unfolding everything used own_refusal shared one_more compared stale_as stale where_of
told_same = (refl, refl)

pub told_tail : Tail (four 1) (four 1) (late 1)
told_tail = tail (four 1) (four 1) Drop blank blank told_same.0 told_same.1

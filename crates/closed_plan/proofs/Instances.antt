-- The hypotheses of these laws can be met: a producer, a struck record and an injector, closed up.
-- Assumes nothing.
use mathlib.Core.Path.{◌≡◌, refl}
use mathlib.Core.List.{List, [], ◌∷◌}
use Prim.Native.Nat.{ℕ}
use lib.ListN.{replicate}
use Rattle.definition.specs.Luffa.{luffa}
use Rattle.definition.specs.Buffer.{joined}
use Rattle.definition.specs.Refusal.{first_of}
use Rattle.sheet_definition.specs.Sheet.{World}
use Rattle.sheet_definition.specs.SheetCalls.{build_outcome, Call, save_of, call, closing_up}
use Rattle.sheet_definition.specs.Run.{left, next}
use Rattle.sheet_definition.specs.Said.{Stands}
use Rattle.sheet_definition.proofs.Computed.{everything}
use Rattle.sheet_definition.proofs.Build.{build_laid}
use Rattle.sheet_definition.proofs.Demand3.{stands_laid, after}
use Rattle.sheet_definition.proofs.Instances.{blank, zeros}
use Rattle.plan_definition.specs.declared.Verdict.TheVariants.{Sound}
use Rattle.plan_definition.specs.Well.{wells}
use Rattle.plan_definition.specs.Check.{verdict}
use Rattle.plan_definition.proofs.Computed.{everything as plans}
use Rattle.plan_definition.proofs.Examples.{inj, prod}
use Rattle.closed_plan.specs.Closed.{SamePlan}
use Rattle.closed_plan.proofs.Closed.{closed_plan, still_sound}

abbrev pub records : List (List ℕ)
records = prod 1 ((2, 1000) ∷ []) ∷ zeros ∷ inj 2 ∷ []

abbrev pub opened : World
opened = left 2 (build_outcome 2 (joined records) 3 (replicate 40 0) blank)

built : (build_outcome 2 (joined records) 3 (replicate 40 0) blank).answer.number ≡ 0
unfolding everything joined
built = refl

opened-stands : Stands opened records
unfolding everything joined
opened-stands = stands_laid opened (build_laid 2 (joined records) 3 (replicate 40 0) blank built)

abbrev pub closing : Call
closing = closing_up (7 ∷ 7 ∷ 7 ∷ []) (luffa 2 (joined records)) blank

valid : first_of (save_of opened closing).refusals ≡ 0
unfolding everything joined
valid = refl

pub closed : (call opened closing).answer.number ≡ 0
unfolding left
closed = (after opened closing records opened-stands).accepted.1 (valid, refl)

pub was_sound : verdict opened.sheet opened.n ≡ Sound
unfolding everything plans joined
was_sound = refl

pub same : SamePlan (wells opened.n opened.sheet) (wells (next opened closing).n (next opened closing).sheet)
same = closed_plan opened (7 ∷ 7 ∷ 7 ∷ []) (luffa 2 (joined records)) blank closed

pub is_sound : verdict (next opened closing).sheet (next opened closing).n ≡ Sound
is_sound = (still_sound opened (7 ∷ 7 ∷ 7 ∷ []) (luffa 2 (joined records)) blank closed).1 was_sound

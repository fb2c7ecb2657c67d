-- The hypotheses of the statement's laws can be met: a sound sheet whose producer sends, a batch that isn't refused, two batches that differ within
-- a faulted sheet, and a struck record.
-- Assumes nothing.
use mathlib.Core.Path.{◌≡◌, refl, ap}
use mathlib.Core.List.{List, [], ◌∷◌, ◌++◌}
use Prim.Native.Nat.{ℕ, ◌+◌}
use native.Mathlib.Omega.{arith}
use lib.IntN.{ℤ, pos, neg_ℤ}
use lib.ListN.{get_or, replicate}
use Rattle.definition.specs.Buffer.{joined}
use Rattle.sheet_definition.specs.Sheet.{cut}
use Rattle.plan_definition.specs.Well.{wells}
use Rattle.plan_definition.proofs.Examples.{well, gone}
use Rattle.plan_definition.proofs.Instances.{plan, plan_sound}
use Rattle.brine_definition.specs.Count.{sum}
use Rattle.brine_definition.specs.Page.{rows}
use Rattle.brine_definition.specs.Statement.{batch, intakes, statement_of, brine_outcome}
use Rattle.brine_definition.specs.Said.{before, AnswerFits, OneMore}
use Rattle.brine_definition.specs.Said.Alike.{none, equal, faulted}
use Rattle.brine_definition.proofs.Conserved.{conserved}
use Rattle.brine_definition.proofs.Outcomes.{given}
use Rattle.brine_definition.proofs.Rows.{spare_at, struck-row}
use Rattle.brine_definition.proofs.Figures.{answer_fits}
use Rattle.brine_definition.proofs.Faulted.{own_count_only, content_unread}
use Rattle.brine_definition.proofs.Computed.{everything}

-- the plan of the check's instances, a producer of 100 tonnes and its injector: conserved
pub plan_conserved : sum (intakes (rows (wells 2 plan))) ≡ 100000
unfolding wells everything joined
plan_conserved = conserved (cut 2 plan) plan_sound.2

-- the plan and behind it a sheet with a well of number 0, which is faulted whatever the well's rate
abbrev pub spoilt : (rate : ℕ) → List ℕ
spoilt rate = plan ++ well 0 2 0 rate []

abbrev pub counts : List ℕ
counts = 2 ∷ 1 ∷ []

-- it isn't refused: answer-fits, and spare-at for the plan's injector
pub not_refused : (rate : ℕ) → given (spoilt rate) counts (replicate 3 9) (replicate 3 (pos 9)) ≡ 0
unfolding everything joined
not_refused rate = refl

pub spoilt_fits : AnswerFits (statement_of (batch counts (spoilt 1)))
spoilt_fits = answer_fits (spoilt 1) counts (replicate 3 9) (replicate 3 (pos 9)) (not_refused 1)

pub spare_below_zero : get_or (brine_outcome (spoilt 1) counts (replicate 3 9) (replicate 3 (pos 9))).spare (before counts 0 + 1) (pos 0)
    ≡ neg_ℤ (pos 50000)
unfolding everything joined
spare_below_zero =
    spare_at (spoilt 1) counts (replicate 3 9) (replicate 3 (pos 9)) (not_refused 1) 0 1 (omega arith) (omega arith)

-- without the spoilt sheet: own-count-only
pub one_more : OneMore (statement_of (wells 2 plan ∷ wells 1 (well 0 2 0 1 []) ∷ [])) (statement_of (wells 2 plan ∷ []))
unfolding everything
one_more = own_count_only (wells 1 (well 0 2 0 1 [])) refl (wells 2 plan ∷ []) []

-- with another rate in it: content-unread
pub other-bytes : spoilt 1 ≡ spoilt 2 → ⊥
unfolding joined
other-bytes e = let z : ◌≡◌ {A = ℕ} 1 2 = ap (λ (l : List ℕ). get_or l 87 0) e in omega arith

pub one_outcome : (intake : List ℕ) (spare : List ℤ) → brine_outcome (spoilt 1) counts intake spare ≡ brine_outcome (spoilt 2) counts intake spare
unfolding everything joined
one_outcome intake spare = content_unread (spoilt 1) (spoilt 2) counts intake spare refl (equal (faulted refl refl refl none))

-- a struck record before the plan, in a sheet that isn't refused: struck-row
abbrev pub thinned : List ℕ
thinned = gone ++ plan

pub struck-zeros : (get_or (brine_outcome thinned (3 ∷ []) (replicate 3 9) (replicate 3 (pos 9))).intake 0 0 ≡ 0)
    × (get_or (brine_outcome thinned (3 ∷ []) (replicate 3 9) (replicate 3 (pos 9))).spare 0 (pos 0) ≡ pos 0)
unfolding everything joined
struck-zeros = struck-row thinned (3 ∷ []) (replicate 3 9) (replicate 3 (pos 9)) refl 0 0 (omega arith) (omega arith) refl

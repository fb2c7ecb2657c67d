-- The hypotheses of the check's laws can be met: a sound sheet, a faulted one, two sheets that differ where it isn't read, and a struck record beside
-- one that isn't.
-- Assumes nothing.
use mathlib.Core.Path.{◌≡◌, refl, sym, ap, ◌∙◌}
use mathlib.Core.Bool.{Bool}
use mathlib.Core.List.{List, [], ◌∷◌, ◌++◌}
use Prim.Native.Nat.{ℕ, zero, suc, ◌+◌, ◌*◌, ◌<◌, ◌≤◌}
use native.Mathlib.Omega.{arith}
use lib.Dec.{eqb, eqb→eq}
use lib.ListN.{length, get_or, take, drop, replicate}
use Rattle.definition.specs.Buffer.{joined}
use Rattle.definition.specs.Refusal.{first_of}
use Rattle.sheet_definition.specs.Struck.{all_zero}
use Rattle.definition.proofs.Cases.{every_below, at_below}
use Rattle.plan_definition.specs.declared.Rule.{Rule}
use Rattle.plan_definition.specs.declared.Rule.TheVariants.{Number, Repeat}
use Rattle.plan_definition.specs.declared.Verdict.TheVariants.{Sound, Fault}
use Rattle.plan_definition.specs.Well.{wells}
use Rattle.plan_definition.specs.Rules.{rule_number, rules_at}
use Rattle.plan_definition.specs.Sound.{Sound as SoundSheet}
use Rattle.plan_definition.specs.Check.{verdict}
use Rattle.plan_definition.proofs.Faults.{FirstFault}
use Rattle.plan_definition.proofs.Struck.{number_0}
use Rattle.plan_definition.proofs.Places.{well_at}
use Rattle.plan_definition.proofs.Verdicts.{sound_exactly, fault_exactly, struck_exempt}
use Rattle.plan_definition.proofs.Elsewhere.{elsewhere}
use Rattle.plan_definition.proofs.Computed.{everything}
use Rattle.plan_definition.proofs.Examples.{prod, inj, gone, all_but, content_examples}

-- a producer and its injector make a sound sheet: sound-exactly
abbrev pub plan : List ℕ
plan = joined (prod 1 ((2, 1000) ∷ []) ∷ inj 2 ∷ [])

pub plan_sound : (2 ≤ 1024) × (40 * 2 ≤ length plan) × SoundSheet (wells 2 plan)
plan_sound = (sound_exactly plan 2).0 content_examples.producer_and_injector

-- under one number the injector, at the later place, is the first fault: fault-exactly
abbrev pub repeated : List ℕ
repeated = joined (prod 2 ((2, 1000) ∷ []) ∷ inj 2 ∷ [])

pub repeated_faulty : (2 ≤ 1024) × (40 * 2 ≤ length repeated) × FirstFault (wells 2 repeated) Repeat 1
repeated_faulty = (fault_exactly repeated 2 Repeat 1).0 content_examples.repeat_across_kinds

-- the same plan with another note and a byte behind it: elsewhere
abbrev pub noted : List ℕ
noted = joined ((take 24 (prod 1 ((2, 1000) ∷ [])) ++ replicate 16 7) ∷ inj 2 ∷ (9 ∷ []) ∷ [])

pub not_plan : plan ≡ noted → ⊥
unfolding joined
not_plan e = let z : ◌≡◌ {A = ℕ} 1 7 = ap (λ (l : List ℕ). get_or l 24 0) e in omega arith

pub noted-sound : verdict noted 2 ≡ Sound
unfolding joined all_zero
noted-sound =
    sym (elsewhere 2 plan noted (λ p j h k.
    eqb→eq _ _ (at_below 24 (read p) (at_below 2 (λ p. every_below 24 (read p)) tt p h) j k)) none_struck (omega arith) (omega arith))
    ∙ content_examples.producer_and_injector
  where
    none_struck : (p : ℕ) → p < 2 → all_zero (take 40 (drop (40 * p) plan)) ≡ all_zero (take 40 (drop (40 * p) noted))
    none_struck zero h = refl
    none_struck (suc zero) h = refl
    none_struck (suc (suc p)) h = absurd (omega arith)

    read : ℕ → ℕ → Bool
    read p j = eqb (get_or plan (40 * p + j) 0) (get_or noted (40 * p + j) 0)

-- a struck record, and after it one that lacks it by the last byte of its note: struck-exempt, number-0
abbrev pub nearly : List ℕ
nearly = joined (gone ∷ all_but 39 ∷ [])

pub not_struck_place : (rule : Rule) → verdict nearly 2 ≡ Fault rule 0 → ⊥
unfolding joined all_zero
not_struck_place rule = struck_exempt nearly 2 rule 0 refl

pub its_number_broken : first_of (rules_at (wells 2 nearly) (well_at 1 nearly)) ≡ rule_number Number
unfolding everything joined
its_number_broken = number_0 (wells 2 nearly) (well_at 1 nearly) refl refl

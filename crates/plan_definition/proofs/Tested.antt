-- Whether a sheet is sound, as a test: it passes exactly where every well keeps the rules, and the check says it.
-- Assumes nothing.
use mathlib.Core.Path.{◌≡◌, refl, ap, ◌∙◌}
use mathlib.Core.Logic.Iff
use mathlib.Core.Logic.{◌↔◌}
use mathlib.Core.Bool.{true, false≢true}
use mathlib.Core.List.{List}
use Prim.Native.Nat.{ℕ, ◌*◌, ◌≤◌}
use lib.ListN.{length}
use Rattle.definition.specs.Refusal.{when_done}
use Rattle.plan_definition.specs.declared.Well.{Well}
use Rattle.plan_definition.specs.declared.Verdict.{Verdict}
use Rattle.plan_definition.specs.declared.Verdict.TheVariants.{Refused, Sound, Fault}
use Rattle.plan_definition.specs.Well.{wells}
use Rattle.plan_definition.specs.Sound.{Sound as SoundSheet}
use Rattle.plan_definition.specs.Check.{first_fault, says_sound, sound, verdict}
use Rattle.plan_definition.proofs.Faults.{none_faulty}
use Rattle.plan_definition.proofs.Verdicts.{room}

says-sound : (v : Verdict) → (says_sound v ≡ true) ↔ (v ≡ Sound)
unfolding says_sound
says-sound (Refused k) = (λ e. absurd (false≢true e), λ e. cc)
says-sound Sound = (λ e. refl, λ e. refl)
says-sound (Fault rule place) = (λ e. absurd (false≢true e), λ e. cc)

-- a sheet is sound exactly when every well keeps the rules
pub sound_tested : (ws : List Well) → (sound ws ≡ true) ↔ SoundSheet ws
unfolding sound SoundSheet
sound_tested ws = Iff.trans (says-sound (first_fault ws ws)) (none_faulty ws ws)

-- where the sheet has room for its records the check says whether it is sound
pub says : (n : ℕ) (sheet : List ℕ) (v : Verdict) → n ≤ 1024 → 40 * n ≤ length sheet → v ≡ verdict sheet n
    → says_sound v ≡ sound (wells n sheet)
unfolding verdict when_done sound
says n sheet v few fits e = ap says_sound (e ∙ rw ((room n (length sheet)).1 (few, fits)))

-- `plan::says_sound` meets its contract, case by case.
-- Assumes nothing.
use mathlib.Core.Path.{sym, ap}
use Rattle.plan_definition.specs.Check.{says_sound}
use Rattle.plan.proofs.says_sound.Goals as goal

pub returns-in-Refused : goal.returns-in-Refused
unfolding says_sound
returns-in-Refused c = ap says_sound (sym c.in-Refused.is)

pub returns-in-Sound : goal.returns-in-Sound
unfolding says_sound
returns-in-Sound c = ap says_sound (sym c.in-Sound.is)

pub returns-in-Fault : goal.returns-in-Fault
unfolding says_sound
returns-in-Fault c = ap says_sound (sym c.in-Fault.is)

-- `injection_back::share` meets its contract: the sum divided by 3, or the sum itself.
-- Assumes nothing.
use Rattle.std.proofs.Common.{⊎_elim, sym}
use Rattle.definition.proofs.Field.{times_one}
use Rattle.injection_back.proofs.share.Goals as goal

pub returns-in-W3 : goal.returns-in-W3
returns-in-W3 c = ⊎_elim (λ e. rw e c.times.ensures) (λ e. rw e c.times.ensures) c.in-W3.is

pub returns-in-W4 : goal.returns-in-W4
returns-in-W4 c = rw c.in-W4.is (sym (times_one _))

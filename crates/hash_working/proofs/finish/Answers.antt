-- `hash_working::finish` meets its contract: the digest's words.
-- Assumes nothing.
use mathlib.Core.Path.{ap}
use Rattle.definition.specs.Luffa.{bytes_at}
use Rattle.definition.specs.Refusal.{when_done}
use Rattle.refusals.proofs.Judged.{handed_on}
use Rattle.hash_definition.specs.Record.{finished}
use Rattle.hash_definition.specs.Calls.{outcome}
use Rattle.hash_definition.specs.Lent.{lent_finish_refusals, lent_finish_outcome}
use Rattle.hash_definition.specs.Output.{output_by}
use Rattle.hash_definition.specs.Said.{as_digest}
use Rattle.hash_working.proofs.finish.Goals as goal

pub returns-in_err-put_out : goal.returns-in_err-put_out
unfolding lent_finish_outcome lent_finish_refusals outcome output_by when_done bytes_at finished
returns-in_err-put_out c = rw (handed_on _ _ c.from_residual.ensures.1) (ap as_digest (rw c.words.ensures at c.in_err-put_out.ensures))

pub returns : goal.returns
unfolding lent_finish_outcome lent_finish_refusals outcome output_by when_done bytes_at finished
returns c = ap as_digest (rw c.words.ensures at c.in_ok-put_out.ensures)

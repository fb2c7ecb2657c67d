-- `hash_back::back` meets its contract: a record is stepped back as what one reading of it gives, and written where that is done.
-- Assumes nothing.
use Rattle.std.proofs.Common.{◌≡◌, ℕ, List, [], ◌∷◌, length, ap, ◌∙◌}
use Rattle.definition.specs.Refusal.{when_done}
use Rattle.definition.proofs.Refusals.{not_done}
use Rattle.refusals.proofs.Judged.{not_zero, handed_on}
use Rattle.hash_definition.specs.declared.Lent.{Lent}
use Rattle.hash_definition.specs.Said.{done}
use Rattle.hash_record.specs.Reading.{reading, written}
use Rattle.hash_record.proofs.Altered.{altered_read}
use Rattle.back_definition.specs.Back.{backed, back_refusal, back_refusals, back_outcome, lent_back_refusals, lent_back_outcome}
use Rattle.hash_back.proofs.back.Goals as goal

-- a record answers what its reading answers
read : (b block : List ℕ) (o : Lent) → o ≡ lent_back_outcome (reading b) block
    → record { number = o.number; buffer = when_done o.number (written o.kept b) b } ≡ back_outcome b block
unfolding back_outcome back_refusals lent_back_outcome lent_back_refusals
read b block = altered_read (λ k. back_refusal k (length block) ∷ []) (λ k. backed k block) b

pub returns-in_err-before : goal.returns-in_err-before
returns-in_err-before c =
    rw (handed_on _ _ c.from_residual.ensures.1)
    (rw (not_done _ _ _ (not_zero c.in_err-before.field-0.0)) at (read c.args.«record».now c.args.block.now _ (rw c.read.ensures at c.in_err-before.ensures)))

pub returns : goal.returns
unfolding when_done
returns c =
    ap done c.encode.ensures ∙ read c.args.«record».now c.args.block.now _ (rw c.read.ensures at c.in_ok-before.ensures)

-- `hash_record::encode` meets its contract: the whole is written part by part.
-- Assumes nothing.
use mathlib.Core.Path.{◌≡◌, ◌∙◌}
use borrow.Author.Tests.{eq-eqb, ne_eqb}
use lib.ListN.{length}
use Rattle.definition.specs.Refusal.{pick}
use Rattle.hash_record.specs.Reading.{written}
use Rattle.hash_record.proofs.Places.{all_parts}
use borrow.Author.Rules.{rules}
use Rattle.hash_record.proofs.encode.Goals as goal

-- an array has its length
pending : (s : goal.After-slice_known-4-1) → length s.args.k.pending ≡ 32
pending s = search rules

pub returns-then-b-ne-LENGTH : goal.returns-then-b-ne-LENGTH
unfolding written pick
returns-then-b-ne-LENGTH c = rw (ne_eqb _ _ c.if-b-ne-LENGTH.true)

pub returns : goal.returns
unfolding written pick
returns c =
    c.put_held.ensures
    ∙ rw (c.held.ensures, c.put_words.ensures, c.words.ensures, c.put_bytes.ensures, eq-eqb _ _ c.if-b-ne-LENGTH.false)
    (all_parts c.args.k c.args.b.now c.if-b-ne-LENGTH.false (pending c))

-- `sheet_batch::have` meets its contract: a place past the end is what the walk looks for.
-- Assumes nothing.
use mathlib.Core.Path.{◌≡◌, ◌∙◌}
use lib.Dec.{leb}
use lib.Seq.{take-length}
use Rattle.std.proofs.Common.{rules, tests, arith}
use Rattle.std.proofs.lemmas.Iterator.{YieldsList-from_slice}
use Rattle.std.proofs.lemmas.Iterator.Search.{any_from_yields_List}
use Rattle.sheet_definition.specs.Refusals.{any_past, places_refusal}
use Rattle.sheet_batch.proofs.Places.{told_past}
use Rattle.sheet_batch.proofs.have.Goals as goal

pub returns : goal.returns
unfolding places_refusal
returns c =
    let a = c.args in
    let e : c.any.result ≡ any_past a.n a.places.now =
    any_from_yields_List (leb a.n) _ _ _ c.any.ensures.ran (YieldsList-from_slice a.places.now (grind (arith, take-length a.places.now))) (λ x b q k. search (rules, tests))
    ∙ told_past a.n a.places.now in
    rw e at c.when.ensures

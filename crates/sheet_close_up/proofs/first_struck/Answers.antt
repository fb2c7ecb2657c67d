-- `sheet_close_up::first_struck` meets its contract: the walk looks for a record of zeros.
-- Assumes nothing.
use mathlib.Core.Path.{ap, ◌∙◌}
use native.Mathlib.Omega.{arith}
use Rattle.std.proofs.Common.{rules, tests}
use Rattle.std.specs.List.{position}
use Rattle.std.specs.Slice.Iter.{chunks_exact_rest, chunks_exact_size}
use Rattle.std.proofs.lemmas.Iterator.{YieldsList-from_take}
use Rattle.std.proofs.lemmas.Iterator.Search.{position_from_yields_List}
use Rattle.sheet_definition.specs.Struck.{all_zero}
use Rattle.sheet_close_up.proofs.Walked.{parts, take_cut}
use Rattle.sheet_close_up.proofs.first_struck.Goals as goal

pub returns : goal.returns
returns c =
    let a = c.args in
    let t = c.take.ensures.source in
    position_from_yields_List all_zero _ _ _ c.position.ensures.ran
    (YieldsList-from_take a.n (parts a.sheet.now (ap chunks_exact_rest t ∙ c.chunks_exact.ensures.rest) (ap chunks_exact_size t ∙ c.chunks_exact.ensures.size)) c.take.ensures.count)
    (λ x b q k. search (rules, tests))
    ∙ ap (position all_zero) (take_cut a.n _ a.sheet.now (omega arith))

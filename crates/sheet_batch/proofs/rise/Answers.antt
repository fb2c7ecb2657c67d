-- `sheet_batch::rise` meets its contract: too many, or not sorted.
-- Assumes nothing.
use mathlib.Core.Path.{◌≡◌, ap, ◌∙◌}
use mathlib.Core.Bool.{not, ◌||◌}
use borrow.Author.Tests.{lt-ltb, le-ltb}
use lib.Dec.{ltb}
use lib.ListN.{length}
use Rattle.std.proofs.Common.{rules, tests}
use Rattle.std.proofs.lemmas.List.Sorted.{answers_always}
use Rattle.definition.specs.Refusal.{rising}
use Rattle.sheet_definition.specs.Refusals.{set_refusal}
use Rattle.sheet_batch.proofs.Places.{told_rising}
use Rattle.sheet_batch.proofs.rise.Goals as goal
use Rattle.sheet_batch.proofs.rise.Goals.{then-places-gt-MOST_CHANGES, else-places-gt-MOST_CHANGES}

pub returns : goal.returns
unfolding set_refusal
returns c =
    let t = c.args.places.now in
    let e : c.if-places-gt-MOST_CHANGES.when ≡ ltb 64 (length t) || not (rising t) =
    elim c.if-places-gt-MOST_CHANGES.branch [
      | then-places-gt-MOST_CHANGES w ↦ let many = lt-ltb 64 (length t) w.if-places-gt-MOST_CHANGES.true in rw many (w.when-is ∙ many)
      | else-places-gt-MOST_CHANGES w ↦ rw (le-ltb 64 (length t) w.if-places-gt-MOST_CHANGES.false)
          (w.when-is ∙ ap not (told_rising t w.is_sorted_by.result (w.is_sorted_by.ensures.cases ltb (answers_always _ _ _ (λ f a b q k. search (rules, tests))))))
    ] in
    rw e at c.when.ensures

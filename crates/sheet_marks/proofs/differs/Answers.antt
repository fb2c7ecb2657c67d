-- `sheet_marks::differs` meets its contract: lists of other lengths differ, and else they do where a pair does.
-- Assumes nothing.
use mathlib.Core.Path.{sym, ap, ◌∙◌}
use mathlib.Core.Bool.{not, false, ◌||◌}
use Prim.Native.Nat.{ℕ}
use borrow.Author.Rules.{rules}
use borrow.Author.Tests.{ne_eqb, tests}
use native.Mathlib.Omega.{arith}
use lib.Seq.{take-length}
use lib.Dec.{eqb}
use Rattle.std.proofs.lemmas.Iterator.{YieldsList-from_slice, YieldsList-from_zip}
use Rattle.std.proofs.lemmas.Iterator.Consumers.{fold_from_yields_List}
use Rattle.sheet_marks.proofs.Compared.{other_length, differing}
use Rattle.sheet_marks.proofs.differs.Goals as goal

pub returns-then-mark-ne-MARK : goal.returns-then-mark-ne-MARK
returns-then-mark-ne-MARK c =
    let a = c.args in
    ap not (ne_eqb _ 40 c.if-mark-ne-MARK.true ∙ sym (other_length a.mark.now a.words.now (λ e. c.if-mark-ne-MARK.true (e ∙ c.told-words))))

pub returns-else-mark-ne-MARK : goal.returns-else-mark-ne-MARK
returns-else-mark-ne-MARK c =
    let a = c.args in
    fold_from_yields_List _ (λ o (p : ℕ × ℕ). o || not (eqb p.0 p.1)) false _ c.fold.ensures.ran
    (YieldsList-from_zip (YieldsList-from_slice a.mark.now (grind (arith, take-length a.mark.now, c.if-mark-ne-MARK.false))) (YieldsList-from_slice a.words.now cc))
    (λ o x r f k. search (rules, tests))
    ∙ differing false a.mark.now a.words.now (c.if-mark-ne-MARK.false ∙ sym c.told-words)

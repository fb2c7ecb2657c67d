-- `plan_rules::struck` meets its contract: a record is struck exactly where all but its place is that of a default.
-- Assumes nothing.
use mathlib.Core.Path.{◌≡◌, refl, ap, ◌∙◌}
use mathlib.Core.Bool.{Bool, true, false, not, beq, ◌&&◌, ◌||◌}
use mathlib.Core.List.{List, [], ◌∷◌}
use Prim.Native.Nat.{ℕ, zero, suc}
use native.Mathlib.Omega.{arith}
use lib.Dec.{eqb}
use lib.ListN.{length, replicate}
use lib.Pointwise.{pointwise}
use borrow.Author.Tests.{ne_eqb}
use Rattle.plan_definition.specs.declared.Link.{Link}
use Rattle.plan_definition.specs.Some.{some}
use Rattle.plan_definition.specs.Well.{no_link}
use Rattle.plan_definition.specs.Rules.{not_zero, struck}
use Rattle.plan_definition.proofs.Links.{no_links}
use Rattle.plan_rules.proofs.struck.Goals as goal

no_other : (b c : Bool) → (b && not c) ≡ not (not b || c)
no_other true c = refl
no_other false c = refl

not-set : (b : Bool) → beq b false ≡ not b
not-set true = refl
not-set false = refl

-- links are all zeros where they are those of a default
zeros : (n : ℕ) (ls : List Link) → length ls ≡ n
    → pointwise (λ l m. eqb l.injector m.injector && eqb l.share m.share) ls (replicate n no_link) ≡ not (some not_zero ls)
unfolding some not_zero
zeros zero [] e = refl
zeros zero (l ∷ ls) e = absurd (omega arith)
zeros (suc n) [] e = absurd (omega arith)
zeros (suc n) (l ∷ ls) e =
    ap (λ b. (eqb l.injector 0 && eqb l.share 0) && b) (zeros n ls (omega arith)) ∙ no_other (eqb l.injector 0 && eqb l.share 0) (some not_zero ls)

pub returns-else-w-eq0 : goal.returns-else-w-eq0
unfolding struck
returns-else-w-eq0 c = rw (ne_eqb _ 0 c.if-w-eq0.false)

pub returns-then-w-eq0 : goal.returns-then-w-eq0
unfolding struck
returns-then-w-eq0 c =
    let w = c.args.w in
    let d = c.default.ensures in
    rw (
      d.0,
      d.1.0,
      d.1.1.0,
      d.1.1.1.0,
      d.1.1.1.1.0,
      no_links c.default.result.links d.1.1.1.1.1.0,
      zeros 4 w.links (search),
      d.1.1.1.1.1.1,
      not-set w.noted,
    ) at c.eq.ensures

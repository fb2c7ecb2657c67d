-- `plan_rules::count_breaks` meets its contract, kind by kind.
-- Assumes nothing.
use mathlib.Core.Path.{◌≡◌, refl}
use mathlib.Core.Bool.{Bool, true, false, not, beq, or-false}
use native.Mathlib.Omega.{arith}
use borrow.Author.Tests.{eq-eqb, ne_eqb, lt-ltb, le-ltb}
use lib.Dec.{eqb}
use Rattle.plan_definition.specs.Rules.{producer, injector, differ, breaks_link_count}
use Rattle.plan_rules.proofs.count_breaks.Goals as goal

differs : (a b : Bool) → not (beq a b) ≡ differ a b
unfolding differ
differs true true = refl
differs true false = refl
differs false true = refl
differs false false = refl

pub returns-then-w-gt-LINKS_MOST : goal.returns-then-w-gt-LINKS_MOST
unfolding breaks_link_count producer
returns-then-w-gt-LINKS_MOST c =
    let w = c.args.w in
    rw (eq-eqb w.kind 1 c.in-1.is, lt-ltb 4 w.count (omega arith))

pub returns-else-w-gt-LINKS_MOST : goal.returns-else-w-gt-LINKS_MOST
unfolding breaks_link_count producer injector
returns-else-w-gt-LINKS_MOST c =
    let w = c.args.w in
    rw (eq-eqb w.kind 1 c.in-1.is, ne_eqb w.kind 2 (λ e. omega arith), le-ltb 4 w.count (omega arith), or-false) (differs (eqb w.count 0) (eqb w.rate 0))

pub returns-in-2 : goal.returns-in-2
unfolding breaks_link_count producer injector
returns-in-2 c =
    let w = c.args.w in
    rw (ne_eqb w.kind 1 (λ e. omega arith), eq-eqb w.kind 2 c.in-2.is)

pub returns-in_default : goal.returns-in_default
unfolding breaks_link_count producer injector
returns-in_default c =
    let w = c.args.w in
    rw (ne_eqb w.kind 1 (λ e. omega arith), ne_eqb w.kind 2 (λ e. omega arith))

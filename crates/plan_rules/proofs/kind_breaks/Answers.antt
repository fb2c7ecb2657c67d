-- `plan_rules::kind_breaks` meets its contract: a producer, an injector, or neither.
-- Assumes nothing.
use native.Mathlib.Omega.{arith}
use borrow.Author.Tests.{eq-eqb, ne_eqb}
use Rattle.plan_definition.specs.Rules.{producer, injector, breaks_kind}
use Rattle.plan_rules.proofs.kind_breaks.Goals as goal

pub returns-then-w-ne-PRODUCER : goal.returns-then-w-ne-PRODUCER
unfolding breaks_kind producer injector
returns-then-w-ne-PRODUCER c = rw (ne_eqb c.args.w.kind 1 (λ e. omega arith))

pub returns-else-w-ne-PRODUCER : goal.returns-else-w-ne-PRODUCER
unfolding breaks_kind producer
returns-else-w-ne-PRODUCER c = rw (eq-eqb c.args.w.kind 1 (omega arith))

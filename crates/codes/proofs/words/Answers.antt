-- `codes::words` meets its contract: Table 3 at each code.
-- Assumes nothing.
use mathlib.Core.Path.{sym}
use native.Mathlib.Omega.{arith}
use Rattle.definition.specs.Luffa.{words_at}
use Rattle.definition.proofs.Codes.{words-other}
use Rattle.codes.proofs.words.Goals as goal

pub returns-in-1 : goal.returns-in-1
unfolding words_at
returns-in-1 c = rw c.in-1.is

pub returns-in-2 : goal.returns-in-2
unfolding words_at
returns-in-2 c = rw c.in-2.is

pub returns-in-3 : goal.returns-in-3
unfolding words_at
returns-in-3 c = rw c.in-3.is

pub returns-in-4 : goal.returns-in-4
unfolding words_at
returns-in-4 c = rw c.in-4.is

pub returns-in_default : goal.returns-in_default
returns-in_default c = sym (words-other _ (λ e. omega arith) (λ e. omega arith) (λ e. omega arith) (λ e. omega arith))

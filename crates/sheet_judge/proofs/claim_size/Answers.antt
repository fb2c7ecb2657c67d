-- `sheet_judge::claim_size` meets its contract: the test is the refusal's condition.
-- Assumes nothing.
use native.Mathlib.Omega.{arith}
use Rattle.definition.specs.Luffa.{bytes_at}
use Rattle.sheet_definition.specs.Refusals.{claim_refusal}
use Rattle.definition.proofs.Codes.{words_le}
use Rattle.sheet_judge.proofs.claim_size.Goals as goal

pub returns : goal.returns
unfolding claim_refusal bytes_at
returns c = rw c.words.ensures at c.when.ensures

pub overflow_mul-words : goal.overflow_mul-words
overflow_mul-words c =
    omega (arith, words_le c.args.code)

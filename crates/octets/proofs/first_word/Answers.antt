-- `octets::first_word` meets its contract, with four bytes and with fewer.
-- Assumes nothing.
use mathlib.Core.Path.{◌∙◌, ap}
use borrow.Author.Tests.{lt-leb, le-leb}
use Rattle.definition.specs.Word.{word_of}
use Rattle.definition.specs.Block.{word_at}
use Rattle.octets.specs.Total.{word_when, first_word}
use native.Mathlib.Omega.{arith}
use Rattle.octets.proofs.Total.{word-front}
use Rattle.octets.proofs.first_word.Goals as goal

pub returns-in-None : goal.returns-in-None
unfolding first_word word_when
returns-in-None c = rw (lt-leb 4 _ c.in-None.ensures.cases)

pub returns-in-Some : goal.returns-in-Some
unfolding first_word word_when word_at word_of
returns-in-Some c =
    rw (le-leb 4 _ c.in-Some.ensures.cases.enough)
    (c.from_be_bytes.ensures ∙ ap (λ x. word_at x 0) c.in-Some.ensures.cases.same ∙ word-front 4 0 c.args.t.now (omega arith))

-- `hash_pieces::counted` meets its contract: what a sum loses above its two words, neither of them holds.
-- Assumes nothing.
use Rattle.std.proofs.Common.{◌+◌, ◌∙◌}
use lib.Pow.{field, mod-mod-pow}
use Rattle.hash_definition.specs.Record.{count_of}
use Rattle.hash_pieces.specs.Short.{high_of, low_of}
use Rattle.hash_pieces.proofs.counted.Goals as goal

pub returns : goal.returns
unfolding high_of low_of
returns c =
    let a = c.args in
    let sum = count_of a.high a.low + a.n in
    c.two_words.ensures ∙ rw (c.count.ensures, field sum 64 64, mod-mod-pow sum 64 64)

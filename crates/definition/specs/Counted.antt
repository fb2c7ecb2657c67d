-- Rounds with their count: document 01, "the count travels with it". A count has 64 bits; that it is the number of rounds that the
-- definition applies is a law.
use Rattle.std.specs.Prelude.{◌+◌, ◌%◌, ◌^◌, List, [], ◌∷◌}
use Rattle.definition.specs.declared.Block.{Block}
use Rattle.definition.specs.declared.Counted.{Counted}
use Rattle.definition.specs.declared.Width.{Width}
use Rattle.definition.specs.Round.{round}
use Rattle.definition.specs.State.{blocks_in, state_of}

-- one round, and the count one higher
unfoldable pub counted_round : Width → Counted → Block → Counted
counted_round w c m = record { state = state_of (round w (blocks_in w c.state) m); rounds = (c.rounds + 1) % 2 ^ 64 }

-- a round for each message block in turn; blocks that w doesn't use are zero afterwards, also where no round was run
unfoldable pub counted_chain : Width → Counted → List Block → Counted
counted_chain w c [] = record { state = state_of (blocks_in w c.state); rounds = c.rounds }
counted_chain w c (m ∷ ms) = counted_chain w (counted_round w c m) ms

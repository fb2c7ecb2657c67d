-- Five blocks by value, as the code holds the 8w words of a state (2.3 of the source), read as the list of the first w blocks.
use Rattle.std.specs.Prelude.{List, [], ◌∷◌, get_or, take}
use Rattle.definition.specs.declared.Block.{Block}
use Rattle.definition.specs.declared.State.{State}
use Rattle.definition.specs.declared.Width.{Width}
use Rattle.definition.specs.Block.{◌⊕◌, zero_block}
use Rattle.definition.specs.Width.{block_count}

-- all five
unfoldable pub five : State → List Block
five s = s.h0 ∷ s.h1 ∷ s.h2 ∷ s.h3 ∷ s.h4 ∷ []

-- XOR of two states, block by block
abbrev pub xor_states : State → State → State
xor_states s t = record { h0 = s.h0 ⊕ t.h0; h1 = s.h1 ⊕ t.h1; h2 = s.h2 ⊕ t.h2; h3 = s.h3 ⊕ t.h3; h4 = s.h4 ⊕ t.h4 }

-- 3.2: H_0 to H_w-1
unfoldable pub blocks_in : Width → State → List Block
blocks_in w s = take (block_count w) (five s)

-- a list of at most five blocks as a state: the blocks past it are zero
unfoldable pub state_of : List Block → State
state_of h =
    record {
      h0 = get_or h 0 zero_block;
      h1 = get_or h 1 zero_block;
      h2 = get_or h 2 zero_block;
      h3 = get_or h 3 zero_block;
      h4 = get_or h 4 zero_block;
    }

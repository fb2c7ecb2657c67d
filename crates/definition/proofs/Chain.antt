-- Five blocks by value hold a list of w blocks and give it back; and rounds run with a count are the definition's rounds, as many as there
-- are message blocks.
-- Assumes nothing.
use mathlib.Core.Path.{◌≡◌, refl, sym, ap, ◌∙◌}
use mathlib.Core.List.{List, [], ◌∷◌, ◌++◌}
use Prim.Native.Nat.{ℕ, suc, ◌+◌, ◌-◌, ◌%◌, ◌^◌, ◌<◌, ◌≤◌}
use native.Mathlib.Nat.{add-zero, mod-lt, mod-eq_of_lt}
use native.Mathlib.Omega.{arith}
use lib.ListN.{length, replicate}
use lib.Pow.{pow_pos}
use lib.Seq.{take_at, length-take-le}
use Rattle.definition.specs.declared.Block.{Block}
use Rattle.definition.specs.declared.Counted.{Counted}
use Rattle.definition.specs.declared.State.{State}
use Rattle.definition.specs.declared.Width.{Width}
use Rattle.definition.specs.declared.Width.TheVariants.{W3, W4, W5}
use Rattle.definition.specs.Block.{zero_block}
use Rattle.definition.specs.Injection.{matrix, inject}
use Rattle.definition.specs.Round.{permute_from, round, chain}
use Rattle.definition.specs.Width.{block_count}
use Rattle.definition.specs.Start.{starting_variables, start}
use Rattle.definition.specs.State.{five, blocks_in, state_of}
use Rattle.definition.specs.Counted.{counted_round, counted_chain}

-- the blocks past a list of at most five are zero
five_filled : (h : List Block) → length h ≤ 5 → five (state_of h) ≡ h ++ replicate (5 - length h) zero_block
unfolding five state_of
five_filled [] l = refl
five_filled (a ∷ []) l = refl
five_filled (a ∷ b ∷ []) l = refl
five_filled (a ∷ b ∷ c ∷ []) l = refl
five_filled (a ∷ b ∷ c ∷ d ∷ []) l = refl
five_filled (a ∷ b ∷ c ∷ d ∷ e ∷ []) l = refl
five_filled (a ∷ b ∷ c ∷ d ∷ e ∷ f ∷ h) l = absurd (omega arith)

-- at most five blocks
pub count_le : (w : Width) → block_count w ≤ 5
unfolding block_count
count_le W3 = omega arith
count_le W4 = omega arith
count_le W5 = omega arith

-- five blocks by value give back the w blocks that they hold
pub blocks_of_state : (w : Width) (h : List Block) → length h ≡ block_count w → blocks_in w (state_of h) ≡ h
unfolding blocks_in
blocks_of_state w h e = rw (five_filled h (omega (arith, count_le w))) (take_at h _ (block_count w) e)

pub length-blocks_in : (w : Width) (s : State) → length (blocks_in w s) ≡ block_count w
unfolding blocks_in five
length-blocks_in w s = length-take-le (block_count w) (five s) (count_le w)

pub length-start : (w : Width) → length (start w) ≡ block_count w
unfolding start starting_variables
length-start w = length-take-le (block_count w) starting_variables (count_le w)

pub length-inject : (w : Width) (h : List Block) (m : Block) → length (inject w h m) ≡ block_count w
unfolding inject matrix block_count
length-inject W3 h m = refl
length-inject W4 h m = refl
length-inject W5 h m = refl

length-permute_from : (j : ℕ) (h : List Block) → length (permute_from j h) ≡ length h
unfolding permute_from
length-permute_from j [] = refl
length-permute_from j (a ∷ h) = ap suc (length-permute_from (suc j) h)

pub length-round : (w : Width) (h : List Block) (m : Block) → length (round w h m) ≡ block_count w
unfolding round
length-round w h m = length-permute_from 0 (inject w h m) ∙ length-inject w h m

pub blocks_of_inject : (w : Width) (h : List Block) (m : Block) → blocks_in w (state_of (inject w h m)) ≡ inject w h m
blocks_of_inject w h m = blocks_of_state w (inject w h m) (length-inject w h m)

pub blocks_of_round : (w : Width) (h : List Block) (m : Block) → blocks_in w (state_of (round w h m)) ≡ round w h m
blocks_of_round w h m = blocks_of_state w (round w h m) (length-round w h m)

blocks_of_used : (w : Width) (s : State) → blocks_in w (state_of (blocks_in w s)) ≡ blocks_in w s
blocks_of_used w s = blocks_of_state w (blocks_in w s) (length-blocks_in w s)

-- the state after a chain of rounds with their count
pub counted-state : (w : Width) (c : Counted) (ms : List Block)
    → (counted_chain w c ms).state ≡ state_of (chain w (blocks_in w c.state) ms)
unfolding counted_chain counted_round chain
counted-state w c [] = refl
counted-state w c (m ∷ ms) = rw (← blocks_of_round w (blocks_in w c.state) m) (counted-state w (counted_round w c m) ms)

-- and its count: one for each message block
pub counted-rounds : (w : Width) (c : Counted) (ms : List Block) → c.rounds < 2 ^ 64
    → (counted_chain w c ms).rounds ≡ (c.rounds + length ms) % 2 ^ 64
unfolding counted_chain counted_round
counted-rounds w c [] h = sym (rw add-zero (mod-eq_of_lt h))
counted-rounds w c (m ∷ ms) h =
    omega (arith, counted-rounds w (counted_round w c m) ms (mod-lt (c.rounds + 1) (pow_pos 64)))

-- one round leaves the blocks that w doesn't use zero
pub counted-once : (w : Width) (c : Counted) (m : Block) → counted_chain w c (m ∷ []) ≡ counted_round w c m
unfolding counted_chain counted_round
counted-once w c m = rw blocks_of_round

-- blocks that w doesn't use are not read
counted-used : (w : Width) (c : Counted) (ms : List Block)
    → counted_chain w (record { state = state_of (blocks_in w c.state); rounds = c.rounds }) ms ≡ counted_chain w c ms
unfolding counted_chain counted_round
counted-used w c [] = rw blocks_of_used
counted-used w c (m ∷ ms) = rw blocks_of_used

-- a chain over two lists of blocks, one after the other
pub counted-append : (w : Width) (c : Counted) (ms ns : List Block)
    → counted_chain w c (ms ++ ns) ≡ counted_chain w (counted_chain w c ms) ns
unfolding counted_chain
counted-append w c [] ns = sym (counted-used w c ns)
counted-append w c (m ∷ ms) ns = counted-append w (counted_round w c m) ms ns

pub chain-append : (w : Width) (h ms ns : List Block) → chain w h (ms ++ ns) ≡ chain w (chain w h ms) ns
unfolding chain
chain-append w h [] ns = refl
chain-append w h (m ∷ ms) ns = chain-append w (round w h m) ms ns

-- a round for one more block at the end
pub counted_snoc : (w : Width) (c : Counted) (ms : List Block) (m : Block)
    → counted_chain w c (ms ++ (m ∷ [])) ≡ counted_round w (counted_chain w c ms) m
counted_snoc w c ms m = counted-append w c ms (m ∷ []) ∙ counted-once w (counted_chain w c ms) m

-- a chain leaves w blocks
pub length-chain : (w : Width) (h ms : List Block) → length h ≡ block_count w → length (chain w h ms) ≡ block_count w
unfolding chain
length-chain w h [] e = e
length-chain w h (m ∷ ms) e = length-chain w (round w h m) ms (length-round w h m)

-- and a state holds them
pub blocks_of_chain : (w : Width) (h ms : List Block) → length h ≡ block_count w → blocks_in w (state_of (chain w h ms)) ≡ chain w h ms
blocks_of_chain w h ms e = blocks_of_state w (chain w h ms) (length-chain w h ms e)

-- the blocks after a chain of rounds with their count
pub counted-blocks : (w : Width) (c : Counted) (ms : List Block)
    → blocks_in w (counted_chain w c ms).state ≡ chain w (blocks_in w c.state) ms
counted-blocks w c ms = rw counted-state (blocks_of_chain w (blocks_in w c.state) ms (length-blocks_in w c.state))

pub blocks_of_start : (w : Width) → blocks_in w (state_of (start w)) ≡ start w
blocks_of_start w = blocks_of_state w (start w) (length-start w)

-- The parts, over five blocks by value, are those of the lists.
-- Assumes nothing.
use mathlib.Core.Path.{◌≡◌, refl, ◌∙◌}
use mathlib.Core.List.{List, [], ◌∷◌}
use Prim.Native.Nat.{ℕ}
use Rattle.definition.specs.declared.Block.{Block}
use Rattle.definition.specs.declared.State.{State}
use Rattle.definition.specs.declared.Width.{Width}
use Rattle.definition.specs.declared.Width.TheVariants.{W3, W4, W5}
use Rattle.definition.specs.Block.{◌⊕◌}
use Rattle.definition.specs.Field.{double, times}
use Rattle.definition.specs.Width.{block_count}
use Rattle.definition.specs.State.{five, xor_states, blocks_in, state_of}
use Rattle.definition.proofs.Xor.{⊕-zero}
use Rattle.back_definition.specs.Injection.{less_message, sum_on, total, unspread, equations_back, inject_back}
use Rattle.injection_back.specs.Parts.{inverse_at, unrings_at}

-- 2^j M taken from five blocks is taken from the first w of them
pub less_used : (w : Width) (s : State) (m : Block)
    → (let m2 : Block = double (double m) in
    blocks_in w (xor_states s (state_of (m ∷ double m ∷ m2 ∷ double m2 ∷ double (double m2) ∷ [])))) ≡ less_message (blocks_in w s) m
unfolding blocks_in five state_of block_count less_message
less_used W3 s m = refl
less_used W4 s m = refl
less_used W5 s m = refl

-- the sum over five blocks, of which those past w are zero
pub sum-used : (w : Width) (s : State)
    → (let u : State = state_of (blocks_in w s) in u.h0 ⊕ u.h1 ⊕ u.h2 ⊕ u.h3 ⊕ u.h4) ≡ total (blocks_in w s)
unfolding blocks_in five state_of block_count total sum_on
sum-used W3 s = ⊕-zero _ ∙ ⊕-zero _
sum-used W4 s = ⊕-zero _
sum-used W5 s = refl

-- a block added to the first w of five
pub spread_used : (w : Width) (c : ℕ) (s : State)
    → (let u : State = state_of (blocks_in w s) in
    let t : Block = double (times c (total (blocks_in w s))) in
    state_of (blocks_in w (record { h0 = u.h0 ⊕ t; h1 = u.h1 ⊕ t; h2 = u.h2 ⊕ t; h3 = u.h3 ⊕ t; h4 = u.h4 ⊕ t })))
    ≡ state_of (unspread c (blocks_in w s))
unfolding blocks_in five state_of block_count unspread
spread_used W3 c s = refl
spread_used W4 c s = refl
spread_used W5 c s = refl

-- both parts are the injection undone
pub both_parts : (w : Width) (x : List Block) (m : Block) → unspread (inverse_at w) (unrings_at w (less_message x m)) ≡ inject_back w x m
unfolding inject_back equations_back unrings_at
both_parts W3 x m = refl
both_parts W4 x m = refl
both_parts W5 x m = refl

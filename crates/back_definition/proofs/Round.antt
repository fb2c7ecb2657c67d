-- The permutation P and the round are undone, either way round; and two message blocks lead to one state from one state only where they are one.
-- Assumes nothing.
use mathlib.Core.Path.{◌≡◌, refl, sym, ap, ap₂, ◌∙◌}
use mathlib.Core.List.{List, [], ◌∷◌}
use Prim.Native.Nat.{ℕ, suc, ◌+◌, ◌<◌, ◌≤◌}
use native.Mathlib.Omega.{arith}
use lib.ListN.{length, get_or}
use Rattle.definition.specs.declared.Block.{Block}
use Rattle.definition.specs.declared.Width.{Width}
use Rattle.definition.specs.declared.Width.TheVariants.{W3, W4, W5}
use Rattle.definition.specs.Block.{◌⊕◌, zero_block}
use Rattle.definition.specs.Injection.{inject}
use Rattle.definition.specs.Round.{permute_from, round}
use Rattle.definition.specs.Width.{block_count}
use Rattle.definition.proofs.Bounds.{Words, AllWords}
use Rattle.definition.proofs.Chain.{count_le}
use Rattle.back_definition.specs.Injection.{less_message, inject_back}
use Rattle.back_definition.specs.Round.{permute_back_from, round_back}
use Rattle.back_definition.proofs.Step.{permute-back, permute_forth, permute_back-words}
use Rattle.back_definition.proofs.Equations.{Rows, ⊕-front}
use Rattle.back_definition.proofs.Injection.{equations, inject_equations, equations_rows, inject-rows, inject-back, inject_forth, inject_back-rows}

-- Q_j, Q_j+1 and so on
pub permuted_back : (j : ℕ) (xs : List Block) → j + length xs ≤ 5 → AllWords xs → permute_back_from j (permute_from j xs) ≡ xs
unfolding permute_from permute_back_from
permuted_back j [] h k = refl
permuted_back j (x ∷ xs) h k =
    ap₂ (λ (a : Block) (l : List Block). a ∷ l) (permute-back j x (omega arith) k.0) (permuted_back (suc j) xs (omega arith) k.1)

pub permuted_forth : (j : ℕ) (xs : List Block) → j + length xs ≤ 5 → AllWords xs → permute_from j (permute_back_from j xs) ≡ xs
unfolding permute_from permute_back_from
permuted_forth j [] h k = refl
permuted_forth j (x ∷ xs) h k =
    ap₂ (λ (a : Block) (l : List Block). a ∷ l) (permute_forth j x (omega arith) k.0) (permuted_forth (suc j) xs (omega arith) k.1)

permuted_back-rows : (j : ℕ) (xs : List Block) → AllWords xs → Rows (length xs) (permute_back_from j xs)
unfolding permute_back_from
permuted_back-rows j [] k = (refl, tt)
permuted_back-rows j (x ∷ xs) k =
    let r = permuted_back-rows (suc j) xs k.1 in
    (ap suc r.0, (permute_back-words j x k.0, r.1))

module _ (w : Width) (h : List Block) (k : Rows (block_count w) h) where
  at_most : 0 + length h ≤ 5
  at_most = omega (arith, k.0, count_le w)

  back-rows : Rows (block_count w) (permute_back_from 0 h)
  back-rows = let r = permuted_back-rows 0 h k.1 in (r.0 ∙ k.0, r.1)

  module _ (m : Block) (hm : Words m) where
    pub round-back : round_back w (round w h m) m ≡ h
    unfolding round round_back
    round-back =
        let r = inject-rows w m hm h k in
        ap (λ (x : List Block). inject_back w x m) (permuted_back 0 (inject w h m) (omega (arith, r.0, count_le w)) r.1) ∙ inject-back w m hm h k

    pub round_forth : round w (round_back w h m) m ≡ h
    unfolding round round_back
    round_forth = ap (permute_from 0) (inject_forth w m hm (permute_back_from 0 h) back-rows) ∙ permuted_forth 0 h at_most k.1

    pub round_back-rows : Rows (block_count w) (round_back w h m)
    unfolding round_back
    round_back-rows = inject_back-rows w m hm (permute_back_from 0 h) back-rows

-- what two messages are laid on alike, where there is any block, has taken one message
first_message : (xs : List Block) (m n : Block) → 0 < length xs → less_message xs m ≡ less_message xs n → m ≡ n
unfolding less_message
first_message [] m n h e = absurd (omega arith)
first_message (x ∷ xs) m n h e =
    sym (⊕-front x m) ∙ ap (λ (b : Block). b ⊕ x) (ap (λ (l : List Block). get_or l 0 zero_block) e) ∙ ⊕-front x n

some : (w : Width) → 0 < block_count w
unfolding block_count
some W3 = omega arith
some W4 = omega arith
some W5 = omega arith

-- "A block other than the one fed": from one state, what a round makes has taken one message block
pub one_message : (w : Width) (h : List Block) (m n : Block) → Rows (block_count w) h → Words m → Words n → round w h m ≡ round w h n → m ≡ n
unfolding round
one_message w h m n k hm hn e =
    let rm = inject-rows w m hm h k in
    let rn = inject-rows w n hn h k in
    let i : inject w h m ≡ inject w h n =
    sym (permuted_back 0 (inject w h m) (omega (arith, rm.0, count_le w)) rm.1)
    ∙ ap (permute_back_from 0) e
    ∙ permuted_back 0 (inject w h n) (omega (arith, rn.0, count_le w)) rn.1 in
    first_message (equations w h) m n (rw (equations_rows w h k).0 (some w))
    (sym (inject_equations w h m k.0) ∙ i ∙ inject_equations w h n k.0)

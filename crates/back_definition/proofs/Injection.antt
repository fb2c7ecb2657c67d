-- The message injection is undone, either way round, for a fixed message block: Appendix E's equations, which give the matrices of 3.2.1 to 3.2.3,
-- are those that are undone over any number of blocks. Which of them a w has is the source's; the constants follow from it.
-- Assumes nothing.
use mathlib.Core.Path.{◌≡◌, refl, sym, ap, ◌∙◌}
use mathlib.Core.List.{List, reverse, reverse-reverse}
use native.Mathlib.Omega.{arith}
use lib.ListN.{length}
use Rattle.definition.specs.declared.Block.{Block}
use Rattle.definition.specs.declared.State.{State}
use Rattle.definition.specs.declared.Width.{Width}
use Rattle.definition.specs.declared.Width.TheVariants.{W3, W4, W5}
use Rattle.definition.specs.Word.{bit}
use Rattle.definition.specs.Field.{times_x, multiple, product}
use Rattle.definition.specs.Injection.{inject}
use Rattle.definition.specs.AppendixE.{power, xor_to, η, ξ, without_message, forms, value, appendix_e}
use Rattle.definition.specs.Width.{block_count}
use Rattle.definition.specs.State.{five, blocks_in, state_of}
use Rattle.definition.proofs.Bounds.{Words}
use Rattle.definition.proofs.Chain.{blocks_of_state}
use Rattle.definition.proofs.Injection.{forms-inject}
use Rattle.back_definition.specs.Injection.{less_message, unring, sum_on, total, unspread, third, ring4, ring5, equations_back, inject_back}
use Rattle.back_definition.proofs.Field.{undoes}
use Rattle.back_definition.proofs.Equations.{less_message-back, links, last_of, ring, ring_back, ring_forth, spread, spread_back, spread_forth, odd_spread, even_spread, Rows, ring_rows, unring-rows, spread_rows, unspread-rows, reverse-rows, message-rows}

-- E-1 to E-3 but for the message, over lists; ξ_j of E-3 goes around in the other direction
unfoldable pub equations : Width → List Block → List Block
equations W3 h = spread h
equations W4 h = ring (spread h)
equations W5 h = ring (reverse (ring (reverse (spread h))))

-- with the message they are the injection
by_forms : (w : Width) (s : State) (m : Block) → appendix_e w (blocks_in w s) m ≡ less_message (equations w (blocks_in w s)) m
unfolding appendix_e value forms without_message ξ η xor_to power blocks_in five block_count less_message equations spread total sum_on ring links last_of
by_forms W3 s m = refl
by_forms W4 s m = refl
by_forms W5 s m = refl

pub inject_equations : (w : Width) (h : List Block) (m : Block) → length h ≡ block_count w → inject w h m ≡ less_message (equations w h) m
inject_equations w h m e = sym (forms-inject w h m e) ∙ (rw (blocks_of_state w h e) at (by_forms w (state_of h) m))

-- the rings of four and of five blocks: the checker's test of their constants at each element
around4 : (es : List Block) → Rows 4 es → (unring ring4 (ring es) ≡ es) × (ring (unring ring4 es) ≡ es)
unfolding undoes product multiple times_x bit
around4 es k = (ring_back 4 ring4 (omega arith) tt tt es k.0 k.1, ring_forth 4 ring4 (omega arith) tt tt es k.0 k.1)

around5 : (es : List Block) → Rows 5 es → (unring ring5 (ring es) ≡ es) × (ring (unring ring5 es) ≡ es)
unfolding undoes product multiple times_x bit
around5 es k = (ring_back 5 ring5 (omega arith) tt tt es k.0 k.1, ring_forth 5 ring5 (omega arith) tt tt es k.0 k.1)

-- the equations at each w, forwards and then backwards
equations_back_lem : (w : Width) (h : List Block) → Rows (block_count w) h → equations_back w (equations w h) ≡ h
unfolding equations equations_back block_count
equations_back_lem W3 h k = spread_back 3 third (odd_spread 1) h k.0 k.1
equations_back_lem W4 h k =
    ap (unspread 1) (around4 (spread h) (spread_rows h k)).0 ∙ spread_back 4 1 (even_spread 2) h k.0 k.1
equations_back_lem W5 h k =
    let r : List Block = reverse (spread h) in
    let kr : Rows 5 r = reverse-rows (spread h) (spread_rows h k) in
    let q : List Block = reverse (ring r) in
    ap (λ (x : List Block). unspread third (reverse (unring ring5 (reverse x)))) (around5 q (reverse-rows (ring r) (ring_rows r kr))).0
    ∙ ap (λ (x : List Block). unspread third (reverse (unring ring5 x))) (reverse-reverse (ring r))
    ∙ ap (λ (x : List Block). unspread third (reverse x)) (around5 r kr).0
    ∙ ap (unspread third) (reverse-reverse (spread h))
    ∙ spread_back 5 third (odd_spread 2) h k.0 k.1

-- and backwards and then forwards
equations_forth : (w : Width) (x : List Block) → Rows (block_count w) x → equations w (equations_back w x) ≡ x
unfolding equations equations_back block_count
equations_forth W3 x k = spread_forth 3 third (odd_spread 1) x k.0 k.1
equations_forth W4 x k =
    let y : List Block = unring ring4 x in
    let ky : Rows 4 y = unring-rows ring4 x k in
    ap ring (spread_forth 4 1 (even_spread 2) y ky.0 ky.1) ∙ (around4 x k).1
equations_forth W5 x k =
    let q : List Block = reverse (unring ring5 x) in
    let kq : Rows 5 q = reverse-rows (unring ring5 x) (unring-rows ring5 x k) in
    let p : List Block = reverse (unring ring5 q) in
    let kp : Rows 5 p = reverse-rows (unring ring5 q) (unring-rows ring5 q kq) in
    ap (λ (e : List Block). ring (reverse (ring (reverse e)))) (spread_forth 5 third (odd_spread 2) p kp.0 kp.1)
    ∙ ap (λ (e : List Block). ring (reverse (ring e))) (reverse-reverse (unring ring5 q))
    ∙ ap (λ (e : List Block). ring (reverse e)) (around5 q kq).1
    ∙ ap ring (reverse-reverse (unring ring5 x))
    ∙ (around5 x k).1

-- n blocks of words, at each w
pub equations_rows : (w : Width) (h : List Block) → Rows (block_count w) h → Rows (block_count w) (equations w h)
unfolding equations
equations_rows W3 h k = spread_rows h k
equations_rows W4 h k = ring_rows (spread h) (spread_rows h k)
equations_rows W5 h k =
    let r : List Block = reverse (spread h) in
    ring_rows (reverse (ring r)) (reverse-rows (ring r) (ring_rows r (reverse-rows (spread h) (spread_rows h k))))

equations_back-rows : (w : Width) (x : List Block) → Rows (block_count w) x → Rows (block_count w) (equations_back w x)
unfolding equations_back block_count
equations_back-rows W3 x k = unspread-rows third x k
equations_back-rows W4 x k = unspread-rows 1 (unring ring4 x) (unring-rows ring4 x k)
equations_back-rows W5 x k =
    let q : List Block = reverse (unring ring5 x) in
    let kq : Rows 5 q = reverse-rows (unring ring5 x) (unring-rows ring5 x k) in
    unspread-rows third (reverse (unring ring5 q)) (reverse-rows (unring ring5 q) (unring-rows ring5 q kq))

module _ (w : Width) (m : Block) (hm : Words m) where
  pub inject-rows : (h : List Block) → Rows (block_count w) h → Rows (block_count w) (inject w h m)
  inject-rows h k = rw (inject_equations w h m k.0) (message-rows (equations w h) m (equations_rows w h k) hm)

  pub inject_back-rows : (x : List Block) → Rows (block_count w) x → Rows (block_count w) (inject_back w x m)
  unfolding inject_back
  inject_back-rows x k = equations_back-rows w (less_message x m) (message-rows x m k hm)

  -- "the injection's inverse": for a fixed message block, either way round
  pub inject-back : (h : List Block) → Rows (block_count w) h → inject_back w (inject w h m) m ≡ h
  unfolding inject_back
  inject-back h k =
      ap (λ (x : List Block). equations_back w (less_message x m)) (inject_equations w h m k.0)
      ∙ ap (equations_back w) (less_message-back (equations w h) m)
      ∙ equations_back_lem w h k

  pub inject_forth : (x : List Block) → Rows (block_count w) x → inject w (inject_back w x m) m ≡ x
  unfolding inject_back
  inject_forth x k =
      inject_equations w (inject_back w x m) m (inject_back-rows x k).0
      ∙ ap (λ (y : List Block). less_message y m) (equations_forth w (less_message x m) (message-rows x m k hm))
      ∙ less_message-back x m

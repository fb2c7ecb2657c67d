-- What is sent to a place, link by link and well by well.
-- Assumes nothing.
use mathlib.Core.Path.{◌≡◌, refl, sym, ap, ◌∙◌}
use mathlib.Core.Bool.{Bool, true, false}
use mathlib.Core.List.{List, ◌∷◌}
use Prim.Native.Nat.{ℕ, ◌+◌, ◌*◌, ◌^◌, ◌<◌}
use native.Mathlib.Omega.{arith}
use borrow.Author.Tests.{eqb-true, eqb-false, eq-eqb, ne_eqb}
use lib.Dec.{eqb}
use lib.ListN.{length, get_or, set, drop}
use lib.Seq.{get_or-set_same, get_or-set_other}
use Rattle.std.proofs.lemmas.List.{at_drop_more}
use Rattle.definition.specs.Refusal.{pick}
use Rattle.plan_definition.specs.declared.Link.{Link}
use Rattle.plan_definition.specs.declared.Well.{Well}
use Rattle.plan_definition.specs.Well.{no_link}
use Rattle.plan_definition.specs.Rules.{producer, used}
use Rattle.plan_definition.proofs.Some.{at_index}
use Rattle.brine_sheet.specs.Sent.{Named, brought_to, sent_to, Takes}

-- so much more at a place is nothing more at any other
pub put_more : (x : List ℕ) (p a q : ℕ) → p < length x → get_or (set x p (get_or x p 0 + a)) q 0 ≡ get_or x q 0 + pick (eqb p q) a 0
unfolding pick
put_more x p a q h = go (eqb p q) refl
  where
    go : (b : Bool) → eqb p q ≡ b → get_or (set x p (get_or x p 0 + a)) q 0 ≡ get_or x q 0 + pick b a 0
    go true e = rw (← eqb-true p q e) (get_or-set_same x p (get_or x p 0 + a) 0 h)
    go false e = get_or-set_other x p q (get_or x p 0 + a) 0 (λ s. eqb-false p q e (sym s)) ∙ omega arith

-- the next link leads to p and has share s
module _ (t : List ℕ) (rate : ℕ) (ls : List Link) (k : ℕ) {p s : ℕ} (h : k < length ls) (e : p ≡ get_or t (get_or ls k no_link).injector 0) (f : s ≡ (get_or ls k no_link).share) where
  -- it leads to a place of the list
  pub leads_below : (m n : ℕ) → Named t n ls → m ≡ n → p < m
  unfolding Named
  leads_below m n names g = rw (e, g) (names _ (at_index ls k no_link h))

  -- what is there, what it brings and what the links after it bring
  pub next_brings : (q x m : ℕ) → x + brought_to t rate (drop k ls) q ≡ m → x + (pick (eqb p q) (rate * s) 0 + brought_to t rate (drop (k + 1) ls) q) ≡ m
  unfolding brought_to
  next_brings q x m g = rw (e, f) (ap (λ (b : ℕ). x + b) (sym (at_drop_more (λ l. brought_to t rate l q) ls k no_link h)) ∙ g)

  -- so no sum passes 64 bits
  pub brings_fit : (x y : List ℕ) → Named t (length y) ls → length x ≡ length y → Takes (brought_to t rate ls) y
      → get_or x p 0 + brought_to t rate (drop k ls) p ≡ get_or y p 0 + brought_to t rate ls p → get_or x p 0 + rate * s < 2 ^ 64
  unfolding Takes pick
  brings_fit x y names long room g =
      omega (arith, room p (rw (← long) (leads_below _ _ names long)), rw (eq-eqb p p refl) at (next_brings p _ _ g))

-- a producer and the wells after it, and another well
pub sent_producer : (t : List ℕ) (w : Well) (ws : List Well) (q : ℕ) → w.kind ≡ 1
    → sent_to t (w ∷ ws) q ≡ brought_to t w.rate (used w) q + sent_to t ws q
unfolding sent_to producer pick
sent_producer t w ws q e = rw (eq-eqb w.kind 1 e)

pub sent_other : (t : List ℕ) (w : Well) (ws : List Well) (q : ℕ) → (w.kind ≡ 1 → ⊥) → sent_to t (w ∷ ws) q ≡ sent_to t ws q
unfolding sent_to producer pick
sent_other t w ws q e = rw (ne_eqb w.kind 1 e) (omega arith)

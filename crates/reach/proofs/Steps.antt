-- A step well by well: what a marked well's links bring into the set, and which bytes a set marks.
-- Assumes nothing.
use mathlib.Core.Path.{◌≡◌, ap, ◌∙◌}
use mathlib.Core.Bool.{Bool, true, false, ◌||◌}
use mathlib.Core.List.{List, ◌∷◌}
use Prim.Native.Nat.{ℕ, suc, ◌<◌, ◌≤◌}
use native.Mathlib.Decide.{ℕ_discrete}
use native.Mathlib.Omega.{arith}
use borrow.Author.Tests.{eq-eqb, ne_eqb}
use lib.ListN.{length, get_or, set}
use lib.Seq.{get_or-set_same, get_or-set_other}
use Rattle.definition.specs.Refusal.{pick}
use Rattle.plan_definition.specs.declared.Well.{Well}
use Rattle.plan_definition.specs.Some.{some}
use Rattle.plan_definition.specs.Rules.{used}
use Rattle.plan.proofs.Passed.{either_first}
use Rattle.reach_definition.specs.Reach.{names}
use Rattle.reach.specs.Sets.{plus_named, linked_from}

module _ (r : List ℕ) (k : ℕ) (w : Well) (ws : List Well) (f : ℕ → Bool) where
  -- a marked well's links go into the set
  pub with_linked : (g : ℕ → Bool) (v : Well) → v ≡ w → get_or r w.place 0 ≡ 1 → g ≡ plus_named (used v) f
      → (some (linked_from r k) ws || g k) ≡ (some (linked_from r k) (w ∷ ws) || f k)
  unfolding some linked_from plus_named
  with_linked g v d e h =
      let named = h ∙ ap (λ (u : Well). plus_named (used u) f) d in
      rw (ap (λ (t : ℕ → Bool). t k) named, eq-eqb (get_or r w.place 0) 1 e)
      (either_first (some (names k) (used w)) (some (linked_from r k) ws) (f k))

  -- another's don't
  pub with_unmarked : (get_or r w.place 0 ≡ 1 → ⊥) → (some (linked_from r k) ws || f k) ≡ (some (linked_from r k) (w ∷ ws) || f k)
  unfolding some linked_from
  with_unmarked d = rw (ne_eqb (get_or r w.place 0) 1 d)

-- bytes that are marked by a test of their places below i, and as they were from there on
pub record Upto (test : ℕ → Bool) (i : ℕ) (before after : List ℕ) : Type 0 where
  pub below : (q : ℕ) → q < i → get_or after q 0 ≡ pick (test q) 1 (get_or before q 0)
  pub from : (q : ℕ) → i ≤ q → get_or after q 0 ≡ get_or before q 0

-- the next byte
pub next-byte : (test : ℕ → Bool) (i : ℕ) (r s t : List ℕ) → i < length s → Upto test i r s → (b : Bool) → test i ≡ b → t ≡ pick b (set s i 1) s
    → Upto test (suc i) r t
unfolding pick
next-byte test i r s t h u true e f = rw f (record { below = below; from = from })
  where
    below : (q : ℕ) → q < suc i → get_or (set s i 1) q 0 ≡ pick (test q) 1 (get_or r q 0)
    below q l =
        elim (ℕ_discrete q i) [
          | yes d ↦ rw (d, e) (get_or-set_same s i 1 0 h)
          | no d ↦ get_or-set_other s i q 1 0 d ∙ u.below q (omega arith)
        ]

    from : (q : ℕ) → suc i ≤ q → get_or (set s i 1) q 0 ≡ get_or r q 0
    from q l = get_or-set_other s i q 1 0 (λ d. omega arith) ∙ u.from q (omega arith)
next-byte test i r s t h u false e f = rw f (record { below = below; from = λ q l. u.from q (omega arith) })
  where
    below : (q : ℕ) → q < suc i → get_or s q 0 ≡ pick (test q) 1 (get_or r q 0)
    below q l =
        elim (ℕ_discrete q i) [
          | yes d ↦ rw (d, e) (u.from i (omega arith))
          | no d ↦ u.below q (omega arith)
        ]

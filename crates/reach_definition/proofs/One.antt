-- In a sound sheet a well's number names no other.
-- Assumes nothing.
use mathlib.Core.Path.{◌≡◌, sym, ap, ◌∙◌}
use mathlib.Core.Bool.{false}
use mathlib.Core.List.{List}
use Prim.Native.Nat.{ℕ}
use native.Mathlib.Decide.{ℕ_discrete, dec_lt}
use native.Mathlib.Omega.{arith}
use Rattle.plan_definition.specs.declared.Well.{Well}
use Rattle.plan_definition.specs.Some.{Among}
use Rattle.plan_definition.specs.Well.{well_of, wells}
use Rattle.plan_definition.specs.Rules.{struck}
use Rattle.plan_definition.specs.Sound.{KeepsNumber, Sound}
use Rattle.plan_definition.proofs.Struck.{once}
use Rattle.plan_definition.proofs.Places.{well_at, wells_at}

module _ (n : ℕ) (sheet : List ℕ) (keeps : Sound (wells n sheet)) where
  pub one_well : (v w : Well) → Among v (wells n sheet) → Among w (wells n sheet) → struck w ≡ false → v.number ≡ w.number → v ≡ w
  unfolding well_of Sound KeepsNumber
  one_well v w a b s e =
      let p = (wells_at n sheet v).0 a in
      let q = (wells_at n sheet w).0 b in
      let vp : v.place ≡ p.0 = ap (λ (u : Well). u.place) p.2 in
      let wq : w.place ≡ q.0 = ap (λ (u : Well). u.place) q.2 in
      let z = (keeps w b s).number in
      elim (ℕ_discrete p.0 q.0) [
        | yes d ↦ p.2 ∙ ap (λ (i : ℕ). well_at i sheet) d ∙ sym q.2
        | no d ↦ elim (dec_lt p.0 q.0) [
          | yes l ↦ absurd (once keeps a b (omega arith) e z)
          | no l ↦ absurd (once keeps b a (omega arith) (sym e) (λ y. z (sym e ∙ y)))
        ]
      ]

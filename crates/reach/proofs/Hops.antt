-- The hops left, and one hop before them.
-- Assumes nothing.
use mathlib.Core.Path.{◌≡◌}
use mathlib.Core.List.{List}
use Prim.Native.Nat.{ℕ, suc, ◌+◌, ◌-◌}
use native.Mathlib.Omega.{arith}
use Rattle.plan_definition.specs.declared.Well.{Well}
use Rattle.plan_definition.specs.Sound.{Sound}
use Rattle.plan_numbers.specs.Numbers.{has}
use Rattle.reach.specs.Sets.{plus_linked, MarkedBy}
use Rattle.reach.specs.Level.{Onward}
use Rattle.reach.proofs.Levels.{producers_hop, injectors_hop}

-- where none is left, all is as it was
pub no_hop : (kind : ℕ) (ws : List Well) (hops : ℕ) (r t : List ℕ) → hops ≡ 0 → Onward kind ws hops r t r t
unfolding Onward
no_hop kind ws hops r t e from h m l s = let z : h + hops ≡ h = omega arith in rw z l

module _ (ws : List Well) (keeps : Sound ws) (hops : ℕ) (some_left : hops ≡ 0 → ⊥) (r t r' t' : List ℕ) where
  -- a hop from producers before those that are left
  pub producers-on : (u : List ℕ) → has u ≡ plus_linked r ws (has t) → Onward 2 ws (hops - 1) r u r' t' → Onward 1 ws hops r t r' t'
  unfolding Onward
  producers-on u e on from h m l s =
      let z : h + hops ≡ suc h + (hops - 1) = omega arith in
      let p = producers_hop keeps m l e s in
      rw z (on from (suc h) m p.0 p.1)

  -- and one from injectors
  pub injectors-on : (q : List ℕ) → MarkedBy (has t) 1 ws r q → Onward 1 ws (hops - 1) q t r' t' → Onward 2 ws hops r t r' t'
  unfolding Onward
  injectors-on q b on from h m l s =
      let z : h + hops ≡ suc h + (hops - 1) = omega arith in
      let p = injectors_hop keeps m l b s in
      rw z (on from (suc h) m p.0 p.1)

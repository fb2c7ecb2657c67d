-- How large the figures of a sound sheet are: a producer's links carry 1000 times its rate, at most 100,000,000 kilograms a day.
-- Assumes nothing.
use mathlib.Core.Path.{◌≡◌, refl}
use mathlib.Core.Bool.{true}
use mathlib.Core.List.{List, [], ◌∷◌}
use Prim.Native.Nat.{ℕ, zero, suc, ◌*◌, ◌≤◌}
use native.Mathlib.Nat.{le_refl}
use native.Mathlib.Omega.{arith}
use lib.Dec.{eqb}
use lib.ListN.{length}
use Rattle.plan_definition.specs.declared.Link.{Link}
use Rattle.plan_definition.specs.declared.Well.{Well}
use Rattle.plan_definition.specs.Some.{Among}
use Rattle.plan_definition.specs.Some.Among.{here, later}
use Rattle.plan_definition.specs.Rules.{producer, used, total}
use Rattle.plan_definition.specs.Sound.{Keeps, MakesSense, KeepsLinkCount, KeepsRate, KeepsShares, Sound}
use Rattle.plan_definition.proofs.Exactly.{equal}
use Rattle.plan_definition.proofs.Struck.{of_kind}
use Rattle.brine_definition.specs.Page.{brought, intake_from, produced}
use Rattle.brine_definition.proofs.Sums.{pick-most}

-- links bring an injector no more than they carry
pub brought-most : (rate : ℕ) (ls : List Link) (k : ℕ) → brought rate ls k ≤ rate * total ls
unfolding brought total
brought-most rate [] k = omega arith
brought-most rate (l ∷ ls) k =
    omega (arith, brought-most rate ls k, pick-most (eqb l.injector k) (rate * l.share) (rate * l.share) (λ e. le_refl _))

module _ {all : List Well} where
  -- a producer's carry 1000 times its rate: their shares total 1000, and without links the rate is 0
  pub carried : {w : Well} → Keeps all w → producer w ≡ true → w.rate * total (used w) ≡ 1000 * w.rate
  unfolding producer KeepsLinkCount KeepsShares
  carried {w} h p = go w.count refl
    where
      go : (c : ℕ) → w.count ≡ c → w.rate * total (used w) ≡ 1000 * w.rate
      go zero e = let z : w.rate ≡ 0 = (h.link-count.0 ((equal w.kind 1).0 p)).1.0 e in rw z (omega arith)
      go (suc c) e = rw (h.shares (λ z. omega arith)).1 (omega arith)

  -- a producer isn't struck
  pub producer_keeps : {w : Well} → MakesSense all w → producer w ≡ true → Keeps all w
  unfolding producer
  producer_keeps {w} h p = h (of_kind w (λ z. omega (arith, (equal w.kind 1).0 p)))

  -- so each well brings an injector at most 100,000,000, and all of them so much for each
  pub intake-among : (ws : List Well) → ((w : Well) → Among w ws → MakesSense all w) → (k : ℕ) → intake_from ws k ≤ 100000000 * length ws
  unfolding intake_from KeepsRate
  intake-among [] h k = omega arith
  intake-among (w ∷ ws) h k =
      omega (
        arith,
        intake-among ws (λ v m. h v (later m)) k,
        pick-most (producer w) (brought w.rate (used w) k) 100000000 (λ p.
            let keeps = producer_keeps (h w here) p in
            omega (arith, brought-most w.rate (used w) k, carried keeps p, keeps.rate)),
      )

  pub produced-among : (ws : List Well) → ((w : Well) → Among w ws → MakesSense all w) → produced ws ≤ 100000 * length ws
  unfolding produced KeepsRate
  produced-among [] h = omega arith
  produced-among (w ∷ ws) h =
      omega (arith, produced-among ws (λ v m. h v (later m)), pick-most (producer w) w.rate 100000 (λ p. (producer_keeps (h w here) p).rate))

module _ (ws : List Well) (sound : Sound ws) where
  -- an injector's intake, and the producers' rates
  pub intake-most : (k : ℕ) → intake_from ws k ≤ 100000000 * length ws
  unfolding Sound
  intake-most = intake-among ws sound

  pub produced-most : produced ws ≤ 100000 * length ws
  unfolding Sound
  produced-most = produced-among ws sound

-- The tests pass exactly where their sentences hold: of a link, of a reach, and of a chain from the well that has the number.
-- Assumes nothing.
use mathlib.Core.Path.{◌≡◌, ap, ◌∙◌}
use mathlib.Core.Bool.{false}
use mathlib.Core.Logic.Iff
use mathlib.Core.Logic.{◌⊎◌, inl, inr, ⊎_elim}
use mathlib.Core.List.{List}
use Prim.Native.Nat.{ℕ, zero, suc}
use native.Mathlib.Omega.{arith}
use Rattle.plan_definition.specs.declared.Well.{Well}
use Rattle.plan_definition.specs.Some.{Among}
use Rattle.plan_definition.specs.Rules.{producer, injector, used, struck, has_number}
use Rattle.plan_definition.proofs.Exactly.{Passes, equal, either, both, one_of, one_passes}
use Rattle.plan_definition.proofs.Kept.{stands}
use Rattle.reach_definition.specs.Chain.{LinksTo, Reaches, Joined}
use Rattle.reach_definition.specs.Chain.Reaches.{links, linked}
use Rattle.reach_definition.specs.Reach.{names, links_to, reaches, joined}
use Rattle.reach_definition.proofs.Chains.{joined_more, joined-itself, joined_none, one_more, last_hop, joined-among}

pub links_exactly : (p i : Well) → Passes (links_to p i) (LinksTo p i)
unfolding links_to LinksTo producer injector names
links_exactly p i =
    Iff.trans (both (equal p.kind 1) (both (equal i.kind 2) (one_passes (used p) (λ l. equal l.injector i.number))))
    (λ s. (s.0, s.1.0, s.1.1), λ s. (s.0, (s.1, s.2)))

pub reaches_exactly : (v w : Well) → Passes (reaches v w) (Reaches v w)
unfolding reaches
reaches_exactly v w = Iff.trans (either (links_exactly v w) (links_exactly w v)) (⊎_elim links linked, down)
  where
    down : Reaches v w → LinksTo v w ⊎ LinksTo w v
    down (links l) = inl l
    down (linked l) = inr l

-- where the well has the number and no other record does
module _ (ws : List Well) (k : ℕ) (from : Well) (m : Among from ws) (well : struck from ≡ false) (its : from.number ≡ k)
    (only : (w : Well) → Among w ws → w.number ≡ k → w ≡ from) where
  pub joined_exactly : (h : ℕ) (w : Well) → Among w ws → Passes (joined ws k h w) (Joined ws h from w)
  unfolding joined has_number
  joined_exactly zero w a =
      Iff.trans (both (stands w) (equal w.number k))
      (λ s. rw (only w a s.1) joined-itself, λ j. let e = joined_none j in (rw e well, ap (λ (v : Well). v.number) e ∙ its))
  joined_exactly (suc h) w a =
      Iff.trans (either (joined_exactly h w a) (one_of ws (λ v b. both (joined_exactly h v b) (reaches_exactly v w)))) (
        ⊎_elim (joined_more (omega arith)) (λ s. one_more s.2.0 s.2.1 a),
        λ j. ⊎_elim inl (λ s. inr (s.0, joined-among m s.1, (s.1, s.2))) (last_hop j),
      )

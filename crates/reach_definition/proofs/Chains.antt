-- Chains of links: they lead back, and one of at most a hop more is one of at most so many or goes on from the end of one.
-- Assumes nothing.
use mathlib.Core.Path.{◌≡◌, refl}
use mathlib.Core.Logic.{◌⊎◌, inl, inr}
use mathlib.Core.Bool.{false}
use mathlib.Core.List.{List}
use Prim.Native.Nat.{ℕ, zero, suc, ◌≤◌}
use native.Mathlib.Omega.{arith}
use Rattle.plan_definition.specs.declared.Well.{Well}
use Rattle.plan_definition.specs.Some.{Among}
use Rattle.plan_definition.specs.Rules.{struck}
use Rattle.plan_definition.proofs.Struck.{of_kind}
use Rattle.reach_definition.specs.Chain.{LinksTo, Reaches, Chain, Joined}
use Rattle.reach_definition.specs.Chain.Reaches.{links, linked}
use Rattle.reach_definition.specs.Chain.Chain.{itself, on}

pub reaches-back : {v w : Well} → Reaches v w → Reaches w v
reaches-back (links l) = linked l
reaches-back (linked l) = links l

-- an injector is reached by a producer that links it, a producer by an injector that it links
pub from-injector : {v w : Well} → w.kind ≡ 1 → Reaches v w → LinksTo w v
unfolding LinksTo
from-injector e (links l) = absurd (omega (arith, e, l.1))
from-injector e (linked l) = l

pub from-producer : {v w : Well} → w.kind ≡ 2 → Reaches v w → LinksTo v w
unfolding LinksTo
from-producer e (links l) = l
from-producer e (linked l) = absurd (omega (arith, e, l.0))

-- neither is struck
reached-stands : {v w : Well} → Reaches v w → struck w ≡ false
unfolding LinksTo
reached-stands {w = w} (links l) = of_kind w (λ z. omega (arith, l.1))
reached-stands {w = w} (linked l) = of_kind w (λ z. omega (arith, l.0))

module _ {ws : List Well} where
  pub end-stands : {from w : Well} {k : ℕ} → struck from ≡ false → Chain ws from k w → struck w ≡ false
  end-stands s itself = s
  end-stands s (on c r n) = reached-stands r

  end-among : {from w : Well} {k : ℕ} → Among from ws → Chain ws from k w → Among w ws
  end-among m itself = m
  end-among m (on c r n) = n

  -- a link before a chain, and so a chain back
  before : {a from w : Well} {k : ℕ} → Reaches a from → Among from ws → Chain ws from k w → Chain ws a (suc k) w
  before r m itself = on itself r m
  before r m (on c s n) = on (before r m c) s n

  back : {from w : Well} {k : ℕ} → Among from ws → Chain ws from k w → Chain ws w k from
  back m itself = itself
  back m (on c r n) = before (reaches-back r) (end-among m c) (back m c)

  module _ {from : Well} where
    pub joined_back : {w : Well} {h : ℕ} → Among from ws → Joined ws h from w → Joined ws h w from
    joined_back m j = record { links = j.links; at_most = j.at_most; chain = back m j.chain }

    pub joined_more : {w : Well} {g h : ℕ} → g ≤ h → Joined ws g from w → Joined ws h from w
    joined_more l j = record { links = j.links; at_most = omega (arith, l, j.at_most); chain = j.chain }

    pub joined-itself : {h : ℕ} → Joined ws h from from
    joined-itself = record { links = 0; at_most = omega arith; chain = itself }

    none_on : {w : Well} (k : ℕ) → k ≤ 0 → Chain ws from k w → w ≡ from
    none_on zero l itself = refl
    none_on (suc k) l c = absurd (omega arith)

    -- at 0 hops there is the well alone
    pub joined_none : {w : Well} → Joined ws 0 from w → w ≡ from
    joined_none j = none_on j.links j.at_most j.chain

    pub one_more : {v w : Well} {h : ℕ} → Joined ws h from v → Reaches v w → Among w ws → Joined ws (suc h) from w
    one_more j r m = record { links = suc j.links; at_most = omega (arith, j.at_most); chain = on j.chain r m }

    last : {w : Well} (h k : ℕ) → k ≤ suc h → Chain ws from k w
        → Joined ws h from w ⊎ ((v : Well) × Joined ws h from v × Reaches v w)
    last h zero l c = inl (record { links = 0; at_most = omega arith; chain = c })
    last h (suc k) l (on {v = v} c r m) = inr (v, record { links = k; at_most = omega arith; chain = c }, r)

    -- a hop more is none, or one from the end of a chain
    pub last_hop : {w : Well} {h : ℕ} → Joined ws (suc h) from w → Joined ws h from w ⊎ ((v : Well) × Joined ws h from v × Reaches v w)
    last_hop {h = h} j = last h j.links j.at_most j.chain

    -- whatever is joined to a record is one
    pub joined-among : {w : Well} {h : ℕ} → Among from ws → Joined ws h from w → Among w ws
    joined-among m j = end-among m j.chain

-- From one hop to the next: producers that are marked take the injectors that they link, injectors that are taken mark the producers that link
-- them, and what is settled of one kind is then settled of the other.
-- Assumes nothing.
use mathlib.Core.Path.{◌≡◌, refl, sym, ap, ◌∙◌}
use mathlib.Core.Logic.Iff
use mathlib.Core.Logic.{◌↔◌, ◌⊎◌, inl, inr, ⊎_elim}
use mathlib.Core.Bool.{Bool, true, false, false≢true}
use mathlib.Core.List.{List}
use Prim.Native.Nat.{ℕ, suc}
use native.Mathlib.Decide.{ℕ_discrete}
use native.Mathlib.Omega.{arith}
use borrow.Author.Tests.{eq-eqb, ne_eqb}
use lib.ListN.{get_or}
use Rattle.definition.specs.Refusal.{pick}
use Rattle.plan_definition.specs.declared.Link.{Link}
use Rattle.plan_definition.specs.declared.Well.{Well}
use Rattle.plan_definition.specs.Some.{Among}
use Rattle.plan_definition.specs.Rules.{injector, used}
use Rattle.plan_definition.specs.Sound.{KeepsLinks, NamesInjector, Sound}
use Rattle.plan_definition.proofs.Struck.{of_link}
use Rattle.plan_definition.proofs.Exactly.{Passes, equal, either, both, one_passes}
use Rattle.reach_definition.specs.Chain.{LinksTo, Reaches, Joined}
use Rattle.reach_definition.specs.Chain.Reaches.{links, linked}
use Rattle.reach_definition.specs.Reach.{names}
use Rattle.reach_definition.proofs.Chains.{from-injector, from-producer, joined_more, joined_none, one_more, last_hop, joined-among}
use Rattle.reach.specs.Sets.{takes, touches, linked_from, plus_linked, MarkedBy}
use Rattle.reach.specs.Level.{JoinedProducer, JoinedInjector, Level, Settled}

-- kinds in turn: wells of the second are reached by wells of the first alone
abbrev pub Turns : (first second : ℕ) → Type 0
Turns a b = (v w : Well) → w.kind ≡ b → Reaches v w → v.kind ≡ a

pub to_injectors : Turns 1 2
unfolding LinksTo
to_injectors v w e r = (from-producer e r).0

pub to_producers : Turns 2 1
unfolding LinksTo
to_producers v w e r = (from-injector e r).1

module _ (ws : List Well) (from : Well) {a b : ℕ} (t : Turns a b) where
  turn : {h : ℕ} → Among from ws → Settled a ws from h → Settled b ws from (suc h)
  turn m s w n e j =
      ⊎_elim (λ i. i) (λ p. one_more (s p.0 (joined-among m p.1) (t p.0 w e p.2) p.1) p.2 n) (last_hop j)

  -- no link leads from a well to another of its kind
  pub first_turn : (a ≡ b → ⊥) → from.kind ≡ b → Settled b ws from 0
  first_turn d k w n e j =
      ⊎_elim (λ i. i) (λ p. absurd (d (sym (t p.0 w e p.2) ∙ ap (λ (v : Well). v.kind) (joined_none p.1) ∙ k))) (last_hop j)

-- a byte that is one, or was
pick_one : (b : Bool) (x : ℕ) → (pick b 1 x ≡ 1) ↔ ((b ≡ true) ⊎ (x ≡ 1))
unfolding pick
pick_one true x = (λ e. inl refl, λ s. refl)
pick_one false x = (λ e. inr e, ⊎_elim (λ e. cc) (λ e. e))

pick-bit : (b : Bool) (x : ℕ) → (x ≡ 0) ⊎ (x ≡ 1) → (pick b 1 x ≡ 0) ⊎ (pick b 1 x ≡ 1)
unfolding pick
pick-bit true x s = inr refl
pick-bit false x s = s

-- which wells a set touches
module _ (f : ℕ → Bool) (w : Well) where
  pub touches-producer : w.kind ≡ 1 → Passes (touches f 1 w) ((l : Link) × Among l (used w) × (f l.injector ≡ true))
  unfolding touches injector pick takes
  touches-producer e =
      rw (eq-eqb w.kind 1 e, ne_eqb w.kind 2 (λ d. omega (arith, d, e))) (one_passes (used w) (λ l. (λ x. x, λ x. x)))

  pub touches-injector : w.kind ≡ 2 → touches f 2 w ≡ f w.number
  unfolding touches injector pick
  touches-injector e = rw (eq-eqb w.kind 2 e)

  pub touches-other : (kind : ℕ) → (w.kind ≡ kind → ⊥) → touches f kind w ≡ false
  unfolding touches
  touches-other kind d = rw (ne_eqb w.kind kind d)

-- what a byte becomes where it is marked
module _ (f : ℕ → Bool) (kind : ℕ) {ws : List Well} (r s : List ℕ) (b : MarkedBy f kind ws r s) {w : Well} (m : Among w ws) where
  pub byte_one : (get_or s w.place 0 ≡ 1) ↔ ((touches f kind w ≡ true) ⊎ (get_or r w.place 0 ≡ 1))
  byte_one = rw (b w m) (pick_one (touches f kind w) (get_or r w.place 0))

  pub byte-bit : (get_or r w.place 0 ≡ 0) ⊎ (get_or r w.place 0 ≡ 1) → (get_or s w.place 0 ≡ 0) ⊎ (get_or s w.place 0 ≡ 1)
  byte-bit = rw (b w m) (pick-bit (touches f kind w) (get_or r w.place 0))

-- a test that is another passes where it does
alike : {a b : Bool} {A : Type 0} → a ≡ b → Passes b A → Passes a A
alike e p = (λ t. p.0 (sym e ∙ t), λ x. e ∙ p.1 x)

-- what the links of marked wells name, and what was in the set
plus_exactly : (r : List ℕ) (ws : List Well) (f : ℕ → Bool) (k : ℕ) → Passes (plus_linked r ws f k)
    (((w : Well) × Among w ws × ((get_or r w.place 0 ≡ 1) × ((l : Link) × Among l (used w) × (l.injector ≡ k)))) ⊎ (f k ≡ true))
unfolding plus_linked linked_from names
plus_exactly r ws f k =
    either
    (one_passes ws (λ w. both (equal (get_or r w.place 0) 1) (one_passes (used w) (λ l. equal l.injector k))))
    (λ e. e, λ e. e)

module _ {ws : List Well} {from : Well} {h : ℕ} {r : List ℕ} {f : ℕ → Bool} (keeps : Sound ws) (m : Among from ws) (l : Level ws from h r f) where
  -- a hop from producers
  pub producers_hop : {g : ℕ → Bool} → g ≡ plus_linked r ws f → Settled 1 ws from h → Level ws from (suc h) r g × Settled 2 ws from (suc h)
  unfolding LinksTo Sound KeepsLinks NamesInjector
  producers_hop {g} e s = (record { bits = l.bits; producers = producers; injectors = injectors }, turn ws from to_injectors m s)
    where
      producers : (w : Well) → Among w ws → (get_or r w.place 0 ≡ 1) ↔ JoinedProducer ws (suc h) from w
      producers w n =
          let i = l.producers w n in
          (λ b. let p = i.0 b in (p.0, joined_more (omega arith) p.1), λ p. i.1 (p.0, s w n p.0 p.1))

      injectors : (k : ℕ) → (g k ≡ true) ↔ JoinedInjector ws (suc h) from k
      injectors k =
          Iff.trans (alike (ap (λ (t : ℕ → Bool). t k) e) (plus_exactly r ws f k)) (
            ⊎_elim (λ p.
                let j = (l.producers p.0 p.1).0 p.2.0 in
                let a = p.2.1 in
                let v = (keeps p.0 p.1 (of_link p.0 a.1)).links.0 a.0 a.1 in
                (v.0, v.1, v.2 ∙ a.2, v.3, one_more j.1 (links (j.0, v.3, (a.0, a.1, sym v.2))) v.1))
                (λ t. let p = (l.injectors k).0 t in (p.0, p.1, p.2, p.3, joined_more (omega arith) p.4)),
            λ p. ⊎_elim (λ j. inr ((l.injectors k).1 (p.0, p.1, p.2, p.3, j))) (λ u.
                let t = from-producer p.3 u.2 in
                let n = joined-among m u.1 in
                inl (u.0, n, ((l.producers u.0 n).1 (t.0, u.1), (t.2.0, t.2.1, t.2.2 ∙ p.2)))) (last_hop p.4),
          )

  -- a hop from injectors
  pub injectors_hop : {s : List ℕ} → MarkedBy f 1 ws r s → Settled 2 ws from h → Level ws from (suc h) s f × Settled 1 ws from (suc h)
  unfolding LinksTo
  injectors_hop {s} b d = (record { bits = λ w n. byte-bit f 1 r s b n (l.bits w n); producers = producers; injectors = injectors }, turn ws from to_producers m d)
    where
      producers : (w : Well) → Among w ws → (get_or s w.place 0 ≡ 1) ↔ JoinedProducer ws (suc h) from w
      producers w n =
          Iff.trans (byte_one f 1 r s b n) (
            ⊎_elim by still,
            λ p. ⊎_elim (λ j. inr ((l.producers w n).1 (p.0, j))) (λ u. inl (here p.0 u.0 u.1 u.2)) (last_hop p.1),
          )
        where
          still : get_or r w.place 0 ≡ 1 → JoinedProducer ws (suc h) from w
          still e = let p = (l.producers w n).0 e in (p.0, joined_more (omega arith) p.1)

          by : touches f 1 w ≡ true → JoinedProducer ws (suc h) from w
          by t =
              elim (ℕ_discrete w.kind 1) [
                | yes e ↦
                    let p = (touches-producer f w e).0 t in
                    let v = (l.injectors p.0.injector).0 p.2 in
                    (e, one_more v.4 (linked (e, v.3, (p.0, p.1, sym v.2))) n)
                | no e ↦ absurd (false≢true (sym (touches-other f w 1 e) ∙ t))
              ]

          here : w.kind ≡ 1 → (v : Well) → Joined ws h from v → Reaches v w → touches f 1 w ≡ true
          here e v j q =
              let t = from-injector e q in
              (touches-producer f w e).1 (t.2.0, t.2.1, (l.injectors _).1 (v, joined-among m j, sym t.2.2, t.1, j))

      injectors : (k : ℕ) → (f k ≡ true) ↔ JoinedInjector ws (suc h) from k
      injectors k =
          let i = l.injectors k in
          (λ t. let p = i.0 t in (p.0, p.1, p.2, p.3, joined_more (omega arith) p.4), λ p. i.1 (p.0, p.1, p.2, p.3, d p.0 p.1 p.3 p.4))

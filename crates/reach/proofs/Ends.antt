-- Where a search starts, from a producer or from an injector, and that the marks of its injectors make its bytes those of the definition.
-- Assumes nothing.
use mathlib.Core.Path.{◌≡◌, refl, sym, ap, ◌∙◌}
use mathlib.Core.Logic.Iff
use mathlib.Core.Logic.{◌↔◌, ◌⊎◌, inl, inr, ⊎_elim}
use mathlib.Core.Bool.{Bool, true, false, false≢true, or-false}
use mathlib.Core.List.{List}
use Prim.Native.Nat.{ℕ, ◌+◌, ◌<◌}
use native.Mathlib.Decide.{ℕ_discrete}
use native.Mathlib.Omega.{arith}
use borrow.Author.Tests.{eqb-true, eq-eqb}
use lib.Dec.{eqb}
use lib.ListN.{length, get_or, set, replicate, length-replicate}
use lib.Seq.{get_or-set_same, get_or-set_other}
use Rattle.definition.specs.Refusal.{pick}
use Rattle.plan_definition.specs.declared.Well.{Well}
use Rattle.plan_definition.specs.Some.{Among}
use Rattle.plan_definition.specs.Well.{well_of, wells}
use Rattle.plan_definition.specs.Rules.{struck}
use Rattle.plan_definition.proofs.Exactly.{Passes}
use Rattle.plan_definition.proofs.Struck.{of_kind}
use Rattle.plan_definition.proofs.Places.{well_at}
use Rattle.plan_definition.proofs.Listed.{column}
use Rattle.plan_numbers.specs.Numbers.{has, plus}
use Rattle.plan_numbers.proofs.Numbers.{none_at, none_has}
use Rattle.reach_definition.specs.Chain.{Joined}
use Rattle.reach_definition.specs.Reach.{joined, marks}
use Rattle.reach_definition.proofs.Chains.{end-stands, joined-itself, joined_none}
use Rattle.reach_definition.proofs.Tests.{joined_exactly}
use Rattle.reach_definition.proofs.One.{one_well}
use Rattle.reach.specs.Sets.{touches, MarkedBy}
use Rattle.reach.specs.Level.{Searched, JoinedProducer, Level, Onward}
use Rattle.reach.proofs.Wells.{either_kind, at_among, at_each}
use Rattle.reach.proofs.Levels.{to_injectors, to_producers, first_turn, touches-injector, touches-other, byte_one, byte-bit}

module _ {sheet : List ℕ} {n : ℕ} (s : Searched sheet n) where
  module _ (place : ℕ) (h : place < n) where
    abbrev from : Well
    from = well_at place sheet

    abbrev bytes : List ℕ
    bytes = set (replicate n 0) place 1

    -- a producer is marked and no injector taken
    pub producer-start : from.kind ≡ 1 → Level (wells n sheet) from 0 bytes (has (replicate 1024 0))
    unfolding well_of
    producer-start e = record {
      bits = at_each sheet n (λ w. (get_or bytes w.place 0 ≡ 0) ⊎ (get_or bytes w.place 0 ≡ 1)) (λ p l.
          elim (ℕ_discrete p place) [ yes d ↦ inr (rw d same) | no d ↦ inl (other p d) ]);
      producers = at_each sheet n (λ w. (get_or bytes w.place 0 ≡ 1) ↔ JoinedProducer (wells n sheet) 0 from w) (λ p l.
          elim (ℕ_discrete p place) [
            | yes d ↦ rw d (λ b. (e, joined-itself), λ j. same)
            | no d ↦ (λ b. absurd (omega (arith, b, other p d)), λ j. absurd (d (ap (λ (w : Well). w.place) (joined_none j.1))))
          ]);
      injectors = λ k. (λ t. absurd (false≢true (sym (none_has 1024 k) ∙ t)), λ p. absurd (omega (arith, e, p.3, ap (λ (w : Well). w.kind) (joined_none p.4))));
    }
      where
        same : get_or bytes place 0 ≡ 1
        same = get_or-set_same (replicate n 0) place 1 0 (omega (arith, length-replicate {A = ℕ} n 0, h))

        other : (p : ℕ) → (p ≡ place → ⊥) → get_or bytes p 0 ≡ 0
        other p d = get_or-set_other (replicate n 0) place p 1 0 d ∙ none_at n p

    -- an injector is taken and no producer marked
    pub injector-start : from.kind ≡ 2 → (t : List ℕ) → has t ≡ plus from.number (has (replicate 1024 0))
        → Level (wells n sheet) from 0 (replicate n 0) (has t)
    unfolding plus
    injector-start e t f = record {
      bits = λ w m. inl (none_at n w.place);
      producers = λ w m. (λ b. absurd (omega (arith, b, none_at n w.place)), λ p. absurd (omega (arith, e, p.0, ap (λ (v : Well). v.kind) (joined_none p.1))));
      injectors = λ k. rw f (rw (none_has 1024 k, or-false (eqb from.number k))
          (λ b. (from, at_among s h, eqb-true from.number k b, e, joined-itself), λ p. eq-eqb from.number k (ap (λ (v : Well). v.number) (sym (joined_none p.4)) ∙ p.2)));
    }

    -- so many hops on from either
    pub producer-search : from.kind ≡ 1 → (z : List ℕ) → z ≡ replicate n 0 → (hops m : ℕ) (r t : List ℕ) → m ≡ n
        → Onward 1 (wells m sheet) hops (set z place 1) (replicate 1024 0) r t → Level (wells n sheet) from hops r (has t)
    unfolding Onward
    producer-search e z f hops m r t long on =
        let ws = wells n sheet in
        let o : Onward 1 ws hops bytes (replicate 1024 0) r t = rw (long, f) at on in
        let y : 0 + hops ≡ hops = omega arith in
        rw y at (o from 0 (at_among s h) (producer-start e) (first_turn ws from to_producers (λ d. omega arith) e))

    pub injector-search : from.kind ≡ 2 → (z : List ℕ) → z ≡ replicate n 0 → (u : List ℕ) → has u ≡ plus from.number (has (replicate 1024 0))
        → (hops m : ℕ) (r t : List ℕ) → m ≡ n → Onward 2 (wells m sheet) hops z u r t → Level (wells n sheet) from hops r (has t)
    unfolding Onward
    injector-search e z f u g hops m r t long on =
        let ws = wells n sheet in
        let o : Onward 2 ws hops (replicate n 0) u r t = rw (long, f) at on in
        let y : 0 + hops ≡ hops = omega arith in
        rw y at (o from 0 (at_among s h) (injector-start e u g) (first_turn ws from to_injectors (λ d. omega arith) e))

    -- two bits that are one alike
    same_bit : (x : ℕ) (b : Bool) {A : Type 0} → (x ≡ 0) ⊎ (x ≡ 1) → (x ≡ 1) ↔ A → Passes b A → x ≡ pick b 1 0
    unfolding pick
    same_bit x true o i p = i.1 (p.0 refl)
    same_bit x false (inl z) i p = z
    same_bit x false (inr e) i p = absurd (false≢true (p.1 (i.0 e)))

    module _ (well : struck from ≡ false) {hops : ℕ} {r : List ℕ} (x : List ℕ) {f : ℕ → Bool} (l : Level (wells n sheet) from hops r f) (b : MarkedBy f 2 (wells n sheet) r x) where
      -- with the injectors of the set marked, each record that is joined is
      last_mark : (w : Well) → Among w (wells n sheet) → (get_or x w.place 0 ≡ 1) ↔ Joined (wells n sheet) hops from w
      last_mark w m =
          Iff.trans (byte_one f 2 r x b m) (⊎_elim there (λ o. ((l.producers w m).0 o).1), λ j. back j (either_kind s.sound m (end-stands well j.chain)))
        where
          there : touches f 2 w ≡ true → Joined (wells n sheet) hops from w
          there t =
              elim (ℕ_discrete w.kind 2) [
                | yes e ↦
                    let p = (l.injectors w.number).0 (sym (touches-injector f w e) ∙ t) in
                    rw (one_well n sheet s.sound p.0 w p.1 m (of_kind w (λ z. omega arith)) p.2) at p.4
                | no e ↦ absurd (false≢true (sym (touches-other f w 2 e) ∙ t))
              ]

          back : Joined (wells n sheet) hops from w → (w.kind ≡ 1) ⊎ (w.kind ≡ 2) → (touches f 2 w ≡ true) ⊎ (get_or r w.place 0 ≡ 1)
          back j (inl e) = inr ((l.producers w m).1 (e, j))
          back j (inr e) = inl (touches-injector f w e ∙ (l.injectors w.number).1 (w, m, refl, e, j))

      -- so the bytes are the marks
      pub all_marks : length x ≡ n → x ≡ marks (wells n sheet) from.number hops
      unfolding marks well_of
      all_marks long = column n sheet (λ w. pick (joined (wells n sheet) from.number hops w) 1 0) 0 x long each
        where
          each : (q : ℕ) → q < n → get_or x q 0 ≡ pick (joined (wells n sheet) from.number hops (well_at q sheet)) 1 0
          each q g =
              let w = well_at q sheet in
              let m = at_among s g in
              same_bit (get_or x q 0) (joined (wells n sheet) from.number hops w) (byte-bit f 2 r x b m (l.bits w m)) (last_mark w m)
              (joined_exactly (wells n sheet) from.number from (at_among s h) well refl (λ v a. one_well n sheet s.sound v from a (at_among s h) well) hops w m)

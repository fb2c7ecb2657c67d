-- In a sound sheet the table of places finds the injector that a link names, so what is sent to a place is what its injector takes in.
-- Assumes nothing.
use mathlib.Core.Path.{◌≡◌, refl, sym, ap, ◌∙◌}
use mathlib.Core.Bool.{Bool, true, false, ◌&&◌, and-false}
use mathlib.Core.List.{List, [], ◌∷◌}
use Prim.Native.Nat.{ℕ, ◌+◌, ◌*◌, ◌<◌, ◌≤◌}
use native.Mathlib.Decide.{ℕ_discrete}
use native.Mathlib.Omega.{arith}
use borrow.Author.Tests.{eq-eqb, ne_eqb}
use lib.Dec.{eqb}
use lib.ListN.{length, get_or}
use Rattle.definition.specs.Refusal.{pick}
use Rattle.plan_definition.specs.declared.Link.{Link}
use Rattle.plan_definition.specs.declared.Well.{Well}
use Rattle.plan_definition.specs.Some.{Among}
use Rattle.plan_definition.specs.Some.Among.{here, later}
use Rattle.plan_definition.specs.Well.{well_of, wells}
use Rattle.plan_definition.specs.Rules.{producer, injector, used}
use Rattle.plan_definition.specs.Sound.{KeepsLinkCount, KeepsLinks, NamesInjector, Sound}
use Rattle.plan_definition.proofs.Struck.{of_kind, of_link, once, named_number}
use Rattle.plan_definition.proofs.Places.{well_at, wells_at}
use Rattle.plan_definition.proofs.Listed.{number_fits}
use Rattle.plan_record.specs.Total.{well_in}
use Rattle.plan_record.proofs.Total.{well_read}
use Rattle.plan_places.specs.Places.{placed}
use Rattle.plan_places.proofs.Places.{placed_at}
use Rattle.brine_definition.specs.Page.{brought, intake_from}
use Rattle.brine_definition.proofs.Sums.{pick-zero}
use Rattle.brine_sheet.specs.Sent.{Named, AllNamed, brought_to, sent_to}

-- a test that decides each part of a sum decides the sum
pick_each : (b e : Bool) (x r : ℕ) → pick (b && e) x 0 + pick b r 0 ≡ pick b (pick e x 0 + r) 0
unfolding pick
pick_each true e x r = refl
pick_each false e x r = refl

pick-within : (b e : Bool) (x r : ℕ) → pick e (pick b x 0) 0 + pick b r 0 ≡ pick b (pick e x 0 + r) 0
unfolding pick
pick-within true e x r = refl
pick-within false true x r = refl
pick-within false false x r = refl

-- a sound sheet's bytes, and a table for its places
pub record Given (n : ℕ) (sheet t : List ℕ) : Type 0 where
  pub few : n ≤ 1024
  pub room : 40 * n ≤ length sheet
  pub bytes : (i : ℕ) → get_or sheet i 0 < 256
  pub long : length t ≡ 65536
  pub sound : Sound (wells n sheet)

module _ {n : ℕ} {sheet t : List ℕ} (g : Given n sheet t) where
  -- wells at two places have two places
  apart : (p j : ℕ) → p < j → (well_at p sheet).place < (well_at j sheet).place
  unfolding well_of
  apart p j h = h

  -- and no other well has its number, so the table finds its place
  pub found : (p : ℕ) → p < n → ((well_at p sheet).number ≡ 0 → ⊥) → get_or (placed sheet n t) (well_at p sheet).number 0 ≡ p
  found p h d =
      rw (← reads p h) (placed_at sheet n t p h (omega (arith, g.few)) (rw (reads p h, g.long) (number_fits sheet g.bytes p))
      (λ j a l e. let f = rw (reads j l, reads p h) at e in once g.sound (there p h) (there j l) (apart p j a) (sym f) (λ z. d (sym f ∙ z))))
    where
      reads : (j : ℕ) → j < n → well_in sheet j ≡ well_at j sheet
      reads j l = well_read sheet j (omega (arith, g.room))

      there : (j : ℕ) → j < n → Among (well_at j sheet) (wells n sheet)
      there j l = (wells_at n sheet (well_at j sheet)).1 (j, l, refl)

  -- a link that a well uses names the injector at some place, and the table finds that
  named : (w : Well) → Among w (wells n sheet) → (l : Link) → Among l (used w)
      → (p : ℕ) × (p < n) × ((well_at p sheet).number ≡ l.injector) × ((well_at p sheet).kind ≡ 2) × (get_or (placed sheet n t) l.injector 0 ≡ p)
      × (l.injector ≡ 0 → ⊥)
  unfolding Sound KeepsLinks NamesInjector
  named w m l k =
      let v = (g.sound w m (of_link w k)).links.0 l k in
      let z = named_number (wells n sheet) l.injector g.sound v in
      let at = (wells_at n sheet v.0).0 v.1 in
      let number : (well_at at.0 sheet).number ≡ l.injector = rw at.2 at v.2 in
      (at.0, at.1, number, rw at.2 at v.3, ap (λ (k : ℕ). get_or (placed sheet n t) k 0) (sym number) ∙ found at.0 at.1 (λ y. z (sym number ∙ y)), z)

  -- so all links of producers lead to places of the sheet
  pub all_named : AllNamed (placed sheet n t) n (wells n sheet)
  unfolding AllNamed Named Sound KeepsLinkCount
  all_named w m e = (((g.sound w m (of_kind w (λ z. omega arith))).link-count.0 e).0, λ l k. let p = named w m l k in rw p.4 p.1)

  -- a link leads to a place exactly where it names the injector there
  leads : (w : Well) → Among w (wells n sheet) → (l : Link) → Among l (used w) → (q : ℕ) → q < n
      → eqb (get_or (placed sheet n t) l.injector 0) q ≡ injector (well_at q sheet) && eqb l.injector (well_at q sheet).number
  unfolding injector
  leads w m l k q h =
      let p = named w m l k in
      elim (ℕ_discrete p.0 q) [
        | yes e ↦
            let kind : (well_at q sheet).kind ≡ 2 = rw e at p.3 in
            let number : (well_at q sheet).number ≡ l.injector = rw e at p.2 in
            rw (eq-eqb _ q (p.4 ∙ e), eq-eqb _ 2 kind, eq-eqb l.injector _ (sym number))
        | no e ↦
            let other : l.injector ≡ (well_at q sheet).number → ⊥ =
            λ f. e (sym p.4 ∙ ap (λ (k : ℕ). get_or (placed sheet n t) k 0) f ∙ found q h (λ z. p.5 (f ∙ z))) in
            rw (ne_eqb _ q (λ f. e (sym p.4 ∙ f)), ne_eqb l.injector _ other) (sym (and-false (injector (well_at q sheet))))
      ]

  module _ (q : ℕ) (h : q < n) where
    -- what such links bring to a place is what they bring to its injector
    brings : (rate : ℕ) (ls : List Link) → ((l : Link) → Among l ls → (w : Well) × Among w (wells n sheet) × Among l (used w))
        → brought_to (placed sheet n t) rate ls q ≡ pick (injector (well_at q sheet)) (brought rate ls (well_at q sheet).number) 0
    unfolding brought_to brought
    brings rate [] u = sym (pick-zero (injector (well_at q sheet)))
    brings rate (l ∷ ls) u =
        let w = u l here in
        rw (leads w.0 w.1 l w.2 q h, brings rate ls (λ m k. u m (later k)))
        (pick_each (injector (well_at q sheet)) (eqb l.injector (well_at q sheet).number) (rate * l.share) (brought rate ls (well_at q sheet).number))

    -- and what the producers send there is its intake
    sends : (vs : List Well) → ((w : Well) → Among w vs → Among w (wells n sheet))
        → sent_to (placed sheet n t) vs q ≡ pick (injector (well_at q sheet)) (intake_from vs (well_at q sheet).number) 0
    unfolding sent_to intake_from
    sends [] u = sym (pick-zero (injector (well_at q sheet)))
    sends (w ∷ vs) u =
        rw (brings w.rate (used w) (λ l k. (w, u w here, k)), sends vs (λ v k. u v (later k)))
        (pick-within (injector (well_at q sheet)) (producer w) (brought w.rate (used w) (well_at q sheet).number) (intake_from vs (well_at q sheet).number))

    pub sent_there : sent_to (placed sheet n t) (wells n sheet) q ≡ pick (injector (well_at q sheet)) (intake_from (wells n sheet) (well_at q sheet).number) 0
    sent_there = sends (wells n sheet) (λ w m. m)

-- What is left of a sheet's wells is sound exactly when they are: the rules ask after what a well was, after injectors, and after the order of places.
-- Assumes nothing.
use mathlib.Core.Path.{◌≡◌, refl, sym, ◌∙◌}
use mathlib.Core.Logic.{◌↔◌}
use mathlib.Core.Bool.{Bool, true, false, true≢false}
use mathlib.Core.List.{List, [], ◌∷◌}
use Prim.Native.Nat.{ℕ, suc, ◌<◌}
use native.Mathlib.Omega.{arith}
use Rattle.definition.specs.Refusal.{pick}
use Rattle.plan_definition.specs.declared.Well.{Well}
use Rattle.plan_definition.specs.Some.{Among}
use Rattle.plan_definition.specs.Some.Among.{here, later}
use Rattle.plan_definition.specs.Rules.{used, unused, injector, struck}
use Rattle.plan_definition.specs.Sound.{KeepsNumber, KeepsKind, KeepsLinkCount, KeepsRate, NamesInjector, KeepsLinks, KeepsShares, KeepsUnusedLinks, KeepsRepeat, Keeps, Sound}
use Rattle.plan_definition.specs.Check.{sound}
use Rattle.plan_definition.proofs.Some.{none_among, among-cons}
use Rattle.plan_definition.proofs.Exactly.{alike}
use Rattle.plan_definition.proofs.Struck.{of_kind}
use Rattle.plan_definition.proofs.Faults.{Rising}
use Rattle.plan_definition.proofs.Tested.{sound_tested}
use Rattle.closed_plan.specs.Closed.{moved_to, wells_left}
use Rattle.closed_plan.proofs.Left.{was, is_left, struck_moved}

-- no number is met again, said without places: each well's is another than those of the wells behind it
abbrev Other : Well → Well → Type 0
Other w v = struck w ≡ false → struck v ≡ false → v.number ≡ w.number → ⊥

abbrev NoneAgain : List Well → Type 0
NoneAgain [] = Unit
NoneAgain (w ∷ ws) = ((v : Well) → Among v ws → Other w v) × NoneAgain ws

-- in a list whose places rise that is the rule of repeats
abbrev Kept : List Well → Type 0
Kept ws = (w : Well) → Among w ws → struck w ≡ false → KeepsRepeat ws w

none_again : (ws : List Well) → Rising ws → Kept ws → NoneAgain ws
unfolding KeepsRepeat
none_again [] r k = tt
none_again (w ∷ ws) r k = (
  λ v m e f n. k v (later m) f w here (r.0 v m) e (sym n),
  none_again ws r.1 (λ v m e u i. k v (later m) e u (later i)),
)

kept : (ws : List Well) → Rising ws → NoneAgain ws → Kept ws
unfolding KeepsRepeat
kept [] r n w m e v i h f s = absurd (none_among m)
kept (x ∷ xs) r n w m e v i h f s =
    among-cons (λ w. struck w ≡ false → v.place < w.place → v.number ≡ w.number → ⊥)
    (λ e h s. among-cons (λ v. v.place < x.place → ⊥) (λ h. omega arith) (λ v i h. omega (arith, r.0 v i)) v i h)
    (λ w m e h s. among-cons (λ v. struck v ≡ false → v.place < w.place → v.number ≡ w.number → ⊥)
    (λ f h s. n.0 w m f e (sym s)) (λ v i f h s. kept xs r.1 n.1 w m e v i h f s) v i f h s)
    w m e h s

-- and so of the wells that are left
again_left : (p : ℕ) (ws : List Well) → NoneAgain ws ↔ NoneAgain (wells_left p ws)
unfolding wells_left
again_left p [] = (λ n. n, λ n. n)
again_left p (w ∷ ws) = go (struck w) refl (again_left p ws) (again_left (suc p) ws)
  where
    others : struck w ≡ false → ((v : Well) → Among v ws → Other w v) → (v : Well) → Among v (wells_left (suc p) ws) → Other (moved_to p w) v
    others e h v m a b s =
        let u = was (suc p) ws v m in
        h u.well u.among e u.stands (unfold moved_to in (rw u.moved at s))

    those : ((v : Well) → Among v (wells_left (suc p) ws) → Other (moved_to p w) v) → (v : Well) → Among v ws → Other w v
    those h v m a b s =
        let i = is_left (suc p) ws v m b in
        h (moved_to i.0 v) i.1 (struck_moved p w ∙ a) (struck_moved i.0 v ∙ b) (unfold moved_to in s)

    go : (b : Bool) → struck w ≡ b → NoneAgain ws ↔ NoneAgain (wells_left p ws) → NoneAgain ws ↔ NoneAgain (wells_left (suc p) ws)
        → NoneAgain (w ∷ ws) ↔ NoneAgain (pick b (wells_left p ws) (moved_to p w ∷ wells_left (suc p) ws))
    go true e i j = unfold pick in (λ n. i.0 n.1, λ n. (λ v m a. absurd (true≢false (sym e ∙ a)), i.1 n))
    go false e i j = unfold pick in (λ n. (others e n.0, j.0 n.1), λ n. (those n.0, j.1 n.1))

-- an injector is among the wells exactly when it is among those left
names_left : (p : ℕ) (ws : List Well) (k : ℕ) → NamesInjector ws k ↔ NamesInjector (wells_left p ws) k
unfolding NamesInjector moved_to
names_left p ws k = (
  λ s. let i = is_left p ws s.0 s.1 (of_kind s.0 (λ z. omega (arith, s.3))) in (moved_to i.0 s.0, i.1, s.2, s.3),
  λ s. let u = was p ws s.0 s.1 in (u.well, u.among, rw u.moved at s.2, rw u.moved at s.3),
)

-- a well that keeps the rules keeps them at another place among wells that name as many injectors, repeats aside
keeps_there : (ws vs : List Well) → ((k : ℕ) → NamesInjector ws k → NamesInjector vs k) → (p : ℕ) (w : Well)
    → Keeps ws w → KeepsRepeat vs (moved_to p w) → Keeps vs (moved_to p w)
unfolding moved_to KeepsNumber KeepsKind KeepsLinkCount KeepsRate KeepsLinks KeepsShares KeepsUnusedLinks used unused injector
keeps_there ws vs n p w h r =
    record {
      number = h.number;
      kind = h.kind;
      link-count = h.link-count;
      rate = h.rate;
      links = (λ l m. n l.injector (h.links.0 l m), h.links.1);
      shares = h.shares;
      unused-links = h.unused-links;
      repeat = r;
    }

-- where the places rise before and after
module _ (p : ℕ) (ws : List Well) (r : Rising ws) (r' : Rising (wells_left p ws)) where
  still : Sound ws → Sound (wells_left p ws)
  unfolding Sound
  still s v m e =
      let u = was p ws v m in
      let a = kept (wells_left p ws) r' ((again_left p ws).0 (none_again ws r (λ w i f. (s w i f).repeat))) v m e in
      rw u.moved (keeps_there ws (wells_left p ws) (λ k. (names_left p ws k).0) u.place u.well (s u.well u.among u.stands) (rw u.moved at a))

  already : Sound (wells_left p ws) → Sound ws
  unfolding Sound moved_to
  already s w m e =
      let i = is_left p ws w m e in
      keeps_there (wells_left p ws) ws (λ k. (names_left p ws k).1) w.place (moved_to i.0 w) (s (moved_to i.0 w) i.1 (struck_moved i.0 w ∙ e))
      (kept ws r ((again_left p ws).1 (none_again (wells_left p ws) r' (λ v j f. (s v j f).repeat))) w m e)

  pub sound_left : sound (wells_left p ws) ≡ sound ws
  sound_left =
      alike (λ e. (sound_tested ws).1 (already ((sound_tested (wells_left p ws)).0 e))) (λ e. (sound_tested (wells_left p ws)).1 (still ((sound_tested ws).0 e)))

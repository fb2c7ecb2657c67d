-- The wells that are left are those that aren't struck, each with what it was but for its place.
-- Assumes nothing.
use mathlib.Core.Path.{◌≡◌, refl, sym, ap, ◌∙◌}
use mathlib.Core.Bool.{Bool, true, false, true≢false}
use mathlib.Core.List.{List, [], ◌∷◌}
use Prim.Native.Nat.{ℕ, suc}
use Rattle.definition.specs.Refusal.{pick}
use Rattle.sheet_definition.specs.Struck.{all_zero, standing}
use Rattle.plan_definition.specs.declared.Well.{Well}
use Rattle.plan_definition.specs.Some.{Among}
use Rattle.plan_definition.specs.Some.Among.{here, later}
use Rattle.plan_definition.specs.Well.{well_of, wells_from}
use Rattle.plan_definition.specs.Rules.{struck}
use Rattle.plan_definition.proofs.Some.{none_among, among-cons}
use Rattle.plan_definition.proofs.Struck.{struck_by_bytes}
use Rattle.closed_plan.specs.Closed.{moved_to, wells_left}

-- of the records that stand, from place p on
pub wells_left_lem : (p i : ℕ) (rs : List (List ℕ)) → wells_from p (standing rs) ≡ wells_left p (wells_from i rs)
unfolding wells_from standing wells_left
wells_left_lem p i [] = refl
wells_left_lem p i (x ∷ xs) = go (all_zero x) (struck_by_bytes i x) (wells_left_lem p (suc i) xs) (wells_left_lem (suc p) (suc i) xs)
  where
    go : (b : Bool) → struck (well_of i x) ≡ b → wells_from p (standing xs) ≡ wells_left p (wells_from (suc i) xs)
        → wells_from (suc p) (standing xs) ≡ wells_left (suc p) (wells_from (suc i) xs)
        → wells_from p (pick b (standing xs) (x ∷ standing xs))
        ≡ pick (struck (well_of i x)) (wells_left p (wells_from (suc i) xs)) (moved_to p (well_of i x) ∷ wells_left (suc p) (wells_from (suc i) xs))
    go true e h k = unfold pick wells_from in rw e h
    go false e h k = unfold pick wells_from well_of moved_to in rw e (ap (λ (l : List Well). well_of p x ∷ l) k)

-- what holds of no wells, goes on over a struck one and goes on with one that is left, holds of any wells and those left of them
pub by_left : (P : (p : ℕ) → (ws left : List Well) → Type 0) → ((p : ℕ) → P p [] [])
    → ((p : ℕ) (w : Well) (ws vs : List Well) → struck w ≡ true → P p ws vs → P p (w ∷ ws) vs)
    → ((p : ℕ) (w : Well) (ws vs : List Well) → struck w ≡ false → P (suc p) ws vs → P p (w ∷ ws) (moved_to p w ∷ vs))
    → (p : ℕ) (ws : List Well) → P p ws (wells_left p ws)
unfolding wells_left pick
by_left P a f g p [] = a p
by_left P a f g p (w ∷ ws) = go (struck w) refl (by_left P a f g p ws) (by_left P a f g (suc p) ws)
  where
    go : (b : Bool) → struck w ≡ b → P p ws (wells_left p ws) → P (suc p) ws (wells_left (suc p) ws)
        → P p (w ∷ ws) (pick b (wells_left p ws) (moved_to p w ∷ wells_left (suc p) ws))
    go true e h i = f p w ws (wells_left p ws) e h
    go false e h i = g p w ws (wells_left (suc p) ws) e i

-- where a well that is left was
pub record Was (ws : List Well) (v : Well) : Type 0 where
  pub well : Well
  pub among : Among well ws
  pub stands : struck well ≡ false
  pub place : ℕ
  pub moved : v ≡ moved_to place well

pub was : (p : ℕ) (ws : List Well) (v : Well) → Among v (wells_left p ws) → Was ws v
was =
    by_left (λ p ws vs. (v : Well) → Among v vs → Was ws v) (λ p v m. absurd (none_among m)) (λ p w ws vs e i v m. on w (i v m))
    (λ p w ws vs e i. among-cons (Was (w ∷ ws)) (record { well = w; among = here; stands = e; place = p; moved = refl }) (λ v m. on w (i v m)))
  where
    on : {ws : List Well} {v : Well} (w : Well) → Was ws v → Was (w ∷ ws) v
    on w s = record { well = s.well; among = later s.among; stands = s.stands; place = s.place; moved = s.moved }

-- and where one that was is left
pub is_left : (p : ℕ) (ws : List Well) (w : Well) → Among w ws → struck w ≡ false → (k : ℕ) × Among (moved_to k w) (wells_left p ws)
is_left =
    by_left (λ p ws vs. (w : Well) → Among w ws → struck w ≡ false → (k : ℕ) × Among (moved_to k w) vs) (λ p w m. absurd (none_among m))
    (λ p w ws vs e i. among-cons _ (λ f. absurd (true≢false (sym e ∙ f))) i)
    (λ p w ws vs e i. among-cons _ (λ f. (p, here)) (λ v m f. let s = i v m f in (s.0, later s.1)))

-- at another place it is no more struck
pub struck_moved : (p : ℕ) (w : Well) → struck (moved_to p w) ≡ struck w
unfolding struck moved_to
struck_moved p w = refl

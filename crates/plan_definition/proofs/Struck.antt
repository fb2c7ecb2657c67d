-- Struck records: a record is one by its bytes alone, is no rule's fault, and is neither numbered, of a kind, nor linked; and a sound sheet has a
-- number once.
-- Assumes nothing.
use mathlib.Core.Path.{◌≡◌, refl, sym, ◌∙◌}
use mathlib.Core.Bool.{Bool, true, false, not, ◌&&◌, ◌||◌, and_assoc, not-not}
use mathlib.Core.List.{List, [], ◌∷◌}
use Prim.Native.Nat.{ℕ, zero, suc, ◌+◌, ◌*◌, ◌<◌}
use native.Mathlib.Omega.{arith}
use lib.Dec.{eqb}
use lib.ListN.{get_or, drop, drop_of_length-le}
use borrow.Author.Tests.{eq-eqb, ne_eqb}
use Rattle.definition.specs.Refusal.{pick, first_of}
use Rattle.definition.proofs.Cases.{every_below}
use Rattle.sheet_definition.specs.Struck.{all_zero}
use Rattle.plan_definition.specs.declared.Link.{Link}
use Rattle.plan_definition.specs.declared.Well.{Well}
use Rattle.plan_definition.specs.declared.Rule.TheVariants.{Number}
use Rattle.plan_definition.specs.Some.{some, Among}
use Rattle.plan_definition.specs.Well.{two, four, link_at, well_of}
use Rattle.plan_definition.specs.Rules.{used, not_zero, struck, breaks_number, rule_number, rules_by, rules_at}
use Rattle.plan_definition.specs.Sound.{KeepsNumber, NamesInjector, KeepsRepeat, Sound}
use Rattle.plan_definition.proofs.Some.{none_among}
use Rattle.plan_definition.proofs.Exactly.{Passes, not_passing, equal, not_passes, both}
use Rattle.plan_definition.proofs.Kept.{zero-links}

module _ (w : Well) where
  -- nothing of it is set
  pub nothing-set : Passes (struck w) ((w.number ≡ 0) × ((w.kind ≡ 0) × ((w.count ≡ 0) × ((w.rate ≡ 0)
      × (((l : Link) → Among l w.links → (l.injector ≡ 0) × (l.share ≡ 0)) × (w.noted ≡ false))))))
  unfolding struck
  nothing-set =
      both (equal w.number 0) (both (equal w.kind 0) (both (equal w.count 0) (both (equal w.rate 0)
      (both (not_passes (zero-links w.links)) (not_passes (λ e. e, λ e. e))))))

  -- so one that has a number, a kind or a link stands
  pub of_number : (w.number ≡ 0 → ⊥) → struck w ≡ false
  of_number d = not_passing (λ e. d (nothing-set.0 e).0)

  pub of_kind : (w.kind ≡ 0 → ⊥) → struck w ≡ false
  of_kind d = not_passing (λ e. d (nothing-set.0 e).1.0)

  pub of_link : {l : Link} → Among l (used w) → struck w ≡ false
  unfolding used
  of_link m = not_passing (λ e. none_among (rw (nothing-set.0 e).1.1.0 at m))

-- in a sound sheet no later place has the number of one before it, unless that is 0
pub once : {ws : List Well} {v w : Well} → Sound ws → Among v ws → Among w ws → v.place < w.place → v.number ≡ w.number
    → (w.number ≡ 0 → ⊥) → ⊥
unfolding Sound KeepsRepeat
once {v = v} {w = w} keeps a b h e d = (keeps w b (of_number w d)).repeat v a h (of_number v (λ z. d (sym e ∙ z))) e

-- and the number that a link names isn't 0
pub named_number : (ws : List Well) (k : ℕ) → Sound ws → NamesInjector ws k → k ≡ 0 → ⊥
unfolding Sound KeepsNumber NamesInjector
named_number ws k keeps n z = (keeps n.0 n.1 (of_kind n.0 (λ y. omega (arith, n.3)))).number (n.2 ∙ z)

-- a struck record has no rule to break
pub exempt_rules : (ws : List Well) (w : Well) → struck w ≡ true → rules_at ws w ≡ []
unfolding rules_at pick
exempt_rules ws w e = rw e

-- a record of number 0 that isn't struck breaks the rule of the number
pub number_0 : (ws : List Well) (w : Well) → struck w ≡ false → w.number ≡ 0 → first_of (rules_at ws w) ≡ rule_number Number
unfolding rules_at rules_by breaks_number first_of pick
number_0 ws w s e = rw (s, eq-eqb w.number 0 e)

-- bytes are zeros exactly when the first n are and the rest
first_zeros : (n : ℕ) (x : List ℕ) → all_zero x ≡ (every_below n (λ i. eqb (get_or x i 0) 0) && all_zero (drop n x))
unfolding all_zero
first_zeros zero x = refl
first_zeros (suc n) [] = rw (drop_of_length-le {A = ℕ} [] {i = n} (omega arith)) at (first_zeros n [])
first_zeros (suc n) (b ∷ x) = rw (first_zeros n x) (sym (and_assoc (eqb b 0) _ _))

-- a number of two parts is 0 exactly when both are
pair : (k a b : ℕ) → eqb (suc k * a + b) 0 ≡ (eqb a 0 && eqb b 0)
pair k zero b = let e : suc k * 0 + b ≡ b = omega arith in rw e
pair k (suc a) b = rw (ne_eqb (suc k * suc a + b) 0 (omega arith), ne_eqb (suc a) 0 (omega arith))

not_or : (a b : Bool) → not (a || b) ≡ (not a && not b)
not_or true b = refl
not_or false b = refl

-- so a record is struck by its bytes alone
pub struck_by_bytes : (place : ℕ) (x : List ℕ) → struck (well_of place x) ≡ all_zero x
unfolding struck well_of link_at four two not_zero some
struck_by_bytes place x = rw (first_zeros 24 x) (simp (pair 255, pair 65535, not_or, not-not, and_assoc))

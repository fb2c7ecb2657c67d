-- What the first four rules leave to the other four: which of these is first, and no more than four links, all of an injector's unused.
-- Assumes nothing.
use mathlib.Core.Path.{◌≡◌, refl, sym}
use mathlib.Core.Logic.◌⊎◌.{inl, inr}
use mathlib.Core.Bool.{Bool, true, false, false≢true}
use Prim.Native.Nat.{ℕ, ◌≤◌}
use native.Mathlib.Omega.{arith}
use borrow.Author.Tests.{eq-eqb, ne_eqb}
use Rattle.std.specs.Prelude.{Option, None, Some, is_some}
use Rattle.definition.specs.Refusal.{pick, first_of, condition_of}
use Rattle.definition.proofs.Refusals.{front-given, rest-given, fails}
use Rattle.plan_definition.specs.declared.Well.{Well}
use Rattle.plan_definition.specs.declared.Rule.{Rule}
use Rattle.plan_definition.specs.declared.Rule.TheVariants.{Kind, LinkCount}
use Rattle.plan_definition.specs.Rules.{injector, breaks_kind, breaks_link_count, rule_number, number_of, rules_by}
use Rattle.plan_definition.specs.Sound.{KeepsKind, KeepsLinkCount}
use Rattle.plan_definition.proofs.Faults.{rule-number}
use Rattle.plan_definition.proofs.Kept.{kind-kept, link_count_kept}
use Rattle.plan_rules.specs.Parts.{shape_rules, link_rules}

module _ (f g : ℕ → Bool) (w : Well) {k : ℕ} (e : k ≡ first_of (shape_rules w)) where
  pub of_shape : (k ≡ 0 → ⊥) → k ≡ first_of (rules_by f g w)
  unfolding shape_rules link_rules rules_by
  of_shape = front-given (shape_rules w) (link_rules f g w) e

  pub after_shape : k ≡ 0 → first_of (rules_by f g w) ≡ first_of (link_rules f g w)
  unfolding shape_rules link_rules rules_by
  after_shape = rest-given (shape_rules w) (link_rules f g w) (omega arith) e

module _ (w : Well) (e : first_of (shape_rules w) ≡ 0) where
  kept : (breaks_kind w ≡ false) × (breaks_link_count w ≡ false)
  unfolding shape_rules rules_by condition_of pick
  kept = let h = fails (shape_rules w) (omega arith) e in (h (rule_number Kind), h (rule_number LinkCount))

  -- at most four, and none of an injector
  few : KeepsKind w → KeepsLinkCount w → (w.count ≤ 4) × (pick (injector w) 0 w.count ≡ w.count)
  unfolding KeepsKind KeepsLinkCount injector pick
  few (inl p) l = ((l.0 p).0, rw (ne_eqb w.kind 2 (λ q. omega arith)))
  few (inr p) l = let z = l.1 p in (omega arith, rw (eq-eqb w.kind 2 p, z))

  pub few-links : (w.count ≤ 4) × (pick (injector w) 0 w.count ≡ w.count)
  few-links = few ((kind-kept w).0 kept.0) ((link_count_kept w).0 kept.1)

-- a first rule that isn't there has the number 0, and one that is has another
pub none_told : (first : Option Rule) → is_some first ≡ false → number_of first ≡ 0
none_told None e = refl
none_told (Some rule) e = absurd (false≢true (sym e))

pub some_told : (first : Option Rule) → is_some first ≡ true → number_of first ≡ 0 → ⊥
some_told None e z = false≢true e
some_told (Some rule) e z = omega (arith, (rule-number rule).0)

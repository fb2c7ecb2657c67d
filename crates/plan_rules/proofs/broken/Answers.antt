-- `plan_rules::broken` meets its contract: one of the first four rules, or the tests that led to the return say which is first.
-- Assumes nothing.
use mathlib.Core.Path.{◌≡◌, sym, ap, ◌∙◌}
use mathlib.Core.Bool.{Bool, false, not, ◌&&◌}
use mathlib.Core.List.{List}
use Prim.Native.Nat.{ℕ}
use borrow.Author.Rules.{rules}
use lib.Dec.{eqb}
use lib.ListN.{length, take, drop}
use Rattle.std.specs.Prelude.{Option, is_some}
use Rattle.std.specs.List.{list_any}
use Rattle.definition.specs.Refusal.{pick, first_of}
use Rattle.plan_definition.specs.declared.Link.{Link}
use Rattle.plan_definition.specs.declared.Rule.{Rule}
use Rattle.plan_definition.specs.declared.Well.{Well}
use Rattle.plan_definition.specs.Some.{some}
use Rattle.plan_definition.specs.Rules.{used, unused, misnamed, not_zero, breaks_links, breaks_shares, breaks_unused_links, breaks_repeat, number_of, rules_by}
use Rattle.plan_definition.proofs.Some.{listed}
use Rattle.plan_numbers.specs.Numbers.{has}
use Rattle.plan_rules.specs.Parts.{shape_rules, link_rules, misshared}
use Rattle.plan_rules.proofs.Shape.{of_shape, after_shape, few-links, none_told, some_told}
use Rattle.plan_rules.proofs.broken.Goals as goal

module _ {b : Bool} (w : Well) {ls : List Link} where
  -- what is tested
  links : (f : ℕ → Bool) → ls ≡ take w.count w.links → b ≡ misnamed f ls → b ≡ breaks_links f w
  unfolding breaks_links used
  links f p e = e ∙ ap (misnamed f) p

  shares : ls ≡ take w.count w.links → length ls ≡ w.count → b ≡ misshared (length ls) ls → b ≡ breaks_shares w
  unfolding breaks_shares used misshared
  shares p n e = e ∙ (λ i. misshared (n i) (p i))

  -- of an injector too the links that aren't used are those from the link count on
  unused-links : first_of (shape_rules w) ≡ 0 → ls ≡ drop w.count w.links
      → b ≡ list_any (λ m. not (eqb m.injector 0 && eqb m.share 0)) ls → b ≡ breaks_unused_links w
  unfolding breaks_unused_links unused not_zero
  unused-links z p e = rw (few-links w z).1 (e ∙ listed not_zero ls ∙ ap (some not_zero) p)

pub returns-then-is_some : goal.returns-then-is_some
returns-then-is_some c = of_shape _ _ _ c.shaped-first.ensures (some_told _ (sym c.is_some.ensures ∙ c.if-is_some.true))

pub split_at-requires : goal.split_at-requires
split_at-requires c =
    let four : length c.args.w.links ≡ 4 = search rules in
    rw (c.from.ensures, four) (few-links _ (sym c.shaped-first.ensures ∙ none_told _ (sym c.is_some.ensures ∙ c.if-is_some.false))).0

-- the first four rules hold, so the other four decide
module _ (f g : ℕ → Bool) (w : Well) (first : Option Rule) {ls : List Link} {l : Bool}
    (e : number_of first ≡ first_of (shape_rules w)) (none : is_some first ≡ false)
    (front : ls ≡ take w.count w.links) (l-is : l ≡ misnamed f ls) where
  after_links : first_of (rules_by f g w) ≡ pick l 5 (pick (breaks_shares w) 6 (pick (breaks_unused_links w) 7 (pick (g w.number) 8 0)))
  unfolding first_of link_rules rules_by breaks_repeat
  after_links = after_shape f g w e (none_told first none) ∙ rw (sym (links w f front l-is))

  after_shares : {s : Bool} → length ls ≡ w.count → s ≡ misshared (length ls) ls
      → first_of (rules_by f g w) ≡ pick l 5 (pick s 6 (pick (breaks_unused_links w) 7 (pick (g w.number) 8 0)))
  after_shares n s-is = rw (shares w front n s-is) after_links

  after_unused : {ms : List Link} {s u : Bool} → length ls ≡ w.count → s ≡ misshared (length ls) ls
      → ms ≡ drop w.count w.links → u ≡ list_any (λ m. not (eqb m.injector 0 && eqb m.share 0)) ms
      → first_of (rules_by f g w) ≡ pick l 5 (pick s 6 (pick u 7 (pick (g w.number) 8 0)))
  after_unused n s-is back u-is = rw (unused-links w (sym e ∙ none_told first none) back u-is) (after_shares n s-is)

pub returns-then-misnamed : goal.returns-then-misnamed
unfolding pick
returns-then-misnamed c =
    let a = c.args in
    sym (after_links (has a.injectors.now) (has a.seen.now) a.w _ c.shaped-first.ensures (sym c.is_some.ensures ∙ c.if-is_some.false)
    (rw c.from.ensures at c.split_at.ensures.front) c.links_break-misnamed.ensures ∙ rw c.if-misnamed.true)

pub returns-then-misshared : goal.returns-then-misshared
unfolding pick
returns-then-misshared c =
    let a = c.args in
    sym (after_shares (has a.injectors.now) (has a.seen.now) a.w _ c.shaped-first.ensures (sym c.is_some.ensures ∙ c.if-is_some.false)
    (rw c.from.ensures at c.split_at.ensures.front) c.links_break-misnamed.ensures (rw c.from.ensures at c.split_at.ensures.front_len) c.shares_break-misshared.ensures
    ∙ rw (c.if-misnamed.false, c.if-misshared.true))

pub returns-then-some_set : goal.returns-then-some_set
unfolding pick
returns-then-some_set c =
    let a = c.args in
    sym (after_unused (has a.injectors.now) (has a.seen.now) a.w _ c.shaped-first.ensures (sym c.is_some.ensures ∙ c.if-is_some.false)
    (rw c.from.ensures at c.split_at.ensures.front) c.links_break-misnamed.ensures (rw c.from.ensures at c.split_at.ensures.front_len) c.shares_break-misshared.ensures
    (rw c.from.ensures at c.split_at.ensures.back) c.some_set.ensures
    ∙ rw (c.if-misnamed.false, c.if-misshared.false, c.if-some_set.true))

pub returns-then-has : goal.returns-then-has
unfolding pick
returns-then-has c =
    let a = c.args in
    sym (after_unused (has a.injectors.now) (has a.seen.now) a.w _ c.shaped-first.ensures (sym c.is_some.ensures ∙ c.if-is_some.false)
    (rw c.from.ensures at c.split_at.ensures.front) c.links_break-misnamed.ensures (rw c.from.ensures at c.split_at.ensures.front_len) c.shares_break-misshared.ensures
    (rw c.from.ensures at c.split_at.ensures.back) c.some_set.ensures
    ∙ rw (c.if-misnamed.false, c.if-misshared.false, c.if-some_set.false, sym c.has.ensures ∙ c.if-has.true))

pub returns-else-has : goal.returns-else-has
unfolding pick
returns-else-has c =
    let a = c.args in
    sym (after_unused (has a.injectors.now) (has a.seen.now) a.w _ c.shaped-first.ensures (sym c.is_some.ensures ∙ c.if-is_some.false)
    (rw c.from.ensures at c.split_at.ensures.front) c.links_break-misnamed.ensures (rw c.from.ensures at c.split_at.ensures.front_len) c.shares_break-misshared.ensures
    (rw c.from.ensures at c.split_at.ensures.back) c.some_set.ensures
    ∙ rw (c.if-misnamed.false, c.if-misshared.false, c.if-some_set.false, sym c.has.ensures ∙ c.if-has.false))

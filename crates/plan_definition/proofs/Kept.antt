-- Each rule's test fails exactly where the rule's sentence holds.
-- Assumes nothing.
use mathlib.Core.Path.{◌≡◌, refl, sym}
use mathlib.Core.Logic.Iff
use mathlib.Core.Logic.{◌↔◌}
use mathlib.Core.Bool.{true, false, not}
use mathlib.Core.List.{List, [], ◌∷◌}
use Prim.Native.Nat.{ℕ, zero, suc, ◌<◌}
use native.Mathlib.Omega.{arith}
use lib.ListN.{length, get_or}
use Rattle.plan_definition.specs.declared.Link.{Link}
use Rattle.plan_definition.specs.declared.Well.{Well}
use Rattle.plan_definition.specs.Some.{some, Among}
use Rattle.plan_definition.specs.Some.Among.{here, later}
use Rattle.plan_definition.specs.Well.{no_link}
use Rattle.plan_definition.specs.Rules.{producer, injector, used, unused, total, breaks_number, breaks_kind, breaks_link_count, breaks_rate, names_same, misnamed, breaks_links, no_share, breaks_shares, not_zero, breaks_unused_links, struck, has_number, breaks_repeat, is_injector_of, is_before}
use Rattle.plan_definition.specs.Sound.{KeepsNumber, KeepsKind, KeepsLinkCount, KeepsRate, NamesInjector, KeepsLinks, KeepsShares, KeepsUnusedLinks, KeepsRepeat}
use Rattle.plan_definition.proofs.Some.{none_among, among-cons, at_index, index_of}
use Rattle.plan_definition.proofs.Exactly.{Passes, Fails, less, not_less, at_most, equal, not_equal, not_passes, not_fails, either, neither, both, where_first, agree, one_passes, none_passes}

-- the number isn't 0
pub number-kept : (w : Well) → Fails (breaks_number w) (KeepsNumber w)
unfolding breaks_number KeepsNumber
number-kept w = not_equal w.number 0

-- the kind is 1 or 2
pub kind-kept : (w : Well) → Fails (breaks_kind w) (KeepsKind w)
unfolding breaks_kind producer injector KeepsKind
kind-kept w = not_fails (either (equal w.kind 1) (equal w.kind 2))

-- a producer has up to four links, none exactly when its rate is 0, and an injector none
pub link_count_kept : (w : Well) → Fails (breaks_link_count w) (KeepsLinkCount w)
unfolding breaks_link_count producer injector KeepsLinkCount
link_count_kept w =
    neither
    (where_first (equal w.kind 1) (neither (not_less 4 w.count) (agree (equal w.count 0) (equal w.rate 0))))
    (where_first (equal w.kind 2) (not_fails (equal w.count 0)))

-- the rate is at most 100,000
pub rate-kept : (w : Well) → Fails (breaks_rate w) (KeepsRate w)
unfolding breaks_rate KeepsRate
rate-kept w = not_less 100000 w.rate

-- where there are links their shares are 1 to 1000 and total 1000
pub shares-kept : (w : Well) → Fails (breaks_shares w) (KeepsShares w)
unfolding breaks_shares no_share KeepsShares
shares-kept w =
    where_first (not_passes (not_equal w.count 0))
    (neither (none_passes (used w) (λ l. not_fails (both (at_most 1 l.share) (at_most l.share 1000))))
    (not_fails (equal (total (used w)) 1000)))

-- the links that aren't used are zero
pub zero-links : (ls : List Link) → Fails (some not_zero ls) ((l : Link) → Among l ls → (l.injector ≡ 0) × (l.share ≡ 0))
unfolding not_zero
zero-links ls = none_passes ls (λ l. not_fails (both (equal l.injector 0) (equal l.share 0)))

pub unused_links_kept : (w : Well) → Fails (breaks_unused_links w) (KeepsUnusedLinks w)
unfolding breaks_unused_links KeepsUnusedLinks
unused_links_kept w = zero-links (unused w)

-- a record that isn't struck
pub stands : (w : Well) → Passes (not (struck w)) (struck w ≡ false)
stands w = not_passes (λ e. e, λ e. e)

-- no place before has the number
pub repeat-kept : (ws : List Well) (w : Well) → Fails (breaks_repeat (is_before ws w.place) w) (KeepsRepeat ws w)
unfolding breaks_repeat is_before has_number KeepsRepeat
repeat-kept ws w = none_passes ws (λ v. where_first (less v.place w.place) (where_first (stands v) (not_equal v.number w.number)))

-- a number stands before a place exactly when a well there has it
pub earlier : (ws : List Well) (p k : ℕ) → Passes (is_before ws p k) ((v : Well) × Among v ws × ((v.place < p) × (has_number k v ≡ true)))
unfolding is_before
earlier ws p k = one_passes ws (λ v. both (less v.place p) (λ e. e, λ e. e))

-- a number is an injector's exactly when it names one
pub named : (ws : List Well) (k : ℕ) → Passes (is_injector_of ws k) (NamesInjector ws k)
unfolding is_injector_of injector NamesInjector
named ws k =
    Iff.trans (one_passes ws (λ v. both (equal v.kind 2) (equal v.number k)))
    (λ s. (s.0, s.1, s.2.1, s.2.0), λ s. (s.0, s.1, (s.3, s.2)))

-- the numbers that links name: none is a given one, and no two are one
abbrev Other : Link → List Link → Type 0
Other l ls = (m : Link) → Among m ls → m.injector ≡ l.injector → ⊥

abbrev Different : List Link → Type 0
Different ls = (i j : ℕ) → i < j → j < length ls → (get_or ls i no_link).injector ≡ (get_or ls j no_link).injector → ⊥

module _ (l : Link) (ls : List Link) where
  put_first : Other l ls → Different ls → Different (l ∷ ls)
  put_first o d i zero h k e = absurd (omega arith)
  put_first o d zero (suc j) h k e = o (get_or ls j no_link) (at_index ls j no_link (omega arith)) (sym e)
  put_first o d (suc i) (suc j) h k e = d i j (omega arith) (omega arith) e

  is_other : Different (l ∷ ls) → Other l ls
  is_other d m a e = let s = index_of a no_link in d 0 (suc s.0) (omega arith) (omega arith) (rw s.2 (sym e))

  different-cons : (Other l ls × Different ls) ↔ Different (l ∷ ls)
  different-cons = (λ s. put_first s.0 s.1, λ d. (is_other d, λ i j h k. d (suc i) (suc j) (omega arith) (omega arith)))

module _ (ws : List Well) where
  -- the links of a list name injectors and no two the same
  names : (ls : List Link) → Fails (misnamed (is_injector_of ws) ls) (((l : Link) → Among l ls → NamesInjector ws l.injector) × Different ls)
  unfolding misnamed names_same
  names [] = (λ e. (λ l m. absurd (none_among m), λ i j h k. absurd (omega arith)), λ s. refl)
  names (l ∷ ls) =
      Iff.trans
      (neither (neither (not_fails (named ws l.injector)) (none_passes ls (λ m. not_equal m.injector l.injector))) (names ls)) (
        λ s. (among-cons (λ m. NamesInjector ws m.injector) s.0.0 s.1.0, (different-cons l ls).0 (s.0.1, s.1.1)),
        λ s. let d = (different-cons l ls).1 s.1 in ((s.0 l here, d.0), (λ m a. s.0 m (later a), d.1)),
      )

  -- the links name injectors, each another one
  pub links-kept : (w : Well) → Fails (breaks_links (is_injector_of ws) w) (KeepsLinks ws w)
  unfolding breaks_links KeepsLinks
  links-kept w = names (used w)

-- A save that brings the planner's own marks beside the plain one: done, it leaves what the plain one leaves; stale, it says where; else it says nowhere.
-- Assumes nothing.
use mathlib.Core.Path.{◌≡◌, refl, sym, ap, ◌∙◌}
use mathlib.Core.Bool.{Bool, true, false}
use mathlib.Core.List.{List}
use Prim.Native.Nat.{ℕ, ◌≤◌, ◌<◌}
use native.Mathlib.Omega.{arith}
use lib.Dec.{ltb}
use lib.ListN.{length}
use borrow.Author.Tests.{ltb-true, ltb-false}
use Rattle.definition.specs.Buffer.{Every}
use Rattle.definition.proofs.Refusals.{of_first, given_first}
use Rattle.definition.specs.Refusal.{STALE, OWN, STALE_TAIL, pick}
use Rattle.sheet_definition.specs.declared.Found.{Found}
use Rattle.sheet_definition.specs.declared.Found.TheVariants.{Same, Group}
use Rattle.sheet_definition.specs.declared.Where.{Where}
use Rattle.sheet_definition.specs.Sheet.{World, q}
use Rattle.sheet_definition.specs.Save.{refused_with, done_with}
use Rattle.sheet_definition.specs.Own.{shared, nowhere, stale_as, stale, kind_of}
use Rattle.sheet_definition.specs.Own.Own.{Brought}
use Rattle.sheet_definition.specs.Refusals.{lengths_of}
use Rattle.sheet_definition.specs.SheetCalls.{Kind, Call, plain, refusals_of, comparing, stale_number_of, save_of, call, where_of}
use Rattle.sheet_definition.specs.SheetCalls.Kind.{Change, Append, Drop, Batch, CloseUp}
use Rattle.sheet_definition.specs.Said.{Stale, Finds, Names, Tail}
use Rattle.sheet_definition.proofs.Outcomes.{stale-answers, done_is, by_answer}
use Rattle.sheet_definition.proofs.Refused.{judging}
use Rattle.sheet_definition.proofs.Edits.{before-own, proper}
use Rattle.sheet_definition.proofs.Compared.{finds, group-differs}

-- both sheets have the marks that are compared
pub shared-held : (n own : ℕ) → (shared n own ≤ q n) × (shared n own ≤ q own)
unfolding shared pick
shared-held n own = go (ltb (q n) (q own)) refl
  where
    go : (b : Bool) → ltb (q n) (q own) ≡ b → (pick b (q n) (q own) ≤ q n) × (pick b (q n) (q own) ≤ q own)
    go true e = let h : q n < q own = ltb-true (q n) (q own) e in (omega arith, omega arith)
    go false e = let h : q own ≤ q n = ltb-false (q n) (q own) e in (omega arith, omega arith)

-- the two cases have two numbers for C
kind-differs : kind_of Same ≡ kind_of (Group 0) → ⊥
unfolding kind_of
kind-differs e = absurd (omega arith)

module _ (w : World) (c : Call) where
  -- the same save without them
  abbrev pub plainly : Call
  plainly = plain c.kind c.claim c.out

  -- "what a done save leaves is what the plain call leaves"
  pub done_plainly : (call w c).answer.number ≡ 0 → call w c ≡ call w plainly
  unfolding call save_of refused_with
  done_plainly e =
      by_answer w (save_of w c) (λ o. o.answer.number ≡ 0 → o ≡ call w plainly)
      (λ k f z. absurd (omega arith)) (λ f t z. absurd (stale-answers (proper w c).answered z))
      (λ f t z. done_is w (save_of w plainly) (sym (before-own w c f)) refl t) e

  -- its number where it is stale
  pub stale-number : Stale (call w c).answer.number → (call w c).answer.number ≡ stale_number_of w c.own
  unfolding call save_of refused_with done_with
  stale-number =
      by_answer w (save_of w c) (λ o. Stale o.answer.number → o.answer.number ≡ stale_number_of w c.own)
      (λ k f t. absurd (of_first (λ k. Stale k → ⊥) (given_first (save_of w c).refusals f) (proper w c).earlier t)) (λ f t z. refl)
      (λ f t z. absurd (stale-answers z refl))

  -- "other answers say same and 0 pairs"
  pub where_stale : Stale (call w c).answer.number → where_of w c ≡ comparing w c.own
  unfolding where_of pick
  where_stale t = rw t

  pub where_else : (Stale (call w c).answer.number → ⊥) → where_of w c ≡ nowhere
  unfolding where_of pick
  where_else h = go (stale (call w c).answer.number) h
    where
      go : (b : Bool) → (b ≡ true → ⊥) → pick b (comparing w c.own) nowhere ≡ nowhere
      go true f = absurd (f refl)
      go false f = refl

-- a planner's own sheet and marks, brought by a save
module _ (w v : World) (k : Kind) (claim out : List ℕ) where
  abbrev pub bringing : Call
  bringing = record { kind = k; claim = claim; own = Brought v.n v.marks; out = out }

  abbrev number : ℕ
  number = (call w bringing).answer.number

  abbrev finding : Where
  finding = comparing w bringing.own

  -- 11 exactly where a group is named, 16 where a stale save's shared marks agree
  by_found : (f : Found) → finding.found ≡ f → Stale number → number ≡ stale_as f
  by_found f e t = stale-number w bringing t ∙ ap stale_as e

  group-stale : (g : ℕ) → (where_of w bringing).found ≡ Group g → Stale number
  unfolding where_of pick kind_of
  group-stale g = go (stale number)
    where
      go : (b : Bool) → (pick b finding nowhere).found ≡ Group g → b ≡ true
      go true e = refl
      go false e = absurd (kind-differs (ap kind_of e))

  pub named : (g : ℕ) → (where_of w bringing).found ≡ Group g → Names w v bringing g
  unfolding Finds stale_as
  named g e =
      let t : Stale number = group-stale g e in
      let s : where_of w bringing ≡ finding = where_stale w bringing t in
      let h : finding.found ≡ Group g = sym (ap (λ (x : Where). x.found) s) ∙ e in
      let f = rw h at (finds w.code w.marks v.marks (shared w.n v.n) 0) in
      let b = shared-held w.n v.n in
      record {
        number = by_found (Group g) h t;
        pairs = rw s (omega (arith, f.4));
        both-have = (omega (arith, f.1, b.0), omega (arith, f.1, b.1));
        marks-before = f.2;
        records-differ = λ c t' u l r. group-differs w v g c t' u l r (omega (arith, f.1, b.0)) (omega (arith, f.1, b.1)) f.2 f.3;
      }

  pub tail : Stale number → (where_of w bringing).found ≡ Same → Tail w v bringing
  unfolding Finds stale_as
  tail t e =
      let s : where_of w bringing ≡ finding = where_stale w bringing t in
      let h : finding.found ≡ Same = sym (ap (λ (x : Where). x.found) s) ∙ e in
      let f = rw h at (finds w.code w.marks v.marks (shared w.n v.n) 0) in
      record { number = by_found Same h t; pairs = rw s f.1; marks_agree = λ m a b. f.0 m a (omega arith) }

  -- so by the number
  pub eleven : number ≡ STALE → (g : ℕ) × ((where_of w bringing).found ≡ Group g)
  unfolding stale stale_as
  eleven e = go finding.found refl
    where
      t : Stale number
      t = rw e

      go : (f : Found) → finding.found ≡ f → (g : ℕ) × ((where_of w bringing).found ≡ Group g)
      go Same h = absurd (omega (arith, e, by_found Same h t))
      go (Group g) h = (g, ap (λ (x : Where). x.found) (where_stale w bringing t) ∙ h)

  pub sixteen : number ≡ STALE_TAIL → (where_of w bringing).found ≡ Same
  unfolding stale stale_as
  sixteen e = go finding.found refl
    where
      t : Stale number
      t = rw e

      go : (f : Found) → finding.found ≡ f → (where_of w bringing).found ≡ Same
      go Same h = ap (λ (x : Where). x.found) (where_stale w bringing t) ∙ h
      go (Group g) h = absurd (omega (arith, e, by_found (Group g) h t))

-- "The plain calls stay as they are and never answer 15 or 16."
others : (w : World) (c : Call) (k : Kind) → Every (λ x. (x.0 ≡ OWN → ⊥) × (x.0 ≡ STALE_TAIL → ⊥)) (refusals_of (lengths_of w c.out) (length c.claim) k)
unfolding judging
others w c (Change place x) = omega arith
others w c (Append x) = omega arith
others w c Drop = omega arith
others w c (Batch places x) = omega arith
others w c (CloseUp places) = omega arith

pub plain_never : (w : World) (k : Kind) (claim out : List ℕ) → let n = (call w (plain k claim out)).answer.number in (n ≡ OWN → ⊥) × (n ≡ STALE_TAIL → ⊥)
unfolding call save_of refused_with done_with
plain_never w k claim out =
    by_answer w (save_of w (plain k claim out)) (λ o. (o.answer.number ≡ OWN → ⊥) × (o.answer.number ≡ STALE_TAIL → ⊥))
    (λ j f. of_first (λ j. (j ≡ OWN → ⊥) × (j ≡ STALE_TAIL → ⊥)) (given_first (save_of w (plain k claim out)).refusals f) (others w (plain k claim out) k))
    (λ f t. (λ z. absurd (omega arith), λ z. absurd (omega arith))) (λ f t. (λ z. absurd (omega arith), λ z. absurd (omega arith)))

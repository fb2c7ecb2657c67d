-- The rules said by their sentences: the first broken is the first whose sentence doesn't hold, and none is broken exactly where all hold.
-- Assumes nothing.
use mathlib.Core.Path.{◌≡◌, refl}
use mathlib.Core.Logic.{◌↔◌}
use mathlib.Core.Bool.{Bool, true, false, true≢false}
use mathlib.Core.List.{List, [], ◌∷◌}
use Prim.Native.Nat.{ℕ}
use Rattle.definition.specs.Refusal.{Refusal, pick}
use Rattle.definition.proofs.Conditions.{other_way}
use Rattle.definition.specs.Refusal.{First, NoneHolds}
use Rattle.definition.specs.Refusal.First.{here, later}
use Rattle.definition.specs.Refusal.NoneHolds.{none as no_more, more as one_more}
use Rattle.plan_definition.specs.declared.Well.{Well}
use Rattle.plan_definition.specs.Rules.{struck, rules_by, rules_at}
use Rattle.plan_definition.specs.Sound.{Keeps, MakesSense, Sentence, FirstFalse, sentences_by, sentences_at}
use Rattle.plan_definition.specs.Sound.FirstFalse.{broken, kept}
use Rattle.plan_definition.proofs.Exactly.{Fails}
use Rattle.plan_definition.proofs.Kept.{number-kept, kind-kept, link_count_kept, rate-kept, links-kept, shares-kept, unused_links_kept, repeat-kept}

-- tests and sentences, one by one of a number, the test failing exactly where the sentence holds
data Tests : List Refusal → List Sentence → Type 1 where
  none : Tests [] []
  more : {n : ℕ} {b : Bool} {A : Type 0} {rs : List Refusal} {ss : List Sentence} → Fails b A → Tests rs ss
      → Tests ((n, b) ∷ rs) ((n, A) ∷ ss)

-- of an exempt record neither
exempt : {rs : List Refusal} {ss : List Sentence} (b : Bool) → Tests rs ss → Tests (pick b [] rs) (pick b [] ss)
unfolding pick
exempt true t = none
exempt false t = t

to_sentences : {k : ℕ} {rs : List Refusal} {ss : List Sentence} → Tests rs ss → First k rs → FirstFalse k ss
to_sentences {k = k} none f = elim f [ ]
to_sentences (more i t) here = broken ((other_way true i).0 refl)
to_sentences (more i t) (later f) = kept (i.0 refl) (to_sentences t f)

to_tests : {k : ℕ} {rs : List Refusal} {ss : List Sentence} → Tests rs ss → FirstFalse k ss → First k rs
to_tests {k = k} none f = elim f [ ]
to_tests (more {b = b} i t) (broken h) = rw ((other_way b i).1 h) here
to_tests (more i t) (kept a f) = rw (i.1 a) (later (to_tests t f))

-- every sentence of a list holds
abbrev Hold : List Sentence → Type 0
Hold [] = Unit
Hold (s ∷ ss) = s.1 × Hold ss

all_hold : {rs : List Refusal} {ss : List Sentence} → Tests rs ss → NoneHolds rs → Hold ss
all_hold none h = tt
all_hold (more i t) (one_more h) = (i.0 refl, all_hold t h)

none_broken : {rs : List Refusal} {ss : List Sentence} → Tests rs ss → Hold ss → NoneHolds rs
none_broken none h = no_more
none_broken (more i t) h = rw (i.1 h.0) (one_more (none_broken t h.1))

module _ (ws : List Well) (w : Well) where
  tests : Tests (rules_at ws w) (sentences_at ws w)
  unfolding rules_at rules_by sentences_at sentences_by
  tests =
      exempt (struck w) (more (number-kept w)
      (more (kind-kept w)
      (more (link_count_kept w)
      (more (rate-kept w)
      (more (links-kept ws w) (more (shares-kept w) (more (unused_links_kept w) (more (repeat-kept ws w) none))))))))

  -- a rule is the first broken exactly when its sentence is the first that doesn't hold
  pub first_broken_exactly : (k : ℕ) → First k (rules_at ws w) ↔ FirstFalse k (sentences_at ws w)
  first_broken_exactly k = (to_sentences tests, to_tests tests)

  -- a well breaks no rule exactly when it keeps each, or is exempt
  pub keeps : NoneHolds (rules_at ws w) ↔ MakesSense ws w
  unfolding sentences_at sentences_by pick
  keeps = (λ h. kept_all (struck w) (all_hold tests h), λ k. none_broken tests (each (struck w) k))
    where
      kept_all : (b : Bool) → Hold (pick b [] (sentences_by ws w)) → b ≡ false → Keeps ws w
      kept_all true h e = absurd (true≢false e)
      kept_all false h e = search

      each : (b : Bool) → (b ≡ false → Keeps ws w) → Hold (pick b [] (sentences_by ws w))
      each true k = tt
      each false k = let a = k refl in search

-- What a call leaves: done, the page stands in the front of both lists and what lies behind it is as it was; refused, both lists are as they
-- were and the answer is the number and four zeros.
-- Assumes nothing.
use mathlib.Core.Path.{◌≡◌, refl, ◌∙◌}
use mathlib.Core.List.{List, ◌++◌}
use Prim.Native.Nat.{ℕ, zero, suc}
use lib.IntN.{ℤ}
use lib.ListN.{length, take, drop}
use lib.Seq.{take_at, drop_at}
use Rattle.definition.specs.Refusal.{first_of, when_done}
use Rattle.brine_definition.specs.Count.{sum}
use Rattle.brine_definition.specs.Statement.{batch, page, intakes, spares, statement_of, refused_by, brine_refusals, brine_outcome}
use Rattle.brine_definition.proofs.Sums.{length-intakes, length-spares}
use Rattle.brine_definition.proofs.Sound.{length-page}

-- a front that takes the place of so many elements
fronted : {A : Type 0} (p l : List A) (n : ℕ) → length p ≡ n → (take n (p ++ drop n l) ≡ p) × (drop n (p ++ drop n l) ≡ drop n l)
fronted p l n e = (take_at p (drop n l) n e, drop_at p (drop n l) n e)

module _ (sheets counts intake : List ℕ) (spare : List ℤ) where
  -- the number that is given
  abbrev pub given : ℕ
  given = first_of (brine_refusals (length sheets) counts (length intake) (length spare))

  -- a call that is done
  pub done : given ≡ 0 → brine_outcome sheets counts intake spare ≡ record {
    answer = statement_of (batch counts sheets);
    intake = intakes (page (batch counts sheets)) ++ drop (sum counts) intake;
    spare = spares (page (batch counts sheets)) ++ drop (sum counts) spare;
  }
  unfolding brine_outcome when_done
  done e = rw e

  -- and one that is refused
  pub refused : (k : ℕ) → given ≡ suc k → brine_outcome sheets counts intake spare ≡ record {
    answer = record { number = suc k; sound = 0; faulted = 0; intake = 0; overloaded = 0 };
    intake = intake;
    spare = spare;
  }
  unfolding brine_outcome when_done refused_by
  refused k e = rw e

  -- the answer has the number
  pub number_of : (brine_outcome sheets counts intake spare).answer.number ≡ given
  unfolding statement_of
  number_of = go given refl
    where
      go : (k : ℕ) → given ≡ k → (brine_outcome sheets counts intake spare).answer.number ≡ k
      go zero e = rw (done e)
      go (suc k) e = rw (refused k e)

  -- where it is 0 the page stands in front, and the places beyond are untouched
  module _ (e : given ≡ 0) where
    pub intake_left : (take (sum counts) (brine_outcome sheets counts intake spare).intake ≡ intakes (page (batch counts sheets)))
        × (drop (sum counts) (brine_outcome sheets counts intake spare).intake ≡ drop (sum counts) intake)
    intake_left =
        let rs = page (batch counts sheets) in
        rw (done e) (fronted (intakes rs) intake (sum counts) (length-intakes rs ∙ length-page counts sheets))

    pub spare_left : (take (sum counts) (brine_outcome sheets counts intake spare).spare ≡ spares (page (batch counts sheets)))
        × (drop (sum counts) (brine_outcome sheets counts intake spare).spare ≡ drop (sum counts) spare)
    spare_left =
        let rs = page (batch counts sheets) in
        rw (done e) (fronted (spares rs) spare (sum counts) (length-spares rs ∙ length-page counts sheets))

-- Mending at its edges, as one table under one theorem.
-- Assumes nothing.
use Prim.Native.Nat.{ℕ, ◌+◌, ◌^◌}
use mathlib.Core.Path.{◌≡◌, refl}
use mathlib.Core.List.{List, [], ◌∷◌}
use lib.ListN.{replicate, set}
use Rattle.definition.specs.Refusal.{WIDTH, SHEET, MARKS}
use Rattle.sheet_definition.specs.Sheet.{World}
use Rattle.sheet_definition.specs.SheetCalls.{build_outcome, lent}
use Rattle.mend_definition.specs.Mend.{Saying, saying, mend, mend_outcome, refused_by}
use Rattle.mend_definition.proofs.Computed.{everything}

-- a sheet of zeros of n records, with marks that a build left
abbrev pub built : (code n : ℕ) → List ℕ
built code n = (build_outcome code (replicate 160 0) n (replicate 80 0) (replicate 64 0)).marks

-- what a mend says of marks of such a sheet
abbrev pub asked : (code n : ℕ) → List ℕ → Saying
asked code n marks = (mend_outcome code (replicate 160 0) n marks).answer

-- arguments that are refused by a number, whatever the buffers hold that isn't judged
abbrev pub Refuses : (number : ℕ) → World → Type 0
Refuses number w = mend w ≡ refused_by number w

pub record MendExamples : Type 0 where
  -- all are wrong, with a full group, which takes five rounds, and without one; a tail and its padding take none
  pub all_wrong : asked 2 4 (replicate 80 0) ≡ saying 0 (0 ∷ 1 ∷ []) 5
  pub no_group : asked 4 3 (replicate 40 0) ≡ saying 0 (0 ∷ []) 0
  pub no_records : asked 3 0 (replicate 40 7) ≡ saying 0 (0 ∷ []) 0
  -- marks that a build left, and one bit of their last used word
  pub as_built : asked 4 3 (built 4 3) ≡ saying 0 [] 0
  pub one_bit : asked 2 3 (set (built 2 3) 23 0x8b264ae6) ≡ saying 0 (0 ∷ []) 0
  -- a word set in an unused block
  pub unused_at_1 : asked 1 3 (set (built 1 3) 24 1) ≡ saying 0 (0 ∷ []) 0
  pub unused_at_3 : asked 3 3 (set (built 3 3) 39 1) ≡ saying 0 (0 ∷ []) 0
  -- words past the last mark aren't looked at
  pub past : asked 2 3 (set (built 2 3) 40 1) ≡ saying 0 [] 0
  -- each refusal, and its order
  pub unknown : (n : ℕ) (sheet marks : List ℕ) → Refuses WIDTH (lent 5 sheet n marks)
  pub wide : (n : ℕ) (sheet marks : List ℕ) → Refuses WIDTH (lent (2 ^ 32 + 2) sheet n marks)
  pub too_many : (sheet marks : List ℕ) → Refuses SHEET (lent 1 sheet 1025 marks)
  pub short_sheet : (marks : List ℕ) → Refuses SHEET (lent 4 (replicate 39 0) 1 marks)
  pub short_marks : Refuses MARKS (lent 3 (replicate 160 0) 4 (replicate 79 0))

pub mend_examples : MendExamples
unfolding everything
mend_examples =
    record {
      all_wrong = refl;
      no_group = refl;
      no_records = refl;
      as_built = refl;
      one_bit = refl;
      unused_at_1 = refl;
      unused_at_3 = refl;
      past = refl;
      unknown = λ n sheet marks. refl;
      wide = λ n sheet marks. refl;
      too_many = λ sheet marks. refl;
      short_sheet = λ marks. refl;
      short_marks = refl;
    }

-- The brine statement at its edges, as one table under one theorem.
-- Assumes nothing.
use Prim.Native.Nat.{ℕ, suc, ◌-◌, ◌^◌}
use mathlib.Core.Path.{◌≡◌}
use mathlib.Core.List.{List, [], ◌∷◌, ◌++◌, map}
use lib.IntN.{ℤ, pos, neg_ℤ}
use lib.ListN.{length, replicate}
use Rattle.definition.specs.Refusal.{BATCH, SHEET, LIST}
use Rattle.definition.specs.Buffer.{joined}
use Rattle.plan_definition.proofs.Examples.{well, inj, prod, gone}
use Rattle.brine_definition.specs.Count.{sum}
use Rattle.brine_definition.specs.Statement.{BrineOutcome, brine_outcome}
use Rattle.brine_definition.proofs.Computed.{everything}

-- the statement over sheets of records, in lists of nines with a place more than there are records
abbrev pub asked : List (List (List ℕ)) → BrineOutcome
asked xss =
    let n : ℕ = suc (sum (map length xss)) in
    brine_outcome (joined (map joined xss)) (map length xss) (replicate n 9) (replicate n (pos 9))

-- what it answers and leaves in the lists, the last place of which is as it was
abbrev pub told : (sound faulted intake overloaded : ℕ) → (rows : List (ℕ × ℤ)) → BrineOutcome
told sound faulted intake overloaded rows =
    record {
      answer = record { number = 0; sound = sound; faulted = faulted; intake = intake; overloaded = overloaded };
      intake = map (λ r. r.0) rows ++ 9 ∷ [];
      spare = map (λ r. r.1) rows ++ pos 9 ∷ [];
    }

-- what a refusal leaves: four zeros, and the lists as they were
abbrev pub turned : (number : ℕ) → (intake : List ℕ) → (spare : List ℤ) → BrineOutcome
turned number intake spare =
    record {
      answer = record { number = number; sound = 0; faulted = 0; intake = 0; overloaded = 0 };
      intake = intake;
      spare = spare;
    }

-- counts that are refused whatever buffer and lists are lent
abbrev pub Always : (number : ℕ) → (counts : List ℕ) → Type 0
Always number counts =
    (sheets intake : List ℕ) (spare : List ℤ) → brine_outcome sheets counts intake spare ≡ turned number intake spare

-- an injector of a rate, and a producer of the most tonnes that sends them all to injector 9
abbrev pub rated : (number rate : ℕ) → List ℕ
rated number rate = well number 2 0 rate []

abbrev pub flood : (number : ℕ) → List ℕ
flood number = well number 1 1 100000 ((9, 1000) ∷ [])

-- a sheet whose injector 2 of 50 tonnes is sent 100, one where it can take them just so, and one with a link to nowhere besides
abbrev pub over : List (List ℕ)
over = prod 1 ((2, 1000) ∷ []) ∷ inj 2 ∷ []

abbrev pub fit : List (List ℕ)
fit = rated 2 100 ∷ prod 1 ((2, 1000) ∷ []) ∷ []

abbrev pub faulty : List (List ℕ)
faulty = prod 3 ((7, 1000) ∷ []) ∷ over

pub record Table : Type 0 where
  pub no_sheets : asked [] ≡ told 0 0 0 0 []
  pub empty_sheet : asked ([] ∷ []) ≡ told 1 0 0 0 []
  pub with_room : asked ((prod 1 ((2, 1000) ∷ []) ∷ rated 2 150 ∷ []) ∷ []) ≡ told 1 0 100000 0 ((0, pos 0) ∷ (100000, pos 50000) ∷ [])
  pub exact_fit : asked (fit ∷ []) ≡ told 1 0 100000 0 ((100000, pos 0) ∷ (0, pos 0) ∷ [])
  pub overloaded : asked (over ∷ []) ≡ told 1 0 100000 1 ((0, pos 0) ∷ (100000, neg_ℤ (pos 50000)) ∷ [])
  -- producer 4 sends a kilogram too many to injector 2, and 999 to injector 3
  pub one_kilogram : asked ((prod 1 ((2, 1000) ∷ []) ∷ well 4 1 2 1 ((2, 1) ∷ (3, 999) ∷ []) ∷ rated 2 100 ∷ rated 3 1 ∷ []) ∷ [])
      ≡ told 1 0 101000 1 ((0, pos 0) ∷ (0, pos 0) ∷ (100001, neg_ℤ (pos 1)) ∷ (999, pos 1) ∷ [])
  pub three-injectors : asked ((inj 4 ∷ prod 1 ((2, 500) ∷ (3, 300) ∷ (4, 200) ∷ []) ∷ inj 3 ∷ inj 2 ∷ []) ∷ [])
      ≡ told 1 0 100000 0 ((20000, pos 30000) ∷ (0, pos 0) ∷ (30000, pos 20000) ∷ (50000, pos 0) ∷ [])
  pub two-producers : asked ((prod 1 ((3, 1000) ∷ []) ∷ prod 2 ((3, 999) ∷ (4, 1) ∷ []) ∷ inj 3 ∷ inj 4 ∷ []) ∷ [])
      ≡ told 1 0 200000 1 ((0, pos 0) ∷ (0, pos 0) ∷ (199900, neg_ℤ (pos 149900)) ∷ (100, pos 49900) ∷ [])
  pub sent_nothing : asked ((inj 2 ∷ []) ∷ []) ≡ told 1 0 0 0 ((0, pos 50000) ∷ [])
  pub no_rates : asked ((rated 2 0 ∷ well 1 1 0 0 [] ∷ []) ∷ []) ≡ told 1 0 0 0 ((0, pos 0) ∷ (0, pos 0) ∷ [])
  -- a faulted sheet is counted and has its places; each sheet's injector 2 is sent what its own producers send
  pub faulted_between : asked (over ∷ faulty ∷ fit ∷ [])
      ≡ told 2 1 200000 1
      ((0, pos 0) ∷ (100000, neg_ℤ (pos 50000)) ∷ (0, pos 0) ∷ (0, pos 0) ∷ (0, pos 0) ∷ (100000, pos 0) ∷ (0, pos 0) ∷ [])
  pub all_faulted : asked (faulty ∷ (inj 0 ∷ []) ∷ []) ≡ told 0 2 0 0 ((0, pos 0) ∷ (0, pos 0) ∷ (0, pos 0) ∷ (0, pos 0) ∷ [])
  -- a struck record has its place and 0 in both lists, in a sound sheet and in a faulted one
  pub struck_between : asked ((gone ∷ prod 1 ((2, 1000) ∷ []) ∷ gone ∷ inj 2 ∷ gone ∷ []) ∷ fit ∷ [])
      ≡ told 2 0 200000 1
      ((0, pos 0) ∷ (0, pos 0) ∷ (0, pos 0) ∷ (100000, neg_ℤ (pos 50000)) ∷ (0, pos 0) ∷ (100000, pos 0) ∷ (0, pos 0) ∷ [])
  pub all_struck : asked (replicate 3 (gone ∷ gone ∷ [])) ≡ told 3 0 0 0 (replicate 6 (0, pos 0))
  pub struck_in_faulted : asked ((gone ∷ inj 0 ∷ inj 2 ∷ []) ∷ []) ≡ told 0 1 0 0 ((0, pos 0) ∷ (0, pos 0) ∷ (0, pos 0) ∷ [])
  pub largest_spare : asked ((rated 9 100000 ∷ []) ∷ []) ≡ told 1 0 0 0 ((0, pos 100000000) ∷ [])
  pub largest_intake : asked ((rated 9 0 ∷ flood 1 ∷ flood 2 ∷ flood 3 ∷ flood 4 ∷ []) ∷ [])
      ≡ told 1 0 400000000 1 ((400000000, neg_ℤ (pos 400000000)) ∷ (0, pos 0) ∷ (0, pos 0) ∷ (0, pos 0) ∷ (0, pos 0) ∷ [])
  pub sheets_64 : asked (replicate 64 []) ≡ told 64 0 0 0 []
  -- refused in the request's order; counts are judged whole
  pub sheets_65 : Always BATCH (replicate 65 0)
  pub sheets_65_over : Always BATCH (replicate 65 (2 ^ 64 - 1))
  pub count_1025 : Always SHEET (0 ∷ 1025 ∷ [])
  pub count_2_64 : Always SHEET ((2 ^ 64 - 1) ∷ [])
  pub counts_2_63 : Always SHEET (2 ^ 63 ∷ 2 ^ 63 ∷ [])
  pub bytes_79 : (intake : List ℕ) (spare : List ℤ) → brine_outcome (replicate 79 0) (1 ∷ 1 ∷ []) intake spare ≡ turned SHEET intake spare
  pub intake_1_of_2 : (spare : List ℤ) → brine_outcome (replicate 80 0) (1 ∷ 1 ∷ []) (9 ∷ []) spare ≡ turned LIST (9 ∷ []) spare
  pub spare_1_of_2 : brine_outcome (replicate 80 0) (1 ∷ 1 ∷ []) (9 ∷ 9 ∷ []) (pos 9 ∷ []) ≡ turned LIST (9 ∷ 9 ∷ []) (pos 9 ∷ [])
  -- two struck records, both sheets sound: buffer and lists just long enough
  pub just_enough : brine_outcome (replicate 80 0) (1 ∷ 1 ∷ []) (9 ∷ 9 ∷ []) (pos 9 ∷ pos 9 ∷ []) ≡ record {
    answer = record { number = 0; sound = 2; faulted = 0; intake = 0; overloaded = 0 };
    intake = 0 ∷ 0 ∷ [];
    spare = pos 0 ∷ pos 0 ∷ [];
  }

pub brine_examples : Table
unfolding everything joined
brine_examples = search

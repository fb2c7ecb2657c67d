-- Who depends on a well, in small sheets and at the edges of the refusals, as one table under one theorem.
-- Assumes nothing.
use Prim.Native.Nat.{ℕ, suc, ◌^◌}
use mathlib.Core.Path.{◌≡◌}
use mathlib.Core.List.{List, [], ◌∷◌, ◌++◌}
use lib.ListN.{length, replicate}
use Rattle.definition.specs.Refusal.{SHEET, HOPS, UNSOUND, WELL, REACH}
use Rattle.definition.specs.Buffer.{joined}
use Rattle.plan_definition.proofs.Examples.{inj, prod, gone, all_but, quarters}
use Rattle.reach_definition.specs.Reach.{ReachOutcome, reach_outcome}
use Rattle.reach_definition.proofs.Computed.{everything}

-- who is reached from a well of a sheet of records, in a buffer of nines with a byte more than there are records
abbrev pub asked : List (List ℕ) → (well hops : ℕ) → ReachOutcome
asked xs well hops = reach_outcome (joined xs) (length xs) well hops (replicate (suc (length xs)) 9)

-- the marks, and the last byte as it was
abbrev pub told : List ℕ → ReachOutcome
told marks = record { number = 0; reached = marks ++ 9 ∷ [] }

abbrev pub turned : (number : ℕ) → (reached : List ℕ) → ReachOutcome
turned number reached = record { number = number; reached = reached }

-- producer 1 with injectors 2 to 5
abbrev pub star : List (List ℕ)
star = prod 1 quarters ∷ inj 2 ∷ inj 3 ∷ inj 4 ∷ inj 5 ∷ []

-- producers 1 and 3 share injector 2, producers 3 and 5 share injector 4: 1, 2, 3, 4, 5 in a line, which stand in the sheet in another order
abbrev pub row : List (List ℕ)
row = prod 3 ((2, 500) ∷ (4, 500) ∷ []) ∷ inj 2 ∷ prod 5 ((4, 1000) ∷ []) ∷ prod 1 ((2, 1000) ∷ []) ∷ inj 4 ∷ []

-- two parts, and an injector that nobody links
abbrev pub parts : List (List ℕ)
parts = prod 1 ((2, 1000) ∷ []) ∷ inj 2 ∷ prod 3 ((4, 1000) ∷ []) ∷ inj 4 ∷ inj 6 ∷ []

-- a part with struck records around it
abbrev pub thinned : List (List ℕ)
thinned = gone ∷ prod 1 ((2, 1000) ∷ []) ∷ gone ∷ inj 2 ∷ gone ∷ []

-- a sheet that Q-1 faults: its producer links no injector
abbrev pub faulty : List (List ℕ)
faulty = prod 1 ((9, 1000) ∷ []) ∷ inj 2 ∷ []

pub record Table : Type 0 where
  -- the well itself at 0
  pub producer_0 : asked star 1 0 ≡ told (1 ∷ 0 ∷ 0 ∷ 0 ∷ 0 ∷ [])
  pub injector_0 : asked star 4 0 ≡ told (0 ∷ 0 ∷ 0 ∷ 1 ∷ 0 ∷ [])
  -- a producer with four injectors
  pub four-injectors : asked star 1 1 ≡ told (1 ∷ 1 ∷ 1 ∷ 1 ∷ 1 ∷ [])
  pub its_producer : asked star 3 1 ≡ told (1 ∷ 0 ∷ 1 ∷ 0 ∷ 0 ∷ [])
  pub beside_it : asked star 3 2 ≡ told (1 ∷ 1 ∷ 1 ∷ 1 ∷ 1 ∷ [])
  -- an injector that two producers share
  pub shared-1 : asked row 2 1 ≡ told (1 ∷ 1 ∷ 0 ∷ 1 ∷ 0 ∷ [])
  pub shared-2 : asked row 2 2 ≡ told (1 ∷ 1 ∷ 0 ∷ 1 ∷ 1 ∷ [])
  pub shared-3 : asked row 2 3 ≡ told (1 ∷ 1 ∷ 1 ∷ 1 ∷ 1 ∷ [])
  -- from one end of the line the other is four links away
  pub end-1 : asked row 1 1 ≡ told (0 ∷ 1 ∷ 0 ∷ 1 ∷ 0 ∷ [])
  pub end-2 : asked row 1 2 ≡ told (1 ∷ 1 ∷ 0 ∷ 1 ∷ 0 ∷ [])
  pub end-3 : asked row 1 3 ≡ told (1 ∷ 1 ∷ 0 ∷ 1 ∷ 1 ∷ [])
  -- two parts that no chain joins
  pub one_part : asked parts 1 3 ≡ told (1 ∷ 1 ∷ 0 ∷ 0 ∷ 0 ∷ [])
  pub other_part : asked parts 4 3 ≡ told (0 ∷ 0 ∷ 1 ∷ 1 ∷ 0 ∷ [])
  pub alone : asked parts 6 3 ≡ told (0 ∷ 0 ∷ 0 ∷ 0 ∷ 1 ∷ [])
  -- struck records are never marked, and number 0 stays absent
  pub struck_0 : asked thinned 2 0 ≡ told (0 ∷ 0 ∷ 0 ∷ 1 ∷ 0 ∷ [])
  pub struck-3 : asked thinned 1 3 ≡ told (0 ∷ 1 ∷ 0 ∷ 1 ∷ 0 ∷ [])
  pub struck_number_0 : (reached : List ℕ) → reach_outcome (joined thinned) 5 0 3 reached ≡ turned WELL reached
  pub all_struck : (well : ℕ) (reached : List ℕ) → reach_outcome (joined (gone ∷ gone ∷ [])) 2 well 3 reached ≡ turned WELL reached
  pub note_set : (well : ℕ) (reached : List ℕ) → reach_outcome (joined (gone ∷ all_but 39 ∷ [])) 2 well 3 reached ≡ turned UNSOUND reached
  pub bytes_4_with_struck : reach_outcome (joined thinned) 5 1 3 (replicate 4 9) ≡ turned REACH (replicate 4 9)
  -- refused in the request's order; numbers are judged whole
  pub n_1025 : (sheet : List ℕ) (well hops : ℕ) (reached : List ℕ) → reach_outcome sheet 1025 well hops reached ≡ turned SHEET reached
  pub bytes_39 : (well hops : ℕ) (reached : List ℕ) → reach_outcome (replicate 39 0) 1 well hops reached ≡ turned SHEET reached
  pub hops-4 : (well : ℕ) (reached : List ℕ) → reach_outcome (joined faulty) 2 well 4 reached ≡ turned HOPS reached
  pub hops_2_32 : (well : ℕ) (reached : List ℕ) → reach_outcome (joined faulty) 2 well (2 ^ 32) reached ≡ turned HOPS reached
  pub faulted : (well : ℕ) (reached : List ℕ) → reach_outcome (joined faulty) 2 well 3 reached ≡ turned UNSOUND reached
  pub number-9 : (reached : List ℕ) → reach_outcome (joined parts) 5 9 0 reached ≡ turned WELL reached
  pub number_0 : (reached : List ℕ) → reach_outcome (joined parts) 5 0 0 reached ≡ turned WELL reached
  pub number_65539 : (reached : List ℕ) → reach_outcome (joined parts) 5 65539 0 reached ≡ turned WELL reached
  pub no_records : (well : ℕ) (reached : List ℕ) → reach_outcome [] 0 well 3 reached ≡ turned WELL reached
  pub no_records_4 : (well : ℕ) (reached : List ℕ) → reach_outcome [] 0 well 4 reached ≡ turned HOPS reached
  pub past-n : (reached : List ℕ) → reach_outcome (joined parts) 4 6 0 reached ≡ turned WELL reached
  pub bytes_4_of_5 : reach_outcome (joined parts) 5 1 3 (replicate 4 9) ≡ turned REACH (replicate 4 9)
  pub bytes_5_of_5 : reach_outcome (joined parts) 5 1 3 (replicate 5 9) ≡ record { number = 0; reached = 1 ∷ 1 ∷ 0 ∷ 0 ∷ 0 ∷ [] }

pub reach_examples : Table
unfolding everything joined
reach_examples = search

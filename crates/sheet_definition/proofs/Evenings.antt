-- Many changes in one save at their edges, as one table under one theorem; and the hypotheses of their laws can be met: an evening's work of two
-- changes, and one of none.
-- Assumes nothing.
use mathlib.Core.Path.{◌≡◌, refl}
use mathlib.Core.List.{List, [], ◌∷◌, ◌++◌}
use Prim.Native.Nat.{ℕ, ◌+◌, ◌^◌}
use Rattle.definition.specs.Luffa.{luffa}
use Rattle.definition.specs.Buffer.{joined}
use Rattle.definition.specs.Refusal.{PLACE, SIZE, SET, first_of}
use Rattle.sheet_definition.specs.Refusals.{batch_refusals}
use Rattle.sheet_definition.specs.SheetCalls.{Call, save_of, call, batching, batch_outcome}
use Rattle.sheet_definition.specs.Run.{left, list_after, in_turn}
use Rattle.sheet_definition.specs.Turns.{AsOneByOne}
use Rattle.sheet_definition.proofs.Computed.{everything}
use Rattle.sheet_definition.proofs.Demand3.{after}
use Rattle.sheet_definition.proofs.Turns.{as_one_by_one, empty_set}
use Rattle.sheet_definition.proofs.Examples.{Takes, takes, at}
use Rattle.sheet_definition.proofs.Instances.{blank, ones, zeros, three, three-stands}

-- a batch of so many bytes of records at places of five records at code 2, with all buffers as they should be
abbrev pub batch_of_five : (places : List ℕ) → (bytes : ℕ) → ℕ
batch_of_five places bytes = first_of (batch_refusals (record { code = 2; n = 5; sheet_length = 200; marks_length = 80; out_length = 32 }) places bytes 32)

pub record BatchExamples : Type 0 where
  -- places that rise, to the last; none
  pub rise : batch_of_five (0 ∷ 1 ∷ 4 ∷ []) 120 ≡ 0
  pub none : batch_of_five [] 0 ≡ 0
  -- equal is not rising, and that is judged before any place is held against n
  pub equal : batch_of_five (1 ∷ 1 ∷ []) 80 ≡ SET
  pub falling : batch_of_five (9 ∷ 8 ∷ []) 80 ≡ SET
  pub past : batch_of_five (0 ∷ 5 ∷ []) 80 ≡ PLACE
  pub wide : batch_of_five ((2 ^ 32 + 1) ∷ []) 40 ≡ PLACE
  -- 40 bytes for each place
  pub short : batch_of_five (0 ∷ 1 ∷ []) 79 ≡ SIZE
  pub none_sized : batch_of_five [] 40 ≡ SIZE
  -- rounds: as a change at the lowest place; of none those of the check
  pub at_4 : (sheet marks x claim out : List ℕ) → Takes (batch_outcome 2 sheet 5 marks (4 ∷ []) x claim out).answer 6
  pub at_0_and_4 : (sheet marks x claim out : List ℕ) → Takes (batch_outcome 2 sheet 5 marks (0 ∷ 4 ∷ []) x claim out).answer 11
  pub at_none : (sheet marks x claim out : List ℕ) → Takes (batch_outcome 2 sheet 5 marks [] x claim out).answer 3
  pub of_full : (sheet marks x claim out : List ℕ) → Takes (batch_outcome 4 sheet 1024 marks (0 ∷ 512 ∷ 1023 ∷ []) x claim out).answer 1286

pub batch_examples : BatchExamples
unfolding everything
batch_examples =
    record {
      rise = refl;
      none = refl;
      equal = refl;
      falling = refl;
      past = refl;
      wide = refl;
      short = refl;
      none_sized = refl;
      at_4 = λ s m x c o. takes (at 2 5 s m) (batching (4 ∷ []) x c o) 6 refl;
      at_0_and_4 = λ s m x c o. takes (at 2 5 s m) (batching (0 ∷ 4 ∷ []) x c o) 11 refl;
      at_none = λ s m x c o. takes (at 2 5 s m) (batching [] x c o) 3 refl;
      of_full = λ s m x c o. takes (at 4 1024 s m) (batching (0 ∷ 512 ∷ 1023 ∷ []) x c o) 1286 refl;
    }

-- the digest of a sheet of three records of zeros
abbrev pub opened-digest : List ℕ
opened-digest = luffa 2 (joined (zeros ∷ zeros ∷ zeros ∷ []))

-- two of them replaced in one save, and none: read-in-turn, as-one-by-one, empty-set
abbrev pub evening : Call
evening = batching (0 ∷ 2 ∷ []) (ones ++ ones) opened-digest blank

abbrev pub idle : Call
idle = batching [] [] opened-digest blank

evening_valid : first_of (save_of three evening).refusals ≡ 0
unfolding everything
evening_valid = refl

pub evening_taken : (call three evening).answer.number ≡ 0
unfolding left
evening_taken = (after three evening (zeros ∷ zeros ∷ zeros ∷ []) three-stands).accepted.1 (evening_valid, refl)

pub evening_listed : list_after evening.kind (zeros ∷ zeros ∷ zeros ∷ []) ≡ ones ∷ zeros ∷ ones ∷ []
unfolding list_after in_turn
evening_listed = refl

pub evening_one_by_one : AsOneByOne three (0 ∷ 2 ∷ []) (ones ++ ones) opened-digest blank
evening_one_by_one = as_one_by_one three 0 (2 ∷ []) (ones ++ ones) opened-digest blank evening_taken

idle_valid : first_of (save_of three idle).refusals ≡ 0
unfolding everything
idle_valid = refl

pub idle_taken : (call three idle).answer.number ≡ 0
unfolding left
idle_taken = (after three idle (zeros ∷ zeros ∷ zeros ∷ []) three-stands).accepted.1 (idle_valid, refl)

pub idle_rounds : (call three idle).answer.rounds ≡ 5
unfolding everything
idle_rounds = rw (empty_set three [] opened-digest blank idle_taken)

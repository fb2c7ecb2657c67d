-- Closing up at its edges, as one table under one theorem; and the hypotheses of its laws can be met: three struck records closed up, twice, and their
-- room used again; a sheet with none struck.
-- Assumes nothing.
use mathlib.Core.Path.{◌≡◌, refl}
use mathlib.Core.Bool.{true, false}
use mathlib.Core.List.{List, [], ◌∷◌, ◌++◌}
use Prim.Native.Nat.{ℕ}
use native.Mathlib.Nat.{le_refl}
use lib.ListN.{length, replicate}
use Rattle.definition.specs.Luffa.{luffa}
use Rattle.definition.specs.Buffer.{joined}
use Rattle.definition.specs.Refusal.{CLAIM, PLACES, first_of}
use Rattle.sheet_definition.specs.Sheet.{cut}
use Rattle.sheet_definition.specs.Struck.{all_zero, standing, old_places}
use Rattle.sheet_definition.specs.Refusals.{close_up_refusals}
use Rattle.sheet_definition.specs.SheetCalls.{Call, save_of, call, closing_up, close_up_outcome}
use Rattle.sheet_definition.specs.Run.{left, next, run}
use Rattle.sheet_definition.specs.Turns.{appends_of, one_by_one, AllDone}
use Rattle.sheet_definition.specs.Said.{Stand, Stands, NoneStruck}
use Rattle.sheet_definition.proofs.Computed.{everything}
use Rattle.sheet_definition.proofs.Demand3.{after}
use Rattle.sheet_definition.proofs.CloseUps.{none_struck, closed_twice}
use Rattle.sheet_definition.proofs.Served.{freed_serves}
use Rattle.sheet_definition.proofs.Examples.{Takes, takes, at}
use Rattle.sheet_definition.proofs.Instances.{blank, ones, twos, zeros, opened, three, three-stands}

-- closing up five records at code 2, with all other buffers as they should be
abbrev pub close_five : (places claim : ℕ) → ℕ
close_five places claim = first_of (close_up_refusals (record { code = 2; n = 5; sheet_length = 200; marks_length = 80; out_length = 32 }) places claim)

-- the rounds of closing up records, whatever the marks
abbrev pub Closes : List (List ℕ) → (rounds : ℕ) → Type 0
Closes rs k = (marks claim places out : List ℕ) → Takes (close_up_outcome 2 (joined rs) (length rs) marks claim places out).answer k

pub record CloseUpExamples : Type 0 where
  -- 23 comes before 10, and a list of n places is enough
  pub list-5 : close_five 5 32 ≡ 0
  pub list-4 : close_five 4 32 ≡ PLACES
  pub list_4_claim_31 : close_five 4 31 ≡ PLACES
  pub claim_31 : close_five 5 31 ≡ CLAIM
  -- all 40 bytes, the note's last too
  pub forty_zeros : all_zero zeros ≡ true
  pub note_set : all_zero (replicate 24 0 ++ replicate 16 1) ≡ false
  pub last_byte_set : all_zero (replicate 39 0 ++ 1 ∷ []) ≡ false
  -- the rest in order, and where they were
  pub left : standing (zeros ∷ ones ∷ zeros ∷ twos ∷ []) ≡ ones ∷ twos ∷ []
  pub places : old_places 0 (zeros ∷ ones ∷ zeros ∷ twos ∷ []) ≡ 1 ∷ 3 ∷ []
  -- rounds: from the group of the first struck, or the last mark; all struck, and none there
  pub first_of_five : Closes (zeros ∷ ones ∷ ones ∷ ones ∷ ones ∷ []) 10
  pub last_of_five : Closes (ones ∷ ones ∷ ones ∷ ones ∷ zeros ∷ []) 5
  pub none_of_five : Closes (ones ∷ ones ∷ ones ∷ ones ∷ ones ∷ []) 6
  pub all_of_four : Closes (zeros ∷ zeros ∷ zeros ∷ zeros ∷ []) 4
  pub no_records : Closes [] 4

pub close_up_examples : CloseUpExamples
unfolding everything joined
close_up_examples =
    record {
      list-5 = refl;
      list-4 = refl;
      list_4_claim_31 = refl;
      claim_31 = refl;
      forty_zeros = refl;
      note_set = refl;
      last_byte_set = refl;
      left = refl;
      places = refl;
      first_of_five = λ m c p o. takes (at 2 5 (joined (zeros ∷ ones ∷ ones ∷ ones ∷ ones ∷ [])) m) (closing_up p c o) 10 refl;
      last_of_five = λ m c p o. takes (at 2 5 (joined (ones ∷ ones ∷ ones ∷ ones ∷ zeros ∷ [])) m) (closing_up p c o) 5 refl;
      none_of_five = λ m c p o. takes (at 2 5 (joined (ones ∷ ones ∷ ones ∷ ones ∷ ones ∷ [])) m) (closing_up p c o) 6 refl;
      all_of_four = λ m c p o. takes (at 2 4 (joined (zeros ∷ zeros ∷ zeros ∷ zeros ∷ [])) m) (closing_up p c o) 4 refl;
      no_records = λ m c p o. takes (at 2 0 [] m) (closing_up p c o) 4 refl;
    }

-- three struck records closed up: close-up-rounds, closed-records, list-written
abbrev pub closing : Call
closing = closing_up (7 ∷ 7 ∷ 7 ∷ []) (luffa 2 (joined (zeros ∷ zeros ∷ zeros ∷ []))) blank

closing_valid : first_of (save_of three closing).refusals ≡ 0
unfolding everything
closing_valid = refl

pub closed : (call three closing).answer.number ≡ 0
unfolding left
closed = (after three closing (zeros ∷ zeros ∷ zeros ∷ []) three-stands).accepted.1 (closing_valid, refl)

-- and again: closed-twice
pub closed_again : next (next three closing) (closing_up [] blank blank) ≡ next three closing
closed_again = closed_twice three (7 ∷ 7 ∷ 7 ∷ []) (luffa 2 (joined (zeros ∷ zeros ∷ zeros ∷ []))) blank [] blank blank closed

-- their room used again: freed-serves
pub served : let v = next three closing in
    AllDone v (one_by_one v (appends_of (ones ∷ twos ∷ ones ∷ [])) blank) × Stands (run v (one_by_one v (appends_of (ones ∷ twos ∷ ones ∷ [])) blank)) (ones ∷ twos ∷ ones ∷ [])
unfolding everything
served = freed_serves three (zeros ∷ zeros ∷ zeros ∷ []) three-stands (7 ∷ 7 ∷ 7 ∷ []) (luffa 2 (joined (zeros ∷ zeros ∷ zeros ∷ []))) blank closed (ones ∷ twos ∷ ones ∷ []) (refl, (refl, (refl, tt))) (le_refl 3) blank (le_refl 32)

-- a sheet of one record that stands: none-struck
pub standing_one : Stand (cut opened.n opened.sheet)
unfolding everything
standing_one = (refl, tt)

pub untouched : NoneStruck opened (7 ∷ []) blank blank
untouched = none_struck opened standing_one (7 ∷ []) blank blank

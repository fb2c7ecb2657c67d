-- Reading, writing and clearing a mark where there is room; and the blocks of a mark as they are read, one after the other.
-- Assumes nothing.
use mathlib.Core.Path.{◌≡◌, refl, sym, ◌∙◌}
use mathlib.Core.List.{List}
use Prim.Native.Nat.{ℕ, ◌+◌, ◌-◌, ◌*◌, ◌/◌, ◌<◌, ◌≤◌}
use native.Mathlib.Decide.{dec_le}
use native.Mathlib.Omega.{arith}
use borrow.Author.Tests.{le-leb}
use lib.Dec.{ltb}
use lib.ListN.{length, drop, length-replicate}
use Rattle.definition.specs.declared.State.{State}
use Rattle.definition.specs.declared.Width.{Width}
use Rattle.definition.specs.declared.Width.TheVariants.{W3, W4, W5}
use Rattle.definition.specs.Block.{words_of, words_of_all, block_from}
use Rattle.definition.specs.Width.{block_count}
use Rattle.definition.specs.State.{five, state_of}
use Rattle.definition.specs.Buffer.{overwrite_at}
use Rattle.sheet_definition.specs.Sheet.{mark_words, q}
use Rattle.sheet_definition.specs.Marks.{mark_at, state_from}
use Rattle.sheet_definition.specs.SheetCalls.{past_last}
use Rattle.octets.specs.Total.{write_at}
use Rattle.octets.proofs.Total.{write_at_lem, write_not, write_none}
use Rattle.sheet_marks.specs.Total.{when_used, state_when, state_at, cleared}

-- five blocks one after the other, the last two where they are used
unfoldable pub found : Width → List ℕ → State
found w ws =
    record {
      h0 = block_from ws;
      h1 = block_from (drop 8 ws);
      h2 = block_from (drop 16 ws);
      h3 = when_used (ltb 3 (block_count w)) (block_from (drop 24 ws));
      h4 = when_used (ltb 4 (block_count w)) (block_from (drop 32 ws));
    }

-- are the state that the words hold
found-state : (w : Width) (ws : List ℕ) → found w ws ≡ state_of (state_from w ws)
unfolding found state_of state_from block_count when_used
found-state W3 ws = refl
found-state W4 ws = refl
found-state W5 ws = refl

module _ (marks : List ℕ) (m : ℕ) (h : mark_words * (m + 1) ≤ length marks) where
  pub read_at : (w : Width) → state_at w marks m ≡ state_of (state_from w (mark_at marks m))
  unfolding state_at state_when
  read_at w = rw (le-leb (mark_words * (m + 1)) (length marks) h)

  pub found_at : (w : Width) → found w (mark_at marks m) ≡ state_at w marks m
  found_at w = found-state w (mark_at marks m) ∙ sym (read_at w)

  pub written_at : (s : State) → write_at (mark_words * m) (words_of_all (five s)) marks ≡ overwrite_at (mark_words * m) (words_of_all (five s)) marks
  unfolding words_of_all five words_of
  written_at s = write_at_lem (mark_words * m) (words_of_all (five s)) marks (omega arith)

-- where the marks become no fewer nothing is cleared
pub cleared_nothing : (n count : ℕ) (marks : List ℕ) → q n ≤ q count → cleared n count marks ≡ marks
unfolding cleared
cleared_nothing n count marks h =
    let e : q n - q count ≡ 0 = omega arith in
    rw e (write_none (mark_words * (q count + 1)) marks)

pub cleared_none : (n count : ℕ) (marks : List ℕ) → n ≤ count → cleared n count marks ≡ marks
unfolding q
cleared_none n count marks h = cleared_nothing n count marks (omega arith)

-- where there is room for the marks, those past the new last are zeroed
pub cleared-past : (n count : ℕ) (marks : List ℕ) → count ≤ n → mark_words * (q n + 1) ≤ length marks → cleared n count marks ≡ past_last n count marks
unfolding cleared past_last q
cleared-past n count marks h l = write_at_lem _ _ marks (omega (arith, length-replicate {A = ℕ} (mark_words * (n / 4 - count / 4)) 0))

-- with too little room nothing is
pub cleared_not : (n count : ℕ) (marks : List ℕ) → length marks < mark_words * (q n + 1) → cleared n count marks ≡ marks
cleared_not n count marks h =
    elim (dec_le (q n) (q count)) [
      | yes d ↦ cleared_nothing n count marks d
      | no d ↦ unfold cleared in write_not _ _ marks (omega (arith, length-replicate {A = ℕ} (mark_words * (q n - q count)) 0))
    ]

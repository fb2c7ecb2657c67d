-- A call on messages, hash records or lent working states that is refused alters nothing; an accepted one leaves what it makes.
-- Assumes nothing.
use mathlib.Core.Path.{◌≡◌, ◌∙◌}
use mathlib.Core.List.{List, ◌++◌}
use Prim.Native.Nat.{ℕ}
use Rattle.hash_definition.specs.declared.Kept.{Kept}
use Rattle.definition.specs.Final.{final_rounds}
use Rattle.definition.specs.Refusal.{Refusal, when_done, first_of}
use Rattle.definition.proofs.Refusals.{Numbered, in_turn_lem, not_done}
use Rattle.hash_definition.specs.Calls.{outcome}
use Rattle.hash_definition.specs.Lent.{lent_outcome}
use Rattle.hash_definition.specs.Output.{OutputOutcome, output_by}
use Rattle.hash_definition.specs.Said.{done, taken, put_out}

module _ {n : ℕ} (rs : List Refusal) (e : n ≡ first_of rs) where
  -- a refused call's buffer is as at entry; an accepted call's is what the call makes of it
  pub refused : (after before : List ℕ) → (n ≡ 0 → ⊥) → record { number = n; buffer = before } ≡ outcome rs after before
  unfolding outcome
  refused after before h = rw (← e, not_done n after before h)

  pub accepted : (after before : List ℕ) → n ≡ 0 → done after ≡ outcome rs after before
  unfolding outcome when_done
  accepted after before z = rw (← e, z)

  -- and so a working state
  pub lent-refused : (after before : Kept) → (n ≡ 0 → ⊥) → record { number = n; kept = before } ≡ lent_outcome rs after before
  unfolding lent_outcome
  lent-refused after before h = rw (← e, not_done n after before h)

  pub lent-accepted : (after before : Kept) → n ≡ 0 → taken after ≡ lent_outcome rs after before
  unfolding lent_outcome when_done
  lent-accepted after before z = rw (← e, z)

-- and so with longer output, which reports its rounds
pub output-refused : (n words : ℕ) (after before : List ℕ) → (n ≡ 0 → ⊥)
    → record { answer = record { number = n; rounds = 0 }; buffer = before } ≡ output_by n words after before
unfolding output_by
output-refused n words after before h = rw (not_done n after before h, not_done n (final_rounds words) 0 h)

pub output-accepted : (n words : ℕ) (after before : List ℕ) → n ≡ 0 → put_out words after ≡ output_by n words after before
unfolding output_by when_done
output-accepted n words after before z = rw z

-- judged by what comes before, and then by the rest of the list: by the whole list
pub output-judged : {b : ℕ} {o : OutputOutcome} (words : ℕ) (after before : List ℕ) (rs ss : List Refusal) → Numbered rs → b ≡ first_of rs
    → o ≡ output_by (when_done b (first_of ss) b) words after before → o ≡ output_by (first_of (rs ++ ss)) words after before
output-judged words after before rs ss h e f = f ∙ rw (e, in_turn_lem rs ss h)

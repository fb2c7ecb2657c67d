-- What a `?` that refuses hands on is the outcome of a refused call.
-- Assumes nothing.
use mathlib.Core.Path.{◌≡◌}
use mathlib.Core.List.{List, ◌++◌}
use Prim.Native.Nat.{ℕ}
use Rattle.std.specs.Prelude.{Result, Ok, Err, IsErrAnd}
use Rattle.definition.specs.Refusal.{first_of, Refusal as Judgement}
use Rattle.refusals.specs.declared.Refusal.{Refusal}
use Rattle.refusals.specs.Number.{number}
use Rattle.refusals.proofs.Judged.{not_zero, refused}
use Rattle.hash_definition.specs.declared.Kept.{Kept}
use Rattle.hash_definition.specs.Lent.{lent_outcome}
use Rattle.hash_definition.specs.Output.{output_by}
use Rattle.hash_definition.proofs.Refused.{lent-refused, output-refused}
use Rattle.hash_kept.specs.Answer.{lent_of, answer_of}

-- over a lent working state, by value
pub lent_on : (r : Result Kept Refusal) (e : Refusal) (rs ss : List Judgement) → IsErrAnd r (λ y. y ≡ e) → number e ≡ first_of rs → (after before : Kept)
    → lent_of r before ≡ lent_outcome (rs ++ ss) after before
lent_on (Ok k) e rs ss h f after before = absurd h
lent_on (Err y) e rs ss h f after before = lent-refused (rs ++ ss) (refused {A = Kept} (Err y) e rs ss h f) after before (not_zero y)

-- of longer output
pub output_on : (r : Result ℕ Refusal) (e : Refusal) (rs ss : List Judgement) → IsErrAnd r (λ y. y ≡ e) → number e ≡ first_of rs → (words : ℕ) (after before : List ℕ)
    → record { answer = answer_of r; buffer = before } ≡ output_by (first_of (rs ++ ss)) words after before
output_on (Ok n) e rs ss h f words after before = absurd h
output_on (Err y) e rs ss h f words after before = rw (← refused {A = ℕ} (Err y) e rs ss h f) (output-refused (number y) words after before (not_zero y))

-- Injection in place, position by position: what is written doesn't reach the positions that are still to be read. Of any matrix with a row
-- for each block.
-- Assumes nothing.
use mathlib.Core.Path.{◌≡◌, ap, ◌∙◌}
use mathlib.Core.List.{List, [], ◌∷◌, ◌++◌, map}
use Prim.Native.Nat.{ℕ, ◌+◌, ◌*◌, ◌<◌}
use native.Mathlib.Nat.{mul_comm}
use native.Mathlib.Omega.{arith}
use lib.ListN.{length, get_or, take, length-map}
use Rattle.definition.specs.Buffer.{overwrite_at}
use Rattle.definition.proofs.Buffer.{drop-overwrite_at}
use Rattle.columns_definition.specs.Dump.{rows_to, column_at}
use Rattle.columns_definition.specs.Columns.{row_sum}
use Rattle.columns_definition.proofs.Rows.{length-rows}
use Rattle.columns_definition.proofs.Filling.{rows_none, rows_more, rows-length, rows_all}
use Rattle.columns_inject.specs.Coefficients.{injected}

module _ (rows : List (List ℕ)) (n : ℕ) (d m : List ℕ) where
  -- position l of the dump that is left
  unfoldable pub injected_at : ℕ → List ℕ
  injected_at l = map (λ cs. row_sum cs (column_at n l d ++ get_or m l 0 ∷ [])) rows

  -- the dump after l positions
  unfoldable pub injected_to : ℕ → List ℕ
  injected_to l = overwrite_at 0 (rows_to l injected_at) d

  pub injected_none : d ≡ injected_to 0
  unfolding injected_to
  injected_none = rows_none n injected_at d

  module _ (k : length rows ≡ n) where
    pub length_at : (l : ℕ) → length (injected_at l) ≡ n
    unfolding injected_at
    length_at l = length-map rows _ ∙ k

    -- position l is as it was
    unread : (l : ℕ) → column_at n l (injected_to l) ≡ column_at n l d
    unfolding injected_to column_at
    unread l =
        ap (take n)
        (drop-overwrite_at 0 (n * l) (rows_to l injected_at) d (omega (arith, length-rows n l injected_at (λ i h. length_at i))) (omega arith))

    module _ (e : length d ≡ 32 * n) where
      -- one position more
      pub injected_more : (l : ℕ) (before after r : List ℕ) → l < 32 → before ≡ injected_to l
          → r ≡ map (λ cs. row_sum cs (column_at n l before ++ get_or m l 0 ∷ [])) rows
          → after ≡ overwrite_at (n * l) r before
          → (length after ≡ length d) × (after ≡ injected_to (l + 1))
      unfolding injected_at injected_to
      injected_more l before after r h b q a =
          let s : r ≡ injected_at l = q ∙ ap (λ (es : List ℕ). map (λ cs. row_sum cs (es ++ get_or m l 0 ∷ [])) rows) (ap (column_at n l) b ∙ unread l) in
          let t : after ≡ overwrite_at 0 (rows_to (l + 1) injected_at) d = a ∙ rw (s, b) (rows_more n injected_at d l (λ i k. length_at i)) in
          (ap length t ∙ rows-length n injected_at d (l + 1) (λ i k. length_at i) 32 (omega arith) (e ∙ mul_comm 32 n), t)

      -- all 32
      pub injected_all : injected_to 32 ≡ injected rows n d m
      unfolding injected_at injected_to injected
      injected_all = rows_all n injected_at d 32 (λ i k. length_at i) (e ∙ mul_comm 32 n)

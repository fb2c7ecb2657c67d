-- A batch sheet by sheet: what is left of it from a sheet on, and that a sheet with room isn't refused by itself.
-- Assumes nothing.
use mathlib.Core.Path.{◌≡◌}
use mathlib.Core.List.{List, [], ◌∷◌}
use Prim.Native.Nat.{ℕ, suc, ◌+◌, ◌*◌, ◌<◌, ◌≤◌}
use native.Mathlib.Omega.{arith}
use lib.IntN.{ℤ}
use lib.ListN.{length, get_or, drop}
use lib.Seq.{drop-cons, drop-drop}
use Rattle.plan_definition.specs.declared.Well.{Well}
use Rattle.plan_definition.specs.Well.{wells}
use Rattle.plan_definition.proofs.Some.{none_among, among-cons}
use Rattle.brine_definition.specs.Count.{sum}
use Rattle.brine_definition.specs.Statement.{batch}
use Rattle.brine_definition.proofs.Sound.{next-sheet}
use Rattle.brine_definition.proofs.Outcomes.{given}
use Rattle.brine_definition.proofs.Refused.{none_refused}

-- the sheets from number k on, where those before have so many records
abbrev pub left_from : (k at : ℕ) → (counts sheets : List ℕ) → List (List Well)
left_from k at counts sheets = batch (drop k counts) (drop (40 * at) sheets)

pub left_step : (counts sheets : List ℕ) (k at : ℕ) → k < length counts
    → left_from k at counts sheets ≡ wells (get_or counts k 0) (drop (40 * at) sheets) ∷ left_from (suc k) (at + get_or counts k 0) counts sheets
left_step counts sheets k at h =
    let n = get_or counts k 0 in
    let e : 40 * (at + n) ≡ 40 * at + 40 * n = omega arith in
    rw (drop-cons counts k 0 h, next-sheet n (drop (suc k) counts) (drop (40 * at) sheets), e, drop-drop (40 * n) (40 * at) sheets)

pub allowed_alone : (sheet : List ℕ) (n : ℕ) (intake : List ℕ) (spare : List ℤ)
    → n ≤ 1024 → 40 * n ≤ length sheet → n ≤ length intake → n ≤ length spare → given sheet (n ∷ []) intake spare ≡ 0
unfolding sum
allowed_alone sheet n intake spare h b x y =
    (none_refused (length sheet) (n ∷ []) (length intake) (length spare)).1 (
      omega arith,
      ((among-cons (λ m. m ≤ 1024) h (λ m a. absurd (none_among a)), omega arith), (omega arith, omega arith)),
    )

-- The words in which the theorems about the brine statement speak: document 02, Q-3.
use Rattle.std.specs.Prelude.{ℕ, suc, ◌*◌, ◌^◌, ◌<◌, ◌≤◌, ◌≡◌, ◌⊎◌, Bool, false, ◌&&◌, List, [], ◌∷◌, ltb, pos, length, take, drop}
use Rattle.sheet_definition.specs.Sheet.{most, record_bytes}
use Rattle.plan_definition.specs.declared.Well.{Well}
use Rattle.plan_definition.specs.Some.{Among}
use Rattle.plan_definition.specs.Well.{well_of, wells}
use Rattle.plan_definition.specs.Rules.{injector}
use Rattle.plan_definition.specs.Check.{sound}
use Rattle.brine_definition.specs.declared.Statement.{Statement}
use Rattle.brine_definition.specs.Count.{sum}
use Rattle.brine_definition.specs.Page.{Row, intake_from, row_in}

-- "more than 64 sheets", or no more
abbrev pub TooMany : (counts : List ℕ) → Type 0
TooMany counts = 64 < length counts

abbrev pub Few : (counts : List ℕ) → Type 0
Few counts = length counts ≤ 64

-- "any count over 1,024, or buffer under 40 bytes for each record", or neither
abbrev pub NoRoom : (sheets : ℕ) → (counts : List ℕ) → Type 0
NoRoom sheets counts = ((n : ℕ) × Among n counts × (most < n)) ⊎ (sheets < record_bytes * sum counts)

abbrev pub Room : (sheets : ℕ) → (counts : List ℕ) → Type 0
Room sheets counts = ((n : ℕ) → Among n counts → n ≤ most) × (record_bytes * sum counts ≤ sheets)

-- "either list shorter than the records of the batch", or neither
abbrev pub Short : (counts : List ℕ) → (intake spare : ℕ) → Type 0
Short counts intake spare = (intake < sum counts) ⊎ (spare < sum counts)

abbrev pub Long : (counts : List ℕ) → (intake spare : ℕ) → Type 0
Long counts intake spare = (sum counts ≤ intake) × (sum counts ≤ spare)

-- where sheet k of a batch begins: after the records of those before it, and its bytes
abbrev pub before : (counts : List ℕ) → (k : ℕ) → ℕ
before counts k = sum (take k counts)

abbrev pub sheet_at : (counts sheets : List ℕ) → (k : ℕ) → List ℕ
sheet_at counts sheets k = drop (record_bytes * before counts k) sheets

-- the row of record i of a sheet of n
abbrev pub row_at : (n i : ℕ) → (sheet : List ℕ) → Row
row_at n i sheet = row_in (wells n sheet) (well_of i (take record_bytes (drop (record_bytes * i) sheet)))

-- a row of zeros
abbrev pub no_row : Row
no_row = record { intake = 0; spare = pos 0 }

-- an injector of a sound sheet that is sent over 1000 times its rate
abbrev pub overloaded_in : List Well → Well → Bool
overloaded_in ws w = sound ws && (injector w && ltb (1000 * w.rate) (intake_from ws w.number))

-- an answer whose figures are 64 bits wide
pub record AnswerFits (a : Statement) : Type 0 where
  pub sound : a.sound < 2 ^ 64
  pub faulted : a.faulted < 2 ^ 64
  pub intake : a.intake < 2 ^ 64
  pub overloaded : a.overloaded < 2 ^ 64

-- "A faulted sheet contributes to its own count only": an answer that has one more
pub record OneMore (more less : Statement) : Type 0 where
  pub sound : more.sound ≡ less.sound
  pub faulted : more.faulted ≡ suc less.faulted
  pub intake : more.intake ≡ less.intake
  pub overloaded : more.overloaded ≡ less.overloaded

-- two batches that differ only within sheets that stay faulted
pub data Alike : List (List Well) → List (List Well) → Type 0 where
  none : Alike [] []
  equal : {ws : List Well} {a b : List (List Well)} → Alike a b → Alike (ws ∷ a) (ws ∷ b)
  faulted : {vs ws : List Well} {a b : List (List Well)} → sound vs ≡ false → sound ws ≡ false → length vs ≡ length ws → Alike a b
      → Alike (vs ∷ a) (ws ∷ b)

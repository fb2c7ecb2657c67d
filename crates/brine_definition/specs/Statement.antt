-- The brine statement over a batch: document 02, Q-3. A batch is the wells of each of its sheets.
use Rattle.std.specs.Prelude.{ℕ, ◌*◌, Bool, not, ◌||◌, List, [], ◌∷◌, ◌++◌, map, ltb, ℤ, pos, length, drop}
use Rattle.std.specs.Int.Signed.{lt_z}
use Rattle.definition.specs.Refusal.{Refusal, BATCH, SHEET, LIST, first_of, when_done}
use Rattle.sheet_definition.specs.Sheet.{most, record_bytes}
use Rattle.plan_definition.specs.declared.Well.{Well}
use Rattle.plan_definition.specs.Some.{some}
use Rattle.plan_definition.specs.Well.{wells}
use Rattle.plan_definition.specs.Check.{sound}
use Rattle.brine_definition.specs.declared.Statement.{Statement}
use Rattle.brine_definition.specs.Count.{sum, count}
use Rattle.brine_definition.specs.Page.{Row, rows}

-- "The sheets are lent one after another in one buffer with a list of their counts."
unfoldable pub batch : (counts sheets : List ℕ) → List (List Well)
batch [] sheets = []
batch (n ∷ ns) sheets = wells n sheets ∷ batch ns (drop (record_bytes * n) sheets)

-- "one place for each record of the batch"
unfoldable pub page : List (List Well) → List Row
page [] = []
page (ws ∷ wss) = rows ws ++ page wss

unfoldable pub intakes : List Row → List ℕ
intakes rs = map (λ r. r.intake) rs

unfoldable pub spares : List Row → List ℤ
spares rs = map (λ r. r.spare) rs

unfoldable pub below_zero : ℤ → Bool
below_zero z = lt_z z (pos 0)

-- "Over the batch: sheets sound, sheets faulted by Q-1, total intake, injectors overloaded."
unfoldable pub statement_of : List (List Well) → Statement
statement_of wss =
    record {
      number = 0;
      sound = count sound wss;
      faulted = count (λ ws. not (sound ws)) wss;
      intake = sum (intakes (page wss));
      overloaded = count below_zero (spares (page wss));
    }

unfoldable pub refused_by : (number : ℕ) → Statement
refused_by number = record { number = number; sound = 0; faulted = 0; intake = 0; overloaded = 0 }

-- "25 LIST (either list shorter than the records of the batch)". Lengths stand for the buffers
abbrev pub list_refusal : (records intake spare : ℕ) → Refusal
list_refusal records intake spare = (LIST, ltb intake records || ltb spare records)

-- "Refusals: 13 BATCH (more than 64 sheets), then 5 (any count over 1,024, or buffer under 40 bytes for each record), then 25 LIST .."
unfoldable pub brine_refusals : (sheets : ℕ) → (counts : List ℕ) → (intake spare : ℕ) → List Refusal
brine_refusals sheets counts intake spare =
    (BATCH, ltb 64 (length counts))
    ∷ (SHEET, some (ltb most) counts || ltb sheets (record_bytes * sum counts))
    ∷ list_refusal (sum counts) intake spare
    ∷ []

pub record BrineOutcome : Type 0 where
  pub answer : Statement
  pub intake : List ℕ
  pub spare : List ℤ

-- "Intake and spare go into two lent lists ..; places beyond are untouched."
unfoldable pub brine_outcome : (sheets counts intake : List ℕ) → (spare : List ℤ) → BrineOutcome
brine_outcome sheets counts intake spare =
    let number : ℕ = first_of (brine_refusals (length sheets) counts (length intake) (length spare)) in
    let wss : List (List Well) = batch counts sheets in
    when_done number (
    record {
      answer = statement_of wss;
      intake = intakes (page wss) ++ drop (sum counts) intake;
      spare = spares (page wss) ++ drop (sum counts) spare;
    }
    ) (record { answer = refused_by number; intake = intake; spare = spare })

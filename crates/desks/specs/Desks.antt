-- Two desks that change different wells of one sheet, one after the other: document 02, Q-13.
use Rattle.std.specs.Prelude.{◌≡◌, ℕ, ◌+◌, ◌<◌, ◌≤◌, true, List, [], ◌∷◌, length, take}
use Rattle.definition.specs.Luffa.{bytes_at, luffa}
use Rattle.definition.specs.Buffer.{Every, joined}
use Rattle.definition.specs.Refusal.{known}
use Rattle.sheet_definition.specs.Sheet.{World, record_bytes}
use Rattle.sheet_definition.specs.Save.{SheetOutcome}
use Rattle.sheet_definition.specs.SheetCalls.{Kind, Call, call}
use Rattle.sheet_definition.specs.SheetCalls.Kind.{Change, Append, Drop, Batch, CloseUp}
use Rattle.sheet_definition.specs.Run.{next, list_after}
use Rattle.sheet_definition.specs.Said.{Stale, Stands, Untouched}

-- the digest that a call has handed out
unfoldable pub handed : (code : ℕ) → SheetOutcome → List ℕ
handed code o = take (bytes_at code) o.out

-- a save with another claim
abbrev pub claiming : (claim : List ℕ) → Call → Call
claiming d c = record { kind = c.kind; claim = d; own = c.own; out = c.out }

-- one desk's save and then the other's, "with the claim right at its time": the digest that the first has handed out
abbrev pub second : World → (a b : Call) → Call
second w a b = claiming (handed w.code (call w a)) b

abbrev pub both : World → (a b : Call) → SheetOutcome
both w a b = call (next w a) (second w a b)

-- saves that change records, one or many; the places, and what is written there
unfoldable pub Changing : Kind → Type 0
Changing (Change place x) = Unit
Changing (Append x) = ⊥
Changing Drop = ⊥
Changing (Batch places x) = Unit
Changing (CloseUp places) = ⊥

unfoldable pub places_of : Kind → List ℕ
places_of (Change place x) = place ∷ []
places_of (Append x) = []
places_of Drop = []
places_of (Batch places x) = places
places_of (CloseUp places) = []

unfoldable pub records_of : Kind → List ℕ
records_of (Change place x) = x
records_of (Append x) = []
records_of Drop = []
records_of (Batch places x) = x
records_of (CloseUp places) = []

-- "changes at different places"
pub record Apart (k l : Kind) : Type 0 where
  pub changing : Changing k × Changing l
  pub different : Every (λ i. Every (λ j. i ≡ j → ⊥) (places_of l)) (places_of k)

-- "leave the same sheet, marks, final digest and round total in either order": both are accepted whichever comes first
pub record EitherOrder (w : World) (a b : Call) : Type 0 where
  pub accepted : ((both w a b).answer.number ≡ 0) × ((both w b a).answer.number ≡ 0)
  pub same_count : (both w a b).answer.count ≡ (both w b a).answer.count
  pub same_sheet : (both w a b).sheet ≡ (both w b a).sheet
  pub same_marks : (both w a b).marks ≡ (both w b a).marks
  pub same_digest : handed w.code (both w a b) ≡ handed w.code (both w b a)
  pub same_rounds : (call w a).answer.rounds + (both w a b).answer.rounds ≡ (call w b).answer.rounds + (both w b a).answer.rounds

-- what two planners see who have opened one sheet, a list of records, when one saves and then the other
pub record Seen (w : World) (rs : List (List ℕ)) (a b : Call) : Type 0 where
  -- the other, with the claim of the sheet that both have opened, is stale, and nothing is altered; unless the two sheets share a digest
  pub stale : (luffa w.code (joined rs) ≡ luffa w.code (joined (list_after a.kind rs)) → ⊥)
      → Stale (call (next w a) b).answer.number × Untouched (next w a) b.out (call (next w a) b)
  -- opened again, the sheet has the first one's records, and its digest is the one that was handed out
  pub opened_again : handed w.code (call w a) ≡ luffa w.code (joined (list_after a.kind rs))
  -- with it the save is done, and all is as if the other had come first
  pub either_way : EitherOrder w a b
  -- the sheet then has the records of both, and its digest is handed out
  pub stands : Stands (next (next w a) (second w a b)) (list_after b.kind (list_after a.kind rs))
  pub digest : handed w.code (both w a b) ≡ luffa w.code (joined (list_after b.kind (list_after a.kind rs)))

-- a change that a desk may save: at a known code, a place of the sheet, a record of 40 bytes, and a buffer with room for the digest
pub record Ready (w : World) (place : ℕ) (x out : List ℕ) : Type 0 where
  pub known-code : known w.code ≡ true
  pub held : place < w.n
  pub sized : length x ≡ record_bytes
  pub room : bytes_at w.code ≤ length out

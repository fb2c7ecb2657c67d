-- Many records written at places that rise: what stays of the sheet, and the list of records that it then holds.
-- Assumes nothing.
use mathlib.Core.Path.{◌≡◌, refl, ◌∙◌}
use mathlib.Core.Bool.{true, false}
use mathlib.Core.List.{List, [], ◌∷◌}
use Prim.Native.Nat.{ℕ, ◌+◌, ◌*◌, ◌<◌, ◌≤◌}
use native.Mathlib.Omega.{arith}
use lib.Dec.{leb, ltb}
use lib.ListN.{length, take, drop, length-drop}
use lib.Seq.{length-take-le}
use borrow.Author.Tests.{ltb-true, leb-false}
use Rattle.definition.specs.Buffer.{Every, overwrite_at}
use Rattle.definition.specs.Refusal.{rising}
use Rattle.sheet_definition.specs.Sheet.{record_bytes}
use Rattle.sheet_definition.specs.Refusals.{any_past}
use Rattle.sheet_definition.specs.SheetCalls.{written_at, lowest, past_highest}
use Rattle.sheet_definition.specs.Run.{in_turn}
use Rattle.definition.proofs.Buffer.{length-overwrite_at, take-overwrite_at, drop-overwrite_at}
use Rattle.definition.proofs.Conditions.{both_true, either_false}
use Rattle.sheet_definition.proofs.Joined.{Listed, listed-set}

-- places of n records
abbrev pub Below : (n : ℕ) → List ℕ → Type 0
Below n = Every (λ p. p < n)

pub none_past : (n : ℕ) (ps : List ℕ) → any_past n ps ≡ false → Below n ps
unfolding any_past
none_past n [] e = tt
none_past n (p ∷ ps) e =
    let b = either_false (leb n p) (any_past n ps) e in
    (leb-false n p b.0, none_past n ps b.1)

-- from the lowest to the highest
abbrev pub Within : (lo hi : ℕ) → List ℕ → Type 0
Within lo hi = Every (λ p. (lo ≤ p) × (p < hi))

from_on : (lo d p : ℕ) (ps : List ℕ) → rising (p ∷ ps) ≡ true → lo ≤ p → Within lo (past_highest d (p ∷ ps)) (p ∷ ps)
unfolding rising past_highest
from_on lo d p [] e h = ((h, omega arith), tt)
from_on lo d p (r ∷ ps) e h =
    let b = both_true (ltb p r) (rising (r ∷ ps)) e in
    let l : p < r = ltb-true p r b.0 in
    let rest = from_on lo (p + 1) r ps b.1 (omega arith) in
    ((h, omega (arith, rest.0.1)), rest)

pub within : (n : ℕ) (ps : List ℕ) → rising ps ≡ true → Within (lowest n ps) (past_highest n ps) ps
unfolding lowest
within n [] e = tt
within n (p ∷ ps) e = from_on p n p ps e (omega arith)

pub lowest-held : (n : ℕ) (ps : List ℕ) → Below n ps → lowest n ps ≤ n
unfolding lowest
lowest-held n [] h = omega arith
lowest-held n (p ∷ ps) h = omega (arith, h.0)

pub highest_held : (n d : ℕ) (ps : List ℕ) → d ≤ n → Below n ps → past_highest d ps ≤ n
unfolding past_highest
highest_held n d [] l h = l
highest_held n d (p ∷ ps) l h = highest_held n (p + 1) ps (omega (arith, h.0)) h.1

-- the sheet is as it was but from one place to another
pub record Kept (lo hi : ℕ) (sheet' sheet : List ℕ) : Type 0 where
  pub size : length sheet' ≡ length sheet
  pub before : take (record_bytes * lo) sheet' ≡ take (record_bytes * lo) sheet
  pub behind : drop (record_bytes * hi) sheet' ≡ drop (record_bytes * hi) sheet

-- the next of the new records, and those after it
pub first_sized : (p : ℕ) (ps x : List ℕ) → length x ≡ record_bytes * length (p ∷ ps)
    → (length (take record_bytes x) ≡ record_bytes) × (length (drop record_bytes x) ≡ record_bytes * length ps)
first_sized p ps x e = (length-take-le record_bytes x (omega arith), omega (arith, length-drop record_bytes x))

pub kept : (lo hi : ℕ) (ps x sheet : List ℕ) → Within lo hi ps → record_bytes * hi ≤ length sheet → length x ≡ record_bytes * length ps
    → Kept lo hi (written_at ps x sheet) sheet
unfolding written_at
kept lo hi [] x sheet h l e = record { size = refl; before = refl; behind = refl }
kept lo hi (p ∷ ps) x sheet h l e =
    let i : ℕ = record_bytes * p in
    let y : List ℕ = take record_bytes x in
    let f = first_sized p ps x e in
    let b : (lo ≤ p) × (p < hi) = h.0 in
    let s : length (overwrite_at i y sheet) ≡ length sheet = length-overwrite_at i y sheet (omega (arith, f.0)) in
    let k = kept lo hi ps (drop record_bytes x) (overwrite_at i y sheet) h.1 (omega arith) f.1 in
    record {
      size = k.size ∙ s;
      before = k.before ∙ take-overwrite_at i (record_bytes * lo) y sheet (omega arith) (omega arith);
      behind = k.behind ∙ drop-overwrite_at i (record_bytes * hi) y sheet (omega (arith, f.0)) (omega arith);
    }

-- the changes in turn are what the sheet then holds
pub listed_in_turn : (n : ℕ) (ps x sheet : List ℕ) (rs : List (List ℕ)) → Below n ps → length x ≡ record_bytes * length ps
    → record_bytes * n ≤ length sheet → Listed n sheet rs → Listed n (written_at ps x sheet) (in_turn ps x rs)
unfolding written_at in_turn
listed_in_turn n [] x sheet rs h e r l = l
listed_in_turn n (p ∷ ps) x sheet rs h e r l =
    let y : List ℕ = take record_bytes x in
    let f = first_sized p ps x e in
    let s : length (overwrite_at (record_bytes * p) y sheet) ≡ length sheet = length-overwrite_at (record_bytes * p) y sheet (omega (arith, f.0, h.0)) in
    listed_in_turn n ps (drop record_bytes x) (overwrite_at (record_bytes * p) y sheet) _ h.1 f.1 (omega arith)
    (listed-set n p y sheet rs f.0 h.0 r l)

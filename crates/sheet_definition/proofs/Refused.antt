-- What each refusal leaves where its condition fails: one law for each, and the room that every sheet call has then.
-- Assumes nothing.
use mathlib.Core.Path.{◌≡◌}
use mathlib.Core.Bool.{true, false, not}
use mathlib.Core.List.{List, [], ◌++◌}
use Prim.Native.Nat.{ℕ, ◌+◌, ◌*◌, ◌<◌, ◌≤◌}
use native.Mathlib.Omega.{arith}
use lib.Dec.{ltb, eqb}
use lib.ListN.{length}
use borrow.Author.Tests.{ltb-false, leb-false, eqb-true, eqb-false, not-false}
use Rattle.definition.specs.Luffa.{bytes_at}
use Rattle.definition.specs.Refusal.{Refusal, WIDTH, OUT, SHEET, MARKS, pick, first_of, numbers_of, condition_of, known, rising, width_refusal, out_refusal}
use Rattle.sheet_definition.specs.Sheet.{World, most, record_bytes, mark_words, q}
use Rattle.sheet_definition.specs.declared.Lengths.{Lengths}
use Rattle.sheet_definition.specs.Refusals.{lengths_of, sheet_refusal, marks_refusal, place_refusal, full_refusal, size_refusal, claim_refusal, places_refusal, set_refusal, list_refusal, build_refusals, change_refusals, append_refusals, drop_refusals, batch_refusals, close_up_refusals, most_changes}
use Rattle.sheet_definition.specs.SheetCalls.{refusals_of}
use Rattle.definition.proofs.Conditions.{either_false}
use Rattle.definition.proofs.Refusals.{Numbered, fails}

pub code-known : (code : ℕ) → (width_refusal code).1 ≡ false → known code ≡ true
unfolding width_refusal
code-known code e = not-false (known code) e

pub out_fits : (bytes out : ℕ) → (out_refusal bytes out).1 ≡ false → bytes ≤ out
unfolding out_refusal
out_fits bytes out e = ltb-false out bytes e

pub records_fit : (n sheet : ℕ) → (sheet_refusal n sheet).1 ≡ false → (n ≤ most) × (record_bytes * n ≤ sheet)
unfolding sheet_refusal
records_fit n sheet e =
    let b = either_false (ltb most n) (ltb sheet (record_bytes * n)) e in
    (ltb-false most n b.0, ltb-false sheet (record_bytes * n) b.1)

pub marks_fit : (n marks : ℕ) → (marks_refusal n marks).1 ≡ false → mark_words * (q n + 1) ≤ marks
unfolding marks_refusal
marks_fit n marks e = ltb-false marks (mark_words * (q n + 1)) e

pub place-held : (n place : ℕ) → (place_refusal n place).1 ≡ false → place < n
unfolding place_refusal
place-held n place e = leb-false n place e

pub set_rises : (places : List ℕ) → (set_refusal places).1 ≡ false → (length places ≤ most_changes) × (rising places ≡ true)
unfolding set_refusal
set_rises places e =
    let b = either_false (ltb most_changes (length places)) (not (rising places)) e in
    (ltb-false most_changes (length places) b.0, not-false (rising places) b.1)

pub list_fits : (n places : ℕ) → (list_refusal n places).1 ≡ false → n ≤ places
unfolding list_refusal
list_fits n places e = ltb-false places n e

pub one_more : (n sheet marks : ℕ) → (full_refusal n sheet marks).1 ≡ false
    → (n ≡ most → ⊥) × (record_bytes * (n + 1) ≤ sheet) × (mark_words * (q (n + 1) + 1) ≤ marks)
unfolding full_refusal
one_more n sheet marks e =
    let t = either_false _ (ltb marks (mark_words * (q (n + 1) + 1))) e in
    let u = either_false (eqb n most) (ltb sheet (record_bytes * (n + 1))) t.0 in
    (eqb-false n most u.0, ltb-false sheet (record_bytes * (n + 1)) u.1, ltb-false marks (mark_words * (q (n + 1) + 1)) t.1)

pub records-sized : (k x : ℕ) → (size_refusal k x).1 ≡ false → x ≡ record_bytes * k
unfolding size_refusal
records-sized k x e = eqb-true x (record_bytes * k) (not-false (eqb x (record_bytes * k)) e)

pub claim-sized : (bytes claim : ℕ) → (claim_refusal bytes claim).1 ≡ false → claim ≡ bytes
unfolding claim_refusal
claim-sized bytes claim e = eqb-true claim bytes (not-false (eqb claim bytes) e)

-- what the four refusals that each sheet call begins with leave
pub record Fits (w : World) (out : List ℕ) : Type 0 where
  pub known-code : known w.code ≡ true
  pub out-room : bytes_at w.code ≤ length out
  pub count : w.n ≤ most
  pub sheet-room : record_bytes * w.n ≤ length w.sheet
  pub marks-room : mark_words * (q w.n + 1) ≤ length w.marks

pub fits : (w : World) (out : List ℕ) (rs : List Refusal) → Numbered (build_refusals (lengths_of w out) ++ rs)
    → first_of (build_refusals (lengths_of w out) ++ rs) ≡ 0 → Fits w out
unfolding build_refusals condition_of pick width_refusal out_refusal sheet_refusal marks_refusal
fits w out rs h e =
    let none = fails (build_refusals (lengths_of w out) ++ rs) h e in
    let b = records_fit w.n (length w.sheet) (none SHEET) in
    record {
      known-code = code-known w.code (none WIDTH);
      out-room = out_fits (bytes_at w.code) (length out) (none OUT);
      count = b.0;
      sheet-room = b.1;
      marks-room = marks_fit w.n (length w.marks) (none MARKS);
    }

-- and so where a build's are all that there are
pub built_numbered : (l : Lengths) → Numbered (build_refusals l)
unfolding build_refusals width_refusal out_refusal sheet_refusal marks_refusal
built_numbered l = omega arith

pub built_fits : (w : World) (out : List ℕ) → first_of (build_refusals (lengths_of w out)) ≡ 0 → Fits w out
unfolding build_refusals
built_fits w out e = fits w out [] (built_numbered (lengths_of w out)) e

-- the line `unfolding judging` opens the lists of all calls and what is asked of them
unfoldable pub judging : Unit {0}
unfolding refusals_of change_refusals append_refusals drop_refusals batch_refusals close_up_refusals build_refusals width_refusal out_refusal sheet_refusal marks_refusal place_refusal places_refusal set_refusal list_refusal full_refusal size_refusal claim_refusal numbers_of condition_of pick
judging = tt

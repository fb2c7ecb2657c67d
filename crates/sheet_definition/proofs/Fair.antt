-- A fair edit keeps what it doesn't name and has room for what it leaves; a proper save makes one where its refusals don't hold. One record
-- written at a place is a fair edit.
-- Assumes nothing.
use mathlib.Core.Path.{◌≡◌}
use mathlib.Core.List.{List, ◌++◌, append_assoc}
use Prim.Native.Nat.{ℕ, ◌+◌, ◌-◌, ◌*◌, ◌<◌, ◌≤◌}
use native.Mathlib.Omega.{arith}
use lib.ListN.{length, take, drop, replicate}
use lib.Seq.{length-take-le, take-take, take_at, drop_at}
use Rattle.definition.specs.Buffer.{Every, overwrite_at}
use Rattle.definition.specs.Refusal.{first_of}
use Rattle.definition.specs.Luffa.{bytes_at}
use Rattle.sheet_definition.specs.Sheet.{World, most, record_bytes, group_bytes, mark_words, q}
use Rattle.sheet_definition.specs.Marks.{mark_at}
use Rattle.sheet_definition.specs.Save.{Edit, Save}
use Rattle.sheet_definition.specs.SheetCalls.{one_record}
use Rattle.sheet_definition.specs.Said.{Stale}
use Rattle.definition.proofs.Buffer.{length-overwrite_at, take-overwrite_at, drop-overwrite_at}
use Rattle.definition.proofs.Refusals.{Numbered}
use Rattle.sheet_definition.proofs.Writes.{Rewritten}
use Rattle.sheet_definition.proofs.Refused.{Fits}

pub record Fair (w : World) (e : Edit) : Type 0 where
  pub sheet-size : length e.sheet ≡ length w.sheet
  pub before : take (record_bytes * e.first) e.sheet ≡ take (record_bytes * e.first) w.sheet
  pub behind : drop (record_bytes * e.past) e.sheet ≡ drop (record_bytes * e.past) w.sheet
  pub first_held : e.first ≤ w.n
  pub first_left : e.first ≤ e.count
  pub past-held : e.past ≤ w.n + (e.count - w.n)
  pub few : e.count ≤ most
  pub new_sheet_room : record_bytes * e.count ≤ length w.sheet
  pub new_marks_room : mark_words * (q e.count + 1) ≤ length w.marks
  pub marks : Rewritten w.n (q e.first) e.marks w.marks
  pub bytes-freed : (k : ℕ) → e.count ≤ k → k < w.n → take record_bytes (drop (record_bytes * k) e.sheet) ≡ replicate record_bytes 0
  pub words-freed : (m : ℕ) → q e.count < m → m ≤ q w.n → mark_at e.marks m ≡ replicate mark_words 0

-- the numbers before a stale claim's are others, and not 0; where none of them is given there is room, the claim has the digest's length, and the
-- edit is fair
pub record Proper (w : World) (s : Save) : Type 0 where
  pub numbered : Numbered s.refusals
  pub earlier : Every (λ x. Stale x.0 → ⊥) s.refusals
  pub answered : Stale s.stale_number
  pub room : first_of s.refusals ≡ 0 → Fits w s.out
  pub claim-size : first_of s.refusals ≡ 0 → length s.claim ≡ bytes_at w.code
  pub fair : first_of s.refusals ≡ 0 → Fair w s.edit

-- what was written at a place stands there
pub read-written : (i n : ℕ) (p l : List ℕ) → length p ≡ n → i ≤ length l → take n (drop i (overwrite_at i p l)) ≡ p
unfolding overwrite_at
read-written i n p l e h =
    rw (append_assoc (take i l) p (drop (i + length p) l), drop_at (take i l) (p ++ drop (i + length p) l) i (length-take-le i l h))
    (take_at p (drop (i + length p) l) n e)

-- one record written at a place, from which the marks up to its group are as they were
pub one_fair : (w : World) (place : ℕ) (x : List ℕ) (count : ℕ) (marks : List ℕ) → length x ≡ record_bytes
    → place ≤ w.n → place ≤ count → place + 1 ≤ w.n + (count - w.n) → record_bytes * (place + 1) ≤ length w.sheet
    → count ≤ most → record_bytes * count ≤ length w.sheet → mark_words * (q count + 1) ≤ length w.marks
    → Rewritten w.n (q place) marks w.marks
    → ((k : ℕ) → count ≤ k → k < w.n → take record_bytes (drop (record_bytes * k) (overwrite_at (record_bytes * place) x w.sheet)) ≡ replicate record_bytes 0)
    → ((m : ℕ) → q count < m → m ≤ q w.n → mark_at marks m ≡ replicate mark_words 0)
    → Fair w (one_record w place x count marks)
unfolding one_record
one_fair w place x count marks e a b c d f g h r s t =
    let i : ℕ = record_bytes * place in
    record {
      sheet-size = length-overwrite_at i x w.sheet (omega arith);
      before = take-overwrite_at i i x w.sheet (omega arith) (omega arith);
      behind = drop-overwrite_at i (record_bytes * (place + 1)) x w.sheet (omega arith) (omega arith);
      first_held = a;
      first_left = b;
      past-held = c;
      few = f;
      new_sheet_room = g;
      new_marks_room = h;
      marks = r;
      bytes-freed = s;
      words-freed = t;
    }

-- the groups before that of an edit's first record are as they were
pub groups_stay : (w : World) (e : Edit) → Fair w e → take (group_bytes * q e.first) e.sheet ≡ take (group_bytes * q e.first) w.sheet
unfolding q
groups_stay w e f =
    rw (
      ← take-take (group_bytes * q e.first) (record_bytes * e.first) e.sheet (omega arith),
      f.before,
      take-take (group_bytes * q e.first) (record_bytes * e.first) w.sheet (omega arith),
    )

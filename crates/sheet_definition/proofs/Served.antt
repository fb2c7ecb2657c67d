-- The room that closing up frees serves later appends: as many as were struck are all accepted, each with the claim right at its time.
-- Assumes nothing.
use mathlib.Core.Path.{◌≡◌, refl, sym, ap}
use mathlib.Core.Bool.{true, not}
use mathlib.Core.List.{List, [], ◌∷◌, ◌++◌, append_assoc, append-nil}
use Prim.Native.Nat.{ℕ, suc, ◌+◌, ◌*◌, ◌/◌, ◌≤◌}
use native.Mathlib.Omega.{arith}
use borrow.Author.Tests.{le-ltb, eq-eqb, ne_eqb}
use lib.ListN.{length}
use Rattle.definition.specs.Luffa.{bytes_at}
use Rattle.definition.specs.Refusal.{first_of, known}
use Rattle.sheet_definition.specs.Sheet.{World, most, record_bytes, mark_words, q}
use Rattle.sheet_definition.specs.Struck.{standing}
use Rattle.sheet_definition.specs.Save.{done_with, checked, stale_claim}
use Rattle.sheet_definition.specs.SheetCalls.{Call, one_record, edit_of, save_of, call, closing_up}
use Rattle.sheet_definition.specs.SheetCalls.Kind.{Append}
use Rattle.sheet_definition.specs.Run.{left, next, run, list_after, applied}
use Rattle.sheet_definition.specs.Turns.{appends_of, rightly, one_by_one, AllDone}
use Rattle.sheet_definition.specs.Said.{Forty, Stands}
use Rattle.sheet_definition.proofs.Writes.{same_refl, length-digest}
use Rattle.sheet_definition.proofs.Outcomes.{accepted, done_is}
use Rattle.sheet_definition.proofs.Refused.{judging}
use Rattle.sheet_definition.proofs.Saves.{save-stays}
use Rattle.sheet_definition.proofs.Edits.{proper}
use Rattle.sheet_definition.proofs.Demand3.{stands-next}
use Rattle.sheet_definition.proofs.Claims.{accepted_is}

-- room for so many records more, and for a digest
record Roomy (w : World) (k : ℕ) (out : List ℕ) : Type 0 where
  known-code : known w.code ≡ true
  out-room : bytes_at w.code ≤ length out
  few : w.n + k ≤ most
  sheet-room : record_bytes * (w.n + k) ≤ length w.sheet
  marks-room : mark_words * (q (w.n + k) + 1) ≤ length w.marks

-- the first of these records appended with the claim right at its time
module _ (w : World) (rs : List (List ℕ)) (s : Stands w rs) (k : ℕ) (x out : List ℕ) (r : Roomy w (suc k) out) (e : length x ≡ record_bytes) where
  abbrev c : Call
  c = rightly w (Append x) out

  valid : first_of (save_of w c).refusals ≡ 0
  unfolding save_of judging first_of rightly q
  valid =
      let d : List ℕ = (checked w).digest in
      let m : length d ≡ bytes_at w.code = unfold checked in length-digest w.code w.n (q w.n) w.sheet w.marks in
      rw (
        r.known-code,
        le-ltb (length out) (bytes_at w.code) r.out-room,
        le-ltb most w.n (omega (arith, r.few)),
        le-ltb (length w.sheet) (record_bytes * w.n) (omega (arith, r.sheet-room)),
        le-ltb (length w.marks) (mark_words * (w.n / 4 + 1)) (omega (arith, r.marks-room)),
        ne_eqb w.n most (omega (arith, r.few)),
        le-ltb (length w.sheet) (record_bytes * (w.n + 1)) (omega (arith, r.sheet-room)),
        le-ltb (length w.marks) (mark_words * ((w.n + 1) / 4 + 1)) (omega (arith, r.marks-room)),
        eq-eqb (length x) record_bytes e,
        eq-eqb (length d) (bytes_at w.code) m,
      )

  done : call w c ≡ accepted w (save_of w c)
  unfolding call rightly save_of stale_claim
  done = sym (done_is w (save_of w c) (sym valid) refl (ap not (same_refl (checked w).digest)))

  accepted-number : (call w c).answer.number ≡ 0
  unfolding done_with
  accepted-number = rw done

  one_stands : Stands (next w c) (rs ++ x ∷ [])
  unfolding applied list_after rightly
  one_stands = rw accepted-number at (stands-next w c rs s)

  -- and there is room for the others
  one_more : (call w c).answer.count ≡ w.n + 1
  unfolding done_with save_of edit_of one_record rightly
  one_more = rw done

  rest-room : Roomy (next w c) k out
  unfolding next left call q
  rest-room =
      let v = save-stays w (save_of w c) (proper w c) in
      record {
        known-code = r.known-code;
        out-room = r.out-room;
        few = omega (arith, one_more, r.few);
        sheet-room = omega (arith, one_more, v.sheet-size, r.sheet-room);
        marks-room = omega (arith, one_more, v.marks-size, r.marks-room);
      }

-- so all are accepted, and stand behind those that were there
serves : (w : World) (rs xs : List (List ℕ)) (out : List ℕ) → Stands w rs → Forty xs → Roomy w (length xs) out
    → AllDone w (one_by_one w (appends_of xs) out) × Stands (run w (one_by_one w (appends_of xs) out)) (rs ++ xs)
unfolding appends_of one_by_one AllDone run
serves w rs [] out s f r = (tt, rw (append-nil rs) s)
serves w rs (x ∷ xs) out s f r =
    let i = serves (next w (rightly w (Append x) out)) (rs ++ x ∷ []) xs out (one_stands w rs s (length xs) x out r f.0) f.1 (rest-room w rs s (length xs) x out r f.0) in
    ((accepted-number w rs s (length xs) x out r f.0, i.0), rw (append_assoc rs (x ∷ []) xs) at i.1)

-- "Freed room serves later appends."
pub freed_serves : (w : World) (rs : List (List ℕ)) → Stands w rs → (places claim out : List ℕ) → (call w (closing_up places claim out)).answer.number ≡ 0
    → (xs : List (List ℕ)) → Forty xs → length (standing rs) + length xs ≤ length rs → (out' : List ℕ) → bytes_at w.code ≤ length out'
    → let v = next w (closing_up places claim out) in
    AllDone v (one_by_one v (appends_of xs) out') × Stands (run v (one_by_one v (appends_of xs) out')) (standing rs ++ xs)
unfolding next left call applied list_after q
freed_serves w rs s places claim out e xs f l out' o =
    let c : Call = closing_up places claim out in
    let t : Stands (next w c) (standing rs) = rw e at (stands-next w c rs s) in
    let v = save-stays w (save_of w c) (proper w c) in
    serves (next w c) (standing rs) xs out' t f
    (record {
      known-code = ((proper w c).room (accepted_is w c e).0).known-code;
      out-room = o;
      few = omega (arith, t.counted, s.counted, s.count);
      sheet-room = omega (arith, t.counted, s.counted, v.sheet-size, s.sheet-room);
      marks-room = omega (arith, t.counted, s.counted, v.marks-size, s.marks-room);
    })

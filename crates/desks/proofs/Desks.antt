-- Two desks whose saves change different wells leave the same sheet, marks, final digest and round total in either order, each with the claim right
-- at its time; and what two planners see of it.
-- Assumes nothing.
use mathlib.Core.Path.{◌≡◌, refl, sym, ap, ◌∙◌}
use mathlib.Core.Bool.{not}
use mathlib.Core.List.{List}
use Prim.Native.Nat.{ℕ, ◌+◌, ◌*◌, ◌≤◌}
use native.Mathlib.Nat.{le_refl}
use native.Mathlib.Omega.{arith}
use lib.ListN.{length}
use lib.Seq.{take_all}
use Rattle.definition.specs.Luffa.{bytes_at}
use Rattle.definition.specs.Buffer.{overwrite}
use Rattle.definition.specs.Refusal.{pick, first_of}
use Rattle.sheet_definition.specs.Sheet.{World, record_bytes, q, rounds_from, check_rounds}
use Rattle.sheet_definition.specs.Refusals.{lengths_of}
use Rattle.sheet_definition.specs.Marks.{worked}
use Rattle.sheet_definition.specs.Save.{SheetOutcome, done_with, Edit, checked, stale_claim, reworked, rounds_before, save_rounds}
use Rattle.sheet_definition.specs.SheetCalls.{Kind, Call, refusals_of, one_record, written_at, lowest, past_highest, some, many_records, edit_of, save_of, call}
use Rattle.sheet_definition.specs.SheetCalls.Kind.{Change, Append, Drop, Batch, CloseUp}
use Rattle.sheet_definition.specs.Run.{left, next}
use Rattle.sheet_definition.specs.Said.{Stays}
use Rattle.sheet_definition.proofs.Writes.{same_refl, length-digest}
use Rattle.sheet_definition.proofs.Outcomes.{done_exactly}
use Rattle.sheet_definition.proofs.Refused.{Fits}
use Rattle.sheet_definition.proofs.Many.{Below}
use Rattle.sheet_definition.proofs.Fair.{Fair, read-written, groups_stay}
use Rattle.sheet_definition.proofs.Saves.{save-rounds, save-stays}
use Rattle.sheet_definition.proofs.Edits.{change-size, Many, many, fair, before-own, proper}
use Rattle.sheet_definition.proofs.Claims.{accepted_is}
use Rattle.sheet_definition.proofs.Again.{again_digest}
use Rattle.desks.specs.Desks.{handed, claiming, second, both, Changing, places_of, records_of, Apart, EitherOrder}
use Rattle.desks.proofs.Work.{either_first}
use Rattle.desks.proofs.Written.{many_apart}

-- a digest written into a buffer was handed out
pub handed_is : (code : ℕ) (o : SheetOutcome) (d out : List ℕ) → o.out ≡ overwrite d out → length d ≡ bytes_at code → handed code o ≡ d
unfolding handed
handed_is code o d out e n = rw e (read-written 0 (bytes_at code) d out n (omega arith))

-- the digest that an accepted save of any kind has handed out is the one that the check of the sheet left works out, from true marks or false
pub handed_right : (w : World) (c : Call) → (call w c).answer.number ≡ 0 → handed w.code (call w c) ≡ (checked (next w c)).digest
unfolding checked next left done_with reworked
handed_right w c e =
    let a = accepted_is w c e in
    let d : Edit = (save_of w c).edit in
    let f : Fair w d = (proper w c).fair a.0 in
    let s : record_bytes * d.count ≤ length d.sheet = omega (arith, f.new_sheet_room, f.sheet-size) in
    rw a.1
    (handed_is w.code _ _ (save_of w c).out refl (length-digest w.code d.count (q d.first) d.sheet d.marks)
    ∙ sym (again_digest w.code d.count (q d.first) (q d.count) d.sheet d.sheet d.marks (unfold q in omega (arith, f.first_left))
    (le_refl (q d.count)) s s (omega (arith, f.new_marks_room, f.marks.size)) refl))

-- a save of changes that may be made, as a set of them
record Changes (w : World) (k : Kind) : Type 0 where
  below : Below w.n (places_of k)
  sizes : length (records_of k) ≡ record_bytes * length (places_of k)
  edit : (v : World) → edit_of v k ≡ many_records v (places_of k) (records_of k)

changes : (w : World) (c : Call) (k : Kind) → Changing k → first_of (refusals_of (lengths_of w c.out) (length c.claim) k) ≡ 0 → Changes w k
unfolding Changing places_of records_of edit_of one_record many_records written_at lowest past_highest some
changes w c (Change place x) h e =
    let n : length x ≡ record_bytes = change-size w c x place e in
    record {
      below = (omega (arith, (fair w c (Change place x) e).past-held), tt);
      sizes = omega arith;
      edit = λ v. rw (take_all record_bytes x (omega arith));
    }
changes w c (Append x) h e = absurd h
changes w c Drop h e = absurd h
changes w c (Batch places x) h e =
    let m : Many w c places x = many w c places x e in
    record { below = m.below; sizes = m.sizes; edit = λ v. refl }
changes w c (CloseUp places) h e = absurd h

-- what is written into a sheet, the mark from which is worked on, and what is left
abbrev pub writes : Kind → List ℕ → List ℕ
writes k sheet = written_at (places_of k) (records_of k) sheet

abbrev pub from : World → Kind → ℕ
from w k = q (lowest w.n (places_of k))

abbrev pub made : World → Kind → (out : List ℕ) → SheetOutcome
made w k out =
    done_with w.n (writes k w.sheet) (worked w.code w.n (writes k w.sheet) w.marks (from w k)) (pick (some (places_of k)) (checked w).rounds 0) out

-- the rounds of a set of changes
abbrev rounds_of : (code n : ℕ) → (places : List ℕ) → ℕ
rounds_of code n places = pick (some places) (check_rounds code n) 0 + rounds_from code n (q (lowest n places))

module _ (w : World) (c : Call) (h : Changing c.kind) (e : (call w c).answer.number ≡ 0) where
  changed : Changes w c.kind
  unfolding save_of
  changed = changes w c c.kind h (before-own w c (accepted_is w c e).0)

  pub is_made : call w c ≡ made w c.kind c.out
  unfolding save_of reworked rounds_before many_records
  is_made = rw ((accepted_is w c e).1, changed.edit w)

  count-stays : (call w c).answer.count ≡ w.n
  unfolding done_with
  count-stays = rw is_made

  rounds_are : (call w c).answer.rounds ≡ rounds_of w.code w.n (places_of c.kind)
  unfolding call save_of save_rounds many_records
  rounds_are = (save-rounds w (save_of w c) (proper w c)).when_done_lem e ∙ rw (changed.edit w)

  is_fair : Fair w (many_records w (places_of c.kind) (records_of c.kind))
  unfolding save_of
  is_fair = rw (changed.edit w) at ((proper w c).fair (accepted_is w c e).0)

-- the second save
module _ (w : World) (a b : Call) (ha : Changing a.kind) (hb : Changing b.kind) (ea : (call w a).answer.number ≡ 0)
    (eb : (call w b).answer.number ≡ 0) where
  -- what is asked of its arguments is asked of numbers and lengths, which the first leaves as they were
  pub still_valid : (claim : List ℕ) → length claim ≡ length b.claim → first_of (save_of (next w a) (claiming claim b)).refusals ≡ 0
  unfolding save_of next left call
  still_valid claim k =
      let s : Stays w (save_of w a).edit a.out (call w a) = save-stays w (save_of w a) (proper w a) in
      rw (count-stays w a ha ea, s.sheet-size, s.marks-size, k) (accepted_is w b eb).0

  pub second-accepted : (both w a b).answer.number ≡ 0
  unfolding call save_of stale_claim
  second-accepted =
      let p = proper (next w a) (second w a b) in
      let n : length (handed w.code (call w a)) ≡ bytes_at w.code = unfold checked next left in (ap length (handed_right w a ea) ∙ length-digest w.code _ _ _ _) in
      (done_exactly (next w a) (save_of (next w a) (second w a b)) p.numbered p.earlier p.answered).1
      (still_valid (handed w.code (call w a)) (n ∙ sym ((proper w b).claim-size (accepted_is w b eb).0)), rw (handed_right w a ea) (ap not (same_refl (checked (next w a)).digest)))

  abbrev pub between : World
  between = left w.code (made w a.kind a.out)

  is_between : next w a ≡ between
  unfolding next
  is_between = ap (left w.code) (is_made w a ha ea)

  pub both_is : both w a b ≡ made between b.kind b.out
  both_is = is_made (next w a) (second w a b) hb second-accepted ∙ ap (λ (v : World). made v b.kind b.out) is_between

  both_fair : Fair between (many_records between (places_of b.kind) (records_of b.kind))
  both_fair = rw is_between at (is_fair (next w a) (second w a b) hb second-accepted)

  both-rounds : (both w a b).answer.rounds ≡ rounds_of w.code w.n (places_of b.kind)
  unfolding left done_with
  both-rounds =
      rounds_are (next w a) (second w a b) hb second-accepted ∙ ap (λ (v : World). rounds_of v.code v.n (places_of b.kind)) is_between

  both-handed : handed w.code (both w a b)
      ≡ (worked w.code between.n (writes b.kind between.sheet) between.marks (from between b.kind)).digest
  unfolding left done_with
  both-handed = handed_is w.code (both w a b) _ b.out (rw both_is) (length-digest w.code w.n (from w b.kind) _ _)

-- "two accepted changes at different places, each with the claim right at its time, .. leave the same sheet, marks, final digest and round total in
-- either order": wherever each alone would be accepted, from true marks or false, one or many changes each, in one group or in several
pub either_order : (w : World) (a b : Call) → (call w a).answer.number ≡ 0 → (call w b).answer.number ≡ 0 → Apart a.kind b.kind → EitherOrder w a b
unfolding left done_with many_records
either_order w a b ea eb p =
    let ha : Changing a.kind = p.changing.0 in
    let hb : Changing b.kind = p.changing.1 in
    let f : Fits w a.out = unfold save_of in (proper w a).room (accepted_is w a ea).0 in
    let xa : Changes w a.kind = changed w a ha ea in
    let xb : Changes w b.kind = changed w b hb eb in
    let fa : Fair w (many_records w (places_of a.kind) (records_of a.kind)) = is_fair w a ha ea in
    let fb : Fair w (many_records w (places_of b.kind) (records_of b.kind)) = is_fair w b hb eb in
    let s : List ℕ = writes a.kind w.sheet in
    let t : List ℕ = writes b.kind w.sheet in
    let e : writes b.kind s ≡ writes a.kind t =
    sym (many_apart w.n (places_of a.kind) (places_of b.kind) (records_of a.kind) (records_of b.kind) w.sheet p.different xa.below xb.below xa.sizes xb.sizes f.sheet-room) in
    let fab = both_fair w a b ha hb ea eb in
    let fba = both_fair w b a hb ha eb ea in
    let o =
    either_first w.code w.n (writes b.kind s) w.marks (omega (arith, f.sheet-room, fab.sheet-size, fa.sheet-size)) f.marks-room
    (from w a.kind) (from w b.kind) s t (unfold q in omega (arith, fa.first_left)) (unfold q in omega (arith, fb.first_left))
    (omega (arith, f.sheet-room, fa.sheet-size)) (omega (arith, f.sheet-room, fb.sheet-size))
    (groups_stay _ _ fab) (rw e (groups_stay _ _ fba)) in
    let ab = both_is w a b ha hb ea eb in
    let ba = both_is w b a hb ha eb ea in
    record {
      accepted = (second-accepted w a b ha hb ea eb, second-accepted w b a hb ha eb ea);
      same_count = rw (ab, ba);
      same_sheet = rw (ab, ba) e;
      same_marks = rw (ab, ba, ← e) o.0;
      same_digest = rw (both-handed w a b ha hb ea eb, both-handed w b a hb ha eb ea, ← e) o.1;
      same_rounds = omega (arith, rounds_are w a ha ea, rounds_are w b hb eb, both-rounds w a b ha hb ea eb, both-rounds w b a hb ha eb ea);
    }

-- so every later call is answered alike
pub same_afterwards : (w : World) (a b : Call) → EitherOrder w a b → next (next w a) (second w a b) ≡ next (next w b) (second w b a)
unfolding next left
same_afterwards w a b o = rw (o.same_count, o.same_sheet, o.same_marks)

-- Saves may begin at a build or at a mend, one theorem over both; and a mend between them, or after them, finds none wrong.
-- Assumes nothing.
use mathlib.Core.Path.{◌≡◌, refl, sym, ap, ap₂, ◌∙◌}
use mathlib.Core.Bool.{false, not}
use mathlib.Core.List.{List, []}
use Prim.Native.Nat.{ℕ, zero, suc, ◌+◌, ◌*◌, ◌≤◌}
use native.Mathlib.Omega.{arith}
use borrow.Author.Tests.{le-ltb}
use lib.ListN.{length}
use Rattle.definition.specs.Refusal.{DONE, pick, first_of, width_refusal}
use Rattle.sheet_definition.specs.Sheet.{World, most, record_bytes, mark_words, q, cut}
use Rattle.sheet_definition.specs.Marks.{held, mark_of, state_after}
use Rattle.sheet_definition.specs.Refusals.{sheet_refusal, marks_refusal}
use Rattle.sheet_definition.specs.SheetCalls.{Call}
use Rattle.sheet_definition.specs.Run.{left, run, records}
use Rattle.sheet_definition.specs.Said.{Stands, Laid, After}
use Rattle.sheet_definition.proofs.Writes.{same_refl}
use Rattle.sheet_definition.proofs.Saves.{built_true}
use Rattle.sheet_definition.proofs.Build.{build-stays, build_laid}
use Rattle.sheet_definition.proofs.Demand3.{laid_run, demand3_laid}
use Rattle.mend_definition.specs.Mend.{true_mark, is_wrong, replaced, wrong_of, saying, mend_rounds, mend_refusals, mend}
use Rattle.mend_definition.specs.Said.{Opening, opening_number, opened}
use Rattle.mend_definition.specs.Said.Opening.{Build, Mend}
use Rattle.mend_definition.proofs.Outcomes.{mend_done, mend-stays, mend_laid}

-- the sheet and its count are as they were
opened_same : (w : World) (o : Opening) → ((opened w o).n ≡ w.n) × ((opened w o).sheet ≡ w.sheet)
unfolding opened left
opened_same w (Build out) = let s = build-stays w.code w.sheet w.n w.marks out in (s.count_same, s.sheet_same)
opened_same w Mend = (refl, (mend-stays w).sheet_same)

-- an accepted build lays the marks, and so does an accepted mend
pub opened_laid : (w : World) (o : Opening) → opening_number w o ≡ 0 → Laid (opened w o)
unfolding opening_number opened
opened_laid w (Build out) e = build_laid w.code w.sheet w.n w.marks out e
opened_laid w Mend e = unfold opened in mend_laid w e

-- Demand 3: from built or mended marks, in any run of saves, each call does what After says, with the sheet's own records
pub demand3_opened : (w : World) (o : Opening) → opening_number w o ≡ 0 → (cs : List Call) (c : Call)
    → After (run (opened w o) cs) c (records (opened w o) (cut w.n w.sheet) cs)
demand3_opened w o e cs c =
    let s = opened_same w o in
    let d : cut (opened w o).n (opened w o).sheet ≡ cut w.n w.sheet = ap₂ cut s.0 s.1 in
    rw d at (demand3_laid (opened w o) (opened_laid w o e) cs c)

-- marks that are laid: none is wrong, so none is replaced
module _ (w : World) (l : Laid w) where
  right : (m : ℕ) → m ≤ q w.n → is_wrong w m ≡ false
  unfolding is_wrong true_mark
  right m h = rw (l.written m (omega arith) h) (ap not (same_refl (mark_of (state_after w.code w.sheet m))))

  nothing-wrong : (k : ℕ) → k ≤ q w.n + 1 → (wrong_of w k ≡ []) × (replaced w k ≡ w.marks)
  unfolding wrong_of replaced pick
  nothing-wrong zero h = (refl, refl)
  nothing-wrong (suc k) h =
      let n = nothing-wrong k (omega arith) in
      rw (right k (omega arith)) (rw n.0, n.1)

  accepted : first_of (mend_refusals w) ≡ 0
  unfolding mend_refusals first_of pick width_refusal sheet_refusal marks_refusal
  accepted =
      rw (
        l.known-code,
        le-ltb most w.n l.count,
        le-ltb (length w.sheet) (record_bytes * w.n) l.sheet-room,
        le-ltb (length w.marks) (mark_words * (q w.n + 1)) l.marks-room,
      )

  -- so a mend is accepted, finds none wrong and alters nothing
  pub finds_none : mend w ≡ record { answer = saying DONE [] (mend_rounds w.n); sheet = w.sheet; marks = w.marks }
  finds_none = let n = nothing-wrong (q w.n + 1) (omega arith) in sym (mend_done w refl accepted) ∙ rw (n.0, n.1)

  -- and where saves go on after it they go on from the same world
  pub same_world : opened w Mend ≡ w
  unfolding opened
  same_world = rw finds_none

-- after a build or a mend and any run of saves
pub none_after_run : (w : World) (o : Opening) → opening_number w o ≡ 0 → (cs : List Call) → let v = run (opened w o) cs in
    mend v ≡ record { answer = saying DONE [] (mend_rounds v.n); sheet = v.sheet; marks = v.marks }
none_after_run w o e cs = finds_none (run (opened w o) cs) (laid_run (opened w o) (opened_laid w o e) cs)

-- from true marks that aren't laid, since a word is set in an unused block, a mend leaves a world that stands for the same list
pub stands-mended : (w : World) (rs : List (List ℕ)) → Stands w rs → (mend w).answer.number ≡ 0 → Stands (opened w Mend) rs
unfolding opened
stands-mended w rs s e =
    let l = mend_laid w e in
    record {
      sized = s.sized;
      counted = s.counted;
      holds = ap (held w.n) (mend-stays w).sheet_same ∙ s.holds;
      marks_true = built_true (opened w Mend) l.written;
      count = l.count;
      sheet-room = l.sheet-room;
      marks-room = l.marks-room;
    }

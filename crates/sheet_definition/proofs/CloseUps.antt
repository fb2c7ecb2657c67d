-- What closing up leaves and answers, from true marks or false: the records that stand, its rounds, nothing where none is struck, and so nothing the
-- second time.
-- Assumes nothing.
use mathlib.Core.Path.{◌≡◌, refl, ap, ◌∙◌}
use mathlib.Core.List.{List}
use Prim.Native.Nat.{ℕ, zero, suc, ◌+◌, ◌-◌, ◌*◌, ◌≤◌}
use native.Mathlib.Nat.{zero-add}
use native.Mathlib.Omega.{arith}
use borrow.Author.Tests.{not-false}
use lib.ListN.{length, take, drop}
use lib.Seq.{take_at, drop_at}
use Rattle.definition.specs.Buffer.{overwrite_at, overwrite, joined}
use Rattle.definition.specs.Refusal.{pick, when_done}
use Rattle.definition.proofs.Buffer.{overwrite_at-none}
use Rattle.sheet_definition.specs.Sheet.{World, record_bytes, mark_words, cut, q, rounds_from, check_rounds}
use Rattle.sheet_definition.specs.Struck.{standing, old_places, first_struck}
use Rattle.sheet_definition.specs.Save.{refused_with, done_with, checked, stale_claim, reworked, save_rounds}
use Rattle.sheet_definition.specs.SheetCalls.{Call, past_last, closed_up, edit_of, save_of, call, CloseUpOutcome, closing_up, close_up_outcome}
use Rattle.sheet_definition.specs.Run.{left, next}
use Rattle.sheet_definition.specs.Said.{Stand, NoneStruck}
use Rattle.sheet_definition.proofs.Writes.{put_back, check_leaves, same_eq}
use Rattle.sheet_definition.proofs.Sheet.{check_from_last_mark}
use Rattle.sheet_definition.proofs.Joined.{length_cut, joined-cut}
use Rattle.sheet_definition.proofs.Struck.{all_stand, none_goes, same_places, one_each}
use Rattle.sheet_definition.proofs.Closed.{cut_is, left_listed}
use Rattle.sheet_definition.proofs.Outcomes.{by_answer, done_exactly}
use Rattle.sheet_definition.proofs.Saves.{save-rounds}
use Rattle.sheet_definition.proofs.Edits.{proper}
use Rattle.sheet_definition.proofs.Claims.{accepted_is}

-- "the check, then on from the group of the first struck place, or from the last mark if none"
pub close_up_rounds : (w : World) (places claim out : List ℕ) → (call w (closing_up places claim out)).answer.number ≡ 0
    → let rs = cut w.n w.sheet in
    (call w (closing_up places claim out)).answer.rounds
    ≡ check_rounds w.code w.n + rounds_from w.code (length (standing rs)) (q (first_struck rs))
unfolding call save_rounds save_of edit_of closed_up pick
close_up_rounds w places claim out e = let c = closing_up places claim out in (save-rounds w (save_of w c) (proper w c)).when_done_lem e

-- the records that are left are those that stand
pub closed_records : (w : World) (places claim out : List ℕ) → (call w (closing_up places claim out)).answer.number ≡ 0
    → let v = next w (closing_up places claim out) in cut v.n v.sheet ≡ standing (cut w.n w.sheet)
unfolding next left done_with save_of edit_of closed_up
closed_records w places claim out e =
    let a = accepted_is w (closing_up places claim out) e in
    let f = (proper w (closing_up places claim out)).room a.0 in
    rw a.1 (cut_is _ _ _ (left_listed w.n w.sheet f.sheet-room))

-- done, the list has the old places of the records that are left, and behind them it is as it was; refused, all of it is
module _ (w : World) (claim places out : List ℕ) where
  abbrev outcome : CloseUpOutcome
  outcome = close_up_outcome w.code w.sheet w.n w.marks claim places out

  abbrev listed : List ℕ
  listed = old_places 0 (cut w.n w.sheet)

  as_many : outcome.answer.number ≡ 0 → length listed ≡ outcome.answer.count
  unfolding close_up_outcome done_with save_of edit_of closed_up
  as_many e = one_each 0 (cut w.n w.sheet) ∙ rw (accepted_is w (closing_up places claim out) e).1

  pub list_written : outcome.answer.number ≡ 0
      → (take outcome.answer.count outcome.places ≡ listed) × (drop outcome.answer.count outcome.places ≡ drop outcome.answer.count places)
  unfolding close_up_outcome when_done overwrite_at
  list_written e =
      let n = as_many e in
      rw e (take_at listed _ _ n, drop_at listed _ _ n ∙ rw (zero-add (length listed), n))

  pub list-stays : (outcome.answer.number ≡ 0 → ⊥) → outcome.places ≡ places
  unfolding close_up_outcome
  list-stays h = go (call w (closing_up places claim out)).answer.number h
    where
      go : (k : ℕ) → (k ≡ 0 → ⊥) → when_done k (overwrite listed places) places ≡ places
      go zero h = absurd (h refl)
      go (suc k) h = unfold when_done in refl

-- where none is struck the edit leaves the sheet, and the work the marks
module _ (w : World) (h : Stand (cut w.n w.sheet)) where
  abbrev rs : List (List ℕ)
  rs = cut w.n w.sheet

  all_left : length (standing rs) ≡ w.n
  all_left = ap length (none_goes rs h).0 ∙ length_cut w.n w.sheet

  last_mark : first_struck rs ≡ w.n
  last_mark = (none_goes rs h).1 ∙ length_cut w.n w.sheet

  same_sheet : record_bytes * w.n ≤ length w.sheet → (closed_up w).sheet ≡ w.sheet
  unfolding closed_up
  same_sheet l =
      let z : record_bytes * (w.n - w.n) ≡ 0 = omega arith in
      rw (all_left, z, overwrite_at-none (record_bytes * w.n) (overwrite (joined (standing rs)) w.sheet), (none_goes rs h).0, joined-cut w.n w.sheet)
      (put_back 0 (record_bytes * w.n) w.sheet w.sheet (omega arith) refl refl)

  same_marks : (closed_up w).marks ≡ w.marks
  unfolding closed_up past_last
  same_marks =
      let z : mark_words * (q w.n - q w.n) ≡ 0 = omega arith in
      rw (all_left, z) (overwrite_at-none (mark_words * (q w.n + 1)) w.marks)

  -- so the work is the check again
  works_again : record_bytes * w.n ≤ length w.sheet → reworked w (closed_up w) ≡ checked w
  unfolding reworked checked closed_up
  works_again l = rw (same_sheet l, same_marks, all_left, last_mark)

  check_keeps : (checked w).marks ≡ w.marks
  unfolding checked
  check_keeps = check_leaves w.code w.n w.sheet w.marks

  module _ (places claim out : List ℕ) where
    abbrev c : Call
    c = closing_up places claim out

    stays_so : next w c ≡ w
    unfolding next left call refused_with done_with save_of edit_of closed_up
    stays_so =
        by_answer w (save_of w c) (λ o. left w.code o ≡ w) (λ k e. refl) (λ e t. refl)
        (λ e t. let l = ((proper w c).room e).sheet-room in
        rw (works_again l, same_sheet l, all_left, check_keeps))

    -- the digest that it gives is the one claimed
    gives : (call w c).answer.number ≡ 0 → (call w c).out ≡ overwrite claim out
    unfolding call save_of edit_of done_with stale_claim
    gives e =
        let p = proper w c in
        let d = (done_exactly w (save_of w c) p.numbered p.earlier p.answered).0 e in
        let g : claim ≡ (checked w).digest = same_eq claim (checked w).digest (not-false _ d.1) in
        rw ((accepted_is w c e).1, works_again (p.room d.0).sheet-room, g)

    pub none_struck : NoneStruck w places claim out
    none_struck =
        record {
          list = λ k i. same_places 0 rs h k (omega (arith, length_cut w.n w.sheet)) ∙ zero-add k;
          stays = stays_so;
          digest = gives;
          rounds = λ e. close_up_rounds w places claim out e ∙ rw (all_left, last_mark, ← check_from_last_mark w.code w.n) (omega arith);
        }

-- a second closing up changes nothing
pub closed_twice : (w : World) (places claim out places' claim' out' : List ℕ) → (call w (closing_up places claim out)).answer.number ≡ 0
    → next (next w (closing_up places claim out)) (closing_up places' claim' out') ≡ next w (closing_up places claim out)
closed_twice w places claim out places' claim' out' e =
    let v : World = next w (closing_up places claim out) in
    (none_struck v (rw (closed_records w places claim out e) (all_stand (cut w.n w.sheet))) places' claim' out').stays

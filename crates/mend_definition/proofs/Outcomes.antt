-- What a mend leaves and says, whatever it was handed: its refusals in their order, marks that are laid, what was wrong of those that it found.
-- Assumes nothing.
use mathlib.Core.Path.{◌≡◌, refl, sym, ap, ◌∙◌}
use mathlib.Core.Bool.{true}
use mathlib.Core.List.{List, [], ◌∷◌}
use Prim.Native.Nat.{ℕ, zero, suc, ◌+◌, ◌*◌, ◌≤◌}
use native.Mathlib.Omega.{arith}
use borrow.Author.Tests.{le-ltb}
use lib.ListN.{length}
use Rattle.std.specs.Prelude.{Option, None, Some, unwrap_or}
use Rattle.std.proofs.lemmas.Option.{none-some}
use Rattle.definition.specs.Luffa.{bytes_at}
use Rattle.definition.specs.Refusal.{Judged, WIDTH, SHEET, MARKS, pick, first_of, numbers_of, condition_of, when_done, known, width_refusal, out_refusal}
use Rattle.definition.proofs.Refusals.{Numbered, fails, judged}
use Rattle.definition.proofs.Determined.{Determined, determined}
use Rattle.sheet_definition.specs.Sheet.{World, most, record_bytes, mark_words, q}
use Rattle.sheet_definition.specs.Marks.{mark_at}
use Rattle.sheet_definition.specs.Refusals.{sheet_refusal, marks_refusal, build_refusals}
use Rattle.sheet_definition.specs.SheetCalls.{build_outcome}
use Rattle.sheet_definition.specs.Run.{left}
use Rattle.sheet_definition.specs.Said.{Laid}
use Rattle.sheet_definition.proofs.Refused.{code-known, records_fit, marks_fit}
use Rattle.sheet_definition.proofs.Build.{build-number, build-stays, build_laid}
use Rattle.sheet_definition.proofs.Rebuilt.{marks_same}
use Rattle.mend_definition.specs.Mend.{true_mark, replaced, wrong_of, first_in, saying, mend_rounds, mend_refusals, MendOutcome, mended, refused_by, mend, mend_outcome, mend_answer}
use Rattle.mend_definition.specs.Said.{Says, MendStays, MendRefused, opened}
use Rattle.mend_definition.specs.Said.Opening.{Mend}
use Rattle.mend_definition.proofs.Replaced.{Replaced, all_behind, replaced_so}
use Rattle.mend_definition.proofs.Found.{none_differing, wrong-counted, first_lowest, none_differs, none_first}

pub mend_determined : (code : ℕ) (sheet : List ℕ) (n : ℕ) (marks : List ℕ) → Determined (mend_outcome code sheet n marks)
mend_determined code sheet n marks = determined (mend_outcome code sheet n marks)

-- what the refusals leave where none is given
pub record Room (w : World) : Type 0 where
  pub known-code : known w.code ≡ true
  pub count : w.n ≤ most
  pub sheet-room : record_bytes * w.n ≤ length w.sheet
  pub marks-room : mark_words * (q w.n + 1) ≤ length w.marks

module _ (w : World) where
  numbered : Numbered (mend_refusals w)
  unfolding mend_refusals width_refusal sheet_refusal marks_refusal
  numbered = omega arith

  pub room : first_of (mend_refusals w) ≡ 0 → Room w
  unfolding mend_refusals condition_of pick width_refusal sheet_refusal marks_refusal
  room e =
      let none = fails (mend_refusals w) numbered e in
      let b = records_fit w.n (length w.sheet) (none SHEET) in
      record {
        known-code = code-known w.code (none WIDTH);
        count = b.0;
        sheet-room = b.1;
        marks-room = marks_fit w.n (length w.marks) (none MARKS);
      }

  -- refused or done, by the number of the first refusal
  pub mend-refused : {k : ℕ} → k ≡ first_of (mend_refusals w) → (k ≡ 0 → ⊥) → refused_by k w ≡ mend w
  unfolding mend when_done
  mend-refused {k = zero} e h = absurd (h refl)
  mend-refused {k = suc k} e h = rw (← e)

  pub mend_done : {k : ℕ} → k ≡ first_of (mend_refusals w) → k ≡ 0 → mended w ≡ mend w
  unfolding mend when_done
  mend_done e z = rw (sym e ∙ z)

  -- so what holds of both holds of the outcome
  by_mend : (P : MendOutcome → Type 0) → (first_of (mend_refusals w) ≡ 0 → P (mended w))
      → ((k : ℕ) → first_of (mend_refusals w) ≡ suc k → P (refused_by (suc k) w)) → P (mend w)
  by_mend P a b = go (first_of (mend_refusals w)) refl
    where
      go : (k : ℕ) → first_of (mend_refusals w) ≡ k → P (mend w)
      go zero e = rw (← mend_done (sym e) refl) (a e)
      go (suc k) e = rw (← mend-refused (sym e) (λ z. absurd (omega arith))) (b k e)

  pub mend-number : (mend w).answer.number ≡ first_of (mend_refusals w)
  unfolding saying
  mend-number = by_mend (λ o. o.answer.number ≡ first_of (mend_refusals w)) (λ e. sym e) (λ k e. sym e)

  -- each number exactly when it is due, "1, 5, 6"
  pub mend-judged : Judged (mend w).answer.number (mend_refusals w) (WIDTH ∷ SHEET ∷ MARKS ∷ [])
  unfolding mend_refusals numbers_of width_refusal sheet_refusal marks_refusal
  mend-judged = judged (mend_refusals w) numbered mend-number

  -- so it is answered by the number of a build that has room for the digest
  pub number_as_build : (out : List ℕ) → bytes_at w.code ≤ length out
      → (mend w).answer.number ≡ (build_outcome w.code w.sheet w.n w.marks out).answer.number
  unfolding mend_refusals build_refusals first_of pick out_refusal
  number_as_build out h = mend-number ∙ sym (build-number w.code w.sheet w.n w.marks out ∙ rw (le-ltb (length out) (bytes_at w.code) h))

  -- "each saying none"
  pub mend_untouched : ((mend w).answer.number ≡ 0 → ⊥) → MendRefused w (mend w)
  unfolding saying first_in
  mend_untouched = by_mend (λ o. (o.answer.number ≡ 0 → ⊥) → MendRefused w o) (λ e h. absurd (h refl)) (λ k e h. search)

  -- the marks that are left, where there is room
  done_so : first_of (mend_refusals w) ≡ 0 → Replaced w (q w.n + 1) (replaced w (q w.n + 1))
  done_so e = replaced_so w (q w.n + 1) (room e).marks-room

  -- whatever the answer, sheet, lengths and the words past the last mark are as they were
  pub mend-stays : MendStays w (mend w)
  mend-stays = by_mend (MendStays w) done (λ k e. search)
    where
      done : first_of (mend_refusals w) ≡ 0 → MendStays w (mended w)
      done e =
          record {
            sheet_same = refl;
            marks-size = (done_so e).size;
            marks_behind = λ m h. all_behind w _ _ (done_so e) (m + 1) (omega arith);
          }

  -- an accepted mend lays the marks
  pub mend_laid : (mend w).answer.number ≡ 0 → Laid (opened w Mend)
  unfolding opened saying
  mend_laid =
      by_mend (λ o. o.answer.number ≡ 0 → Laid (record { code = w.code; n = w.n; sheet = o.sheet; marks = o.marks }))
      (λ e z. done e) (λ k e z. absurd (omega arith))
    where
      done : first_of (mend_refusals w) ≡ 0 → Laid (record { code = w.code; n = w.n; sheet = w.sheet; marks = replaced w (q w.n + 1) })
      done e =
          let f : Room w = room e in
          record {
            known-code = f.known-code;
            count = f.count;
            sheet-room = f.sheet-room;
            marks-room = omega (arith, f.marks-room, (done_so e).size);
            written = λ m h i. unfold true_mark in (done_so e).true_marks m (omega arith);
          }

  -- in rounds that are "five for each full group"
  pub mend-rounds : (mend w).answer.number ≡ 0 → (mend w).answer.rounds ≡ mend_rounds w.n
  unfolding saying
  mend-rounds = by_mend (λ o. o.answer.number ≡ 0 → o.answer.rounds ≡ mend_rounds w.n) (λ e z. refl) (λ k e z. absurd (omega arith))

  -- whatever the answer, what it says is so of the marks found beside those that it leaves
  pub mend-says : Says w (mend w).marks (mend w).answer
  unfolding saying first_in
  mend-says = by_mend (λ o. Says w o.marks o.answer) done (λ k e. refused k)
    where
      done : first_of (mend_refusals w) ≡ 0 → Says w (replaced w (q w.n + 1)) (mended w).answer
      done e =
          let k : ℕ = q w.n + 1 in
          let r = done_so e in
          let n = none_differs w _ k r.true_marks in
          record {
            wrong = wrong-counted w _ k r.true_marks;
            first = λ m. first_lowest w _ k m r.true_marks;
            none = none_first (wrong_of w k);
            nothing_written = (
              λ z. marks_same k _ w.marks (λ m h. sym (n.0 z m h)) r.behind,
              λ p. n.1 (λ m h. ap (λ (l : List ℕ). mark_at l m) (sym p)),
            );
          }

      refused : (k : ℕ) → Says w w.marks (refused_by (suc k) w).answer
      refused k =
          record {
            wrong = sym (none_differing w.marks (q w.n + 1));
            first = λ m. (λ e. absurd (none-some m e), λ o. absurd (o.differs refl));
            none = (λ e. refl, λ e. refl);
            nothing_written = (λ e. refl, λ e. refl);
          }

  -- in the answer for C, where some were wrong, the first is told by its number
  pub answer_first : ((mend w).answer.wrong ≡ 0 → ⊥) → (mend w).answer.first ≡ Some (mend_answer (mend w).answer).first
  answer_first h = go (mend w).answer.first (λ e. h (mend-says.none.0 e))
    where
      go : (f : Option ℕ) → (f ≡ None → ⊥) → f ≡ Some (unwrap_or f 0)
      go None n = absurd (n refl)
      go (Some m) n = refl

  -- "Afterwards the marks are those that build would leave": of the same sheet in the same words, all of them
  module _ (out : List ℕ) (h : bytes_at w.code ≤ length out) (e : (mend w).answer.number ≡ 0) where
    pub mend_as_build : (mend w).marks ≡ (build_outcome w.code w.sheet w.n w.marks out).marks
    unfolding opened left
    mend_as_build =
        let s = build-stays w.code w.sheet w.n w.marks out in
        let l = build_laid w.code w.sheet w.n w.marks out (sym (number_as_build out h) ∙ e) in
        let b = rw (s.count_same, s.sheet_same) at l.written in
        let a = rw mend-stays.sheet_same at (mend_laid e).written in
        marks_same (q w.n + 1) _ _ (λ m i. a m (omega arith) (omega arith) ∙ sym (b m (omega arith) (omega arith)))
        (mend-stays.marks_behind (q w.n) (omega arith) ∙ sym (s.marks_behind (q w.n) (omega arith)))

    -- and it says how many differ from those, and which is the lowest
    pub says_of_build : Says w (build_outcome w.code w.sheet w.n w.marks out).marks (mend w).answer
    says_of_build = rw mend_as_build at mend-says

-- An accepted build leaves true marks, whatever they were, and hands out Luffa of the sheet, in document 01's rounds.
-- Assumes nothing.
use mathlib.Core.Path.{◌≡◌, refl, sym, ap, ◌∙◌}
use mathlib.Core.List.{List}
use Prim.Native.Nat.{ℕ, zero, suc, ◌+◌, ◌*◌, ◌≤◌}
use native.Mathlib.Nat.{zero-add}
use native.Mathlib.Omega.{arith}
use lib.ListN.{length, drop}
use Rattle.definition.specs.declared.Width.{Width}
use Rattle.definition.specs.Round.{chain}
use Rattle.definition.specs.Padding.{blocks, blocks_to}
use Rattle.definition.specs.Start.{start}
use Rattle.definition.specs.Width.{width_at}
use Rattle.definition.specs.Buffer.{overwrite}
use Rattle.definition.specs.Refusal.{first_of, when_done}
use Rattle.sheet_definition.specs.Sheet.{World, mark_words, q, build_rounds}
use Rattle.sheet_definition.specs.Refusals.{lengths_of, build_refusals}
use Rattle.sheet_definition.specs.Marks.{Worked, mark_at, state_from, mark_of, worked, state_after, TrueMark}
use Rattle.sheet_definition.specs.Save.{SheetOutcome, refused_with, done_with}
use Rattle.sheet_definition.specs.SheetCalls.{build_outcome}
use Rattle.sheet_definition.specs.Run.{left}
use Rattle.sheet_definition.specs.Said.{Written, Laid, Untouched, Rounds}
use Rattle.definition.proofs.Buffer.{length-overwrite_at, drop-overwrite_at}
use Rattle.definition.proofs.Chain.{length-start}
use Rattle.sheet_definition.proofs.Sheet.{build_from_start}
use Rattle.sheet_definition.proofs.Marks.{length-mark, state_of_mark, rounds_from_mark}
use Rattle.sheet_definition.proofs.Writes.{marks-kept, Rewritten, rewritten, length-digest}
use Rattle.sheet_definition.proofs.Outcomes.{stale-answers}
use Rattle.sheet_definition.proofs.Refused.{Fits, built_fits}
use Rattle.sheet_definition.proofs.Fair.{read-written}
use Rattle.sheet_definition.proofs.Saves.{Made, work_over}

module _ (code : ℕ) (sheet : List ℕ) (n : ℕ) (marks out : List ℕ) where
  abbrev found : World
  found = record { code = code; n = n; sheet = sheet; marks = marks }

  -- mark 0 as a build writes it, and the work from it
  abbrev first : List ℕ
  first = mark_of (start (width_at code))

  abbrev with_first : List ℕ
  with_first = overwrite first marks

  abbrev work : Worked
  work = worked code n sheet with_first 0

  abbrev outcome : SheetOutcome
  outcome = build_outcome code sheet n marks out

  with_first-mark : mark_at with_first 0 ≡ first
  unfolding mark_at
  with_first-mark = read-written 0 mark_words first marks (length-mark (start (width_at code))) (omega arith)

  with_first-true : TrueMark code sheet with_first 0
  unfolding TrueMark state_after chain blocks blocks_to
  with_first-true =
      let w : Width = width_at code in
      ap (state_from w) with_first-mark ∙ state_of_mark w (start w) (length-start w)

  length-with_first : Fits found out → length with_first ≡ length marks
  length-with_first f = length-overwrite_at 0 first marks (omega (arith, length-mark (start (width_at code)), f.marks-room))

  -- the number is that of the first refusal, refused or done
  pub build-refused : {k : ℕ} → k ≡ first_of (build_refusals (lengths_of found out)) → (k ≡ 0 → ⊥) → refused_with found out k 0 ≡ outcome
  unfolding build_outcome when_done
  build-refused {k = zero} e h = absurd (h refl)
  build-refused {k = suc k} e h = rw (← e)

  pub build_done : {k : ℕ} → k ≡ first_of (build_refusals (lengths_of found out)) → k ≡ 0 → done_with n sheet work 0 out ≡ outcome
  unfolding build_outcome when_done
  build_done e z = rw (sym e ∙ z)

  -- so what holds of both holds of the outcome; the arguments of an accepted build are valid
  by_build : (P : SheetOutcome → Type 0) → (first_of (build_refusals (lengths_of found out)) ≡ 0 → Fits found out → P (done_with n sheet work 0 out))
      → ((k : ℕ) → first_of (build_refusals (lengths_of found out)) ≡ suc k → P (refused_with found out (suc k) 0)) → P outcome
  unfolding build_refusals
  by_build P a b = go (first_of (build_refusals (lengths_of found out))) refl
    where
      go : (k : ℕ) → first_of (build_refusals (lengths_of found out)) ≡ k → P outcome
      go zero e = rw (← build_done (sym e) refl) (a e (built_fits found out e))
      go (suc k) e = rw (← build-refused (sym e) (λ z. absurd (omega arith))) (b k e)

  pub build-number : outcome.answer.number ≡ first_of (build_refusals (lengths_of found out))
  unfolding refused_with done_with
  build-number = by_build (λ o. o.answer.number ≡ first_of (build_refusals (lengths_of found out))) (λ e f. sym e) (λ k e. sym e)

  pub build_fits : outcome.answer.number ≡ 0 → Fits found out
  unfolding refused_with
  build_fits = by_build (λ o. o.answer.number ≡ 0 → Fits found out) (λ z f e. f) (λ k z e. absurd (omega arith))

  -- a refused build alters nothing
  pub build_untouched : (outcome.answer.number ≡ 0 → ⊥) → Untouched found out outcome
  unfolding refused_with done_with
  build_untouched = by_build (λ o. (o.answer.number ≡ 0 → ⊥) → Untouched found out o) (λ z f h. absurd (h refl)) (λ k z h. search)

  -- whatever the marks were, an accepted build leaves those of the sheet as they are written, and Luffa of the sheet
  pub build_made : outcome.answer.number ≡ 0 → Made code 0 out outcome
  unfolding refused_with done_with left
  build_made = by_build (λ o. o.answer.number ≡ 0 → Made code 0 out o) (λ z f e. made f) (λ k z e. absurd (omega arith))
    where
      zero_true : (k : ℕ) → k ≤ 0 → TrueMark code sheet with_first k
      zero_true zero h = with_first-true
      zero_true (suc k) h = absurd (omega arith)

      first_written : Fits found out → mark_at work.marks 0 ≡ first
      first_written f =
          marks-kept 0 0 work.marks with_first
          (rewritten code n 0 sheet with_first (omega arith) (omega (arith, length-with_first f, f.marks-room))).before (omega arith)
          ∙ with_first-mark

      made : Fits found out → Made code 0 out (done_with n sheet work 0 out)
      made f =
          let m =
          work_over code n 0 sheet sheet with_first with_first refl (λ k h. refl) zero_true (omega arith) f.sheet-room (omega (arith, length-with_first f, f.marks-room))
          in
          record { marks_true = m.0; written = from_first m.1; digest = ap (λ (d : List ℕ). overwrite d out) m.2 }
        where
          from_first : Written (left code (done_with n sheet work 0 out)) 1 → Written (left code (done_with n sheet work 0 out)) 0
          from_first w zero h i = unfold state_after chain blocks blocks_to in first_written f
          from_first w (suc k) h i = w (suc k) (omega arith) i

  -- whatever the answer, the sheet, the lengths and the words after its marks are as they were
  pub record BuildStays (o : SheetOutcome) : Type 0 where
    pub count_same : o.answer.count ≡ n
    pub sheet_same : o.sheet ≡ sheet
    pub marks-size : length o.marks ≡ length marks
    pub out-size : length o.out ≡ length out
    pub marks_behind : (m : ℕ) → q n ≤ m → drop (mark_words * (m + 1)) o.marks ≡ drop (mark_words * (m + 1)) marks

  pub build-stays : BuildStays outcome
  unfolding done_with refused_with
  build-stays = by_build BuildStays (λ z. kept) (λ k z. search)
    where
      kept : Fits found out → BuildStays (done_with n sheet work 0 out)
      kept f =
          let b : length with_first ≡ length marks = length-with_first f in
          let a : Rewritten n 0 work.marks with_first = rewritten code n 0 sheet with_first (omega arith) (omega (arith, f.marks-room)) in
          record {
            count_same = refl;
            sheet_same = refl;
            marks-size = a.size ∙ b;
            out-size = length-overwrite_at 0 work.digest out (omega (arith, length-digest code n 0 sheet with_first, f.out-room));
            marks_behind = λ m h. a.behind m h ∙ drop-overwrite_at 0 (mark_words * (m + 1)) first marks (omega (arith, length-mark (start (width_at code)))) (omega arith);
          }

  -- so an accepted build lays the marks
  pub build_laid : outcome.answer.number ≡ 0 → Laid (left code outcome)
  unfolding left
  build_laid e =
      let f = build_fits e in
      record {
        known-code = f.known-code;
        count = omega (arith, f.count, build-stays.count_same);
        sheet-room = omega (arith, f.sheet-room, build-stays.count_same, ap length build-stays.sheet_same);
        marks-room = omega (arith, f.marks-room, ap q build-stays.count_same, build-stays.marks-size);
        written = (build_made e).written;
      }

  pub build-rounds : Rounds outcome.answer (build_rounds code n) 0
  unfolding refused_with done_with
  build-rounds =
      by_build (λ o. Rounds o.answer (build_rounds code n) 0)
      (λ z f. record {
        when_done_lem = λ e. zero-add work.rounds ∙ rounds_from_mark code n 0 sheet with_first (omega arith) f.sheet-room ∙ sym (build_from_start code n);
        when-stale = λ e. absurd (stale-answers e refl);
        none = λ h i. absurd (h refl);
      })
      (λ k z. record { when_done_lem = λ e. absurd (omega arith); when-stale = λ e. refl; none = λ h i. refl })

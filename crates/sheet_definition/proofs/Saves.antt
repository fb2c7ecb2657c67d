-- Every proper save from true marks leaves true marks, hands out Luffa of the sheet it leaves, and is stale exactly at a claim that isn't Luffa of
-- the sheet it found; bytes, words and rounds are those that document 01 names: one law for every kind of save.
-- Assumes nothing.
use mathlib.Core.Path.{◌≡◌, refl, sym, ap, ◌∙◌}
use mathlib.Core.Logic.{◌↔◌}
use mathlib.Core.Bool.{false, not}
use mathlib.Core.List.{List}
use Prim.Native.Nat.{ℕ, ◌+◌, ◌-◌, ◌*◌, ◌≤◌}
use native.Mathlib.Nat.{le_refl}
use native.Mathlib.Decide.{dec_le}
use native.Mathlib.Omega.{arith}
use lib.ListN.{length, take, drop}
use lib.Seq.{take-take, drop-drop}
use borrow.Author.Tests.{not-false}
use Rattle.definition.specs.declared.Width.{Width}
use Rattle.definition.specs.Start.{start}
use Rattle.definition.specs.Width.{width_at}
use Rattle.definition.specs.Luffa.{luffa}
use Rattle.definition.specs.Buffer.{overwrite, same}
use Rattle.definition.specs.Refusal.{first_of}
use Rattle.sheet_definition.specs.Sheet.{World, record_bytes, group_bytes, mark_words, q, check_rounds}
use Rattle.sheet_definition.specs.Marks.{held, mark_at, state_from, mark_of, worked, state_after, TrueMark, TrueMarks}
use Rattle.sheet_definition.specs.Save.{SheetOutcome, refused_with, done_with, Save, checked, stale_claim, reworked, rounds_before, save_outcome, save_rounds}
use Rattle.sheet_definition.specs.Run.{left}
use Rattle.sheet_definition.specs.Said.{Stale, Written, Rounds, Stays, Freed}
use Rattle.definition.proofs.Buffer.{length-overwrite_at}
use Rattle.definition.proofs.Chain.{length-chain, length-start}
use Rattle.definition.proofs.Conditions.{other_way}
use Rattle.definition.proofs.Refusals.{of_first, given_first}
use Rattle.sheet_definition.proofs.Sheet.{check_from_last_mark}
use Rattle.sheet_definition.proofs.Writes.{same_refl, same_eq, marks-kept, Rewritten, rewritten, length-digest}
use Rattle.sheet_definition.proofs.Marks.{state_of_mark, digest_from_mark, rounds_from_mark, mark-written, marks_after_work}
use Rattle.sheet_definition.proofs.Outcomes.{stale-answers, is_stale, accepted, by_answer, done_exactly, stale_exactly}
use Rattle.sheet_definition.proofs.Refused.{Fits}
use Rattle.sheet_definition.proofs.Fair.{Fair, Proper, groups_stay}

-- the state after the groups before a mark, where these are as they were
same_state : (code m k : ℕ) (sheet' sheet : List ℕ) → take (group_bytes * m) sheet' ≡ take (group_bytes * m) sheet → k ≤ m
    → state_after code sheet' k ≡ state_after code sheet k
unfolding state_after
same_state code m k sheet' sheet e h =
    rw (← take-take (group_bytes * k) (group_bytes * m) sheet' (omega arith), e, take-take (group_bytes * k) (group_bytes * m) sheet (omega arith))

-- work from mark m over a sheet and marks that are as true ones up to m: true marks, those after m as they are written, and Luffa of the sheet
pub work_over : (code n m : ℕ) (sheet' sheet marks' marks : List ℕ) → take (group_bytes * m) sheet' ≡ take (group_bytes * m) sheet
    → ((k : ℕ) → k ≤ m → mark_at marks' k ≡ mark_at marks k) → ((k : ℕ) → k ≤ m → TrueMark code sheet marks k)
    → m ≤ q n → record_bytes * n ≤ length sheet' → mark_words * (q n + 1) ≤ length marks'
    → TrueMarks (record { code = code; n = n; sheet = sheet'; marks = (worked code n sheet' marks' m).marks })
    × Written (record { code = code; n = n; sheet = sheet'; marks = (worked code n sheet' marks' m).marks }) (m + 1)
    × ((worked code n sheet' marks' m).digest ≡ luffa code (held n sheet'))
work_over code n m sheet' sheet marks' marks e a t h l r =
    let t' : (k : ℕ) → k ≤ m → TrueMark code sheet' marks' k =
    λ k i. unfold TrueMark in (rw (a k i) (t k i) ∙ sym (same_state code m k sheet' sheet e i)) in (
      marks_after_work code n m sheet' marks' t' h l r,
      λ k i j. mark-written code n m k sheet' marks' (t' m (le_refl m)) (omega arith) j l r,
      digest_from_mark code n m sheet' marks' (t' m (le_refl m)) h l,
    )

-- marks that are word for word those of a build are true
pub built_true : (w : World) → Written w 0 → TrueMarks w
unfolding TrueMarks TrueMark state_after
built_true w b m h =
    let v : Width = width_at w.code in
    ap (state_from v) (b m (omega arith) h) ∙ state_of_mark v _ (length-chain v (start v) _ (length-start v))

-- a mark behind words that were rewritten
pub mark_behind : (k j : ℕ) (l' l : List ℕ) → k ≡ j + 1 → drop (mark_words * (j + 1)) l' ≡ drop (mark_words * (j + 1)) l → mark_at l' k ≡ mark_at l k
unfolding mark_at
mark_behind k j l' l e h = rw (e, h)

-- what an accepted call makes: true marks, those from a number on as they are written, and Luffa of its sheet in front of the output buffer
pub record Made (code from : ℕ) (out : List ℕ) (o : SheetOutcome) : Type 0 where
  pub marks_true : TrueMarks (left code o)
  pub written : Written (left code o) from
  pub digest : o.out ≡ overwrite (luffa code (held o.answer.count o.sheet)) out

-- the rounds of a check, from true marks or false
pub check-rounds : (w : World) → record_bytes * w.n ≤ length w.sheet → (checked w).rounds ≡ check_rounds w.code w.n
unfolding checked
check-rounds w l =
    rounds_from_mark w.code w.n (q w.n) w.sheet w.marks (le_refl (q w.n)) l ∙ sym (check_from_last_mark w.code w.n)

-- from true marks, a claim is fresh exactly when it is Luffa of the sheet found
fresh_claim : (w : World) (claim : List ℕ) → TrueMarks w → record_bytes * w.n ≤ length w.sheet
    → (stale_claim w claim ≡ false) ↔ (claim ≡ luffa w.code (held w.n w.sheet))
unfolding stale_claim checked TrueMarks
fresh_claim w claim t l =
    let m : ℕ = q w.n in
    let d : List ℕ = luffa w.code (held w.n w.sheet) in
    rw (digest_from_mark w.code w.n m w.sheet w.marks (t m (le_refl m)) (le_refl m) l)
    (λ e. same_eq claim d (not-false (same claim d) e), λ e. rw e (ap not (same_refl d)))

-- what follows from the first of two is put for the second
and_so : {A B C D : Type 0} → A ↔ (B × C) → (B → C ↔ D) → A ↔ (B × D)
and_so i f = (λ a. ((i.0 a).0, (f (i.0 a).0).0 (i.0 a).1), λ p. i.1 (p.0, (f p.0).1 p.1))

module _ (w : World) (s : Save) (p : Proper w s) where
  abbrev m : ℕ
  m = q s.edit.first

  abbrev outcome : SheetOutcome
  outcome = save_outcome w s

  -- the work of a fair edit writes the marks after that of its first group, and no others
  work_writes : Fair w s.edit → Rewritten s.edit.count m (reworked w s.edit).marks s.edit.marks
  unfolding reworked q
  work_writes f =
      rewritten w.code s.edit.count m s.edit.sheet s.edit.marks (omega (arith, f.first_left)) (omega (arith, f.new_marks_room, f.marks.size))

  -- an answer's rounds, from true marks or false
  pub save-rounds : Rounds outcome.answer (save_rounds w s.edit) (check_rounds w.code w.n)
  unfolding refused_with done_with save_rounds rounds_before reworked q
  save-rounds =
      by_answer w s (λ o. Rounds o.answer (save_rounds w s.edit) (check_rounds w.code w.n))
      (λ k e. record {
        when_done_lem = λ h. absurd (omega arith);
        when-stale = λ h. absurd (of_first (λ k. Stale k → ⊥) (given_first s.refusals e) p.earlier h);
        none = λ h i. refl;
      })
      (λ e t. record {
        when_done_lem = λ h. absurd (stale-answers p.answered h);
        when-stale = λ h. check-rounds w (p.room e).sheet-room;
        none = λ h i. absurd (i p.answered);
      })
      (λ e t. record { when_done_lem = λ h. work (p.room e) (p.fair e); when-stale = λ h. absurd (stale-answers h refl); none = λ h i. absurd (h refl) })
    where
      work : Fits w s.out → Fair w s.edit → rounds_before w s.edit + (reworked w s.edit).rounds ≡ save_rounds w s.edit
      work r f =
          rw (
            check-rounds w r.sheet-room,
            rounds_from_mark w.code s.edit.count m s.edit.sheet s.edit.marks (omega (arith, f.first_left)) (omega (arith, f.new_sheet_room, f.sheet-size)),
          )

  -- whatever the answer, what it doesn't name is as it was
  pub save-stays : Stays w s.edit s.out outcome
  unfolding refused_with done_with reworked
  save-stays = by_answer w s (Stays w s.edit s.out) (λ k e. search) (λ e t. search) (λ e t. kept (p.room e) (p.fair e))
    where
      kept : Fits w s.out → Fair w s.edit → Stays w s.edit s.out (accepted w s)
      kept r f =
          let a : Rewritten s.edit.count m (reworked w s.edit).marks s.edit.marks = work_writes f in
          let b : Rewritten w.n m s.edit.marks w.marks = f.marks in
          record {
            sheet-size = f.sheet-size;
            marks-size = a.size ∙ b.size;
            out-size =
                length-overwrite_at 0 (reworked w s.edit).digest s.out
                (omega (arith, length-digest w.code s.edit.count m s.edit.sheet s.edit.marks, r.out-room));
            sheet-before = f.before;
            sheet_behind = f.behind;
            marks-before = a.before ∙ b.before;
            marks_behind = λ k h j. a.behind k j ∙ b.behind k h;
          }

  -- so marks 0 to the group of the first record are as they were
  pub save-marks : (k : ℕ) → k ≤ m → mark_at outcome.marks k ≡ mark_at w.marks k
  save-marks k h = marks-kept m k outcome.marks w.marks save-stays.marks-before h

  -- and the bytes past the records of both sheets
  pub past-stays : (k : ℕ) → w.n ≤ k → outcome.answer.count ≤ k → drop (record_bytes * k) outcome.sheet ≡ drop (record_bytes * k) w.sheet
  unfolding refused_with done_with
  past-stays k h =
      by_answer w s (λ o. o.answer.count ≤ k → drop (record_bytes * k) o.sheet ≡ drop (record_bytes * k) w.sheet)
      (λ j e i. refl) (λ e t i. refl) (λ e t i. past (p.fair e) i)
    where
      past : Fair w s.edit → s.edit.count ≤ k → drop (record_bytes * k) s.edit.sheet ≡ drop (record_bytes * k) w.sheet
      past f i =
          let n : ℕ = record_bytes * s.edit.past in
          let e : record_bytes * k ≡ n + (record_bytes * k - n) = omega (arith, f.past-held) in
          rw (e, ← drop-drop (record_bytes * k - n) n s.edit.sheet, ← drop-drop (record_bytes * k - n) n w.sheet, f.behind)

  -- an accepted save from true marks
  made : TrueMarks w → Fair w s.edit → Made w.code (m + 1) s.out (accepted w s)
  unfolding done_with reworked TrueMarks left q
  made t f =
      let o =
      work_over w.code s.edit.count m s.edit.sheet w.sheet s.edit.marks w.marks (groups_stay w s.edit f)
      (λ k h. marks-kept m k s.edit.marks w.marks f.marks.before h)
      (λ k h. t k (omega (arith, f.first_held)))
      (omega (arith, f.first_left)) (omega (arith, f.new_sheet_room, f.sheet-size)) (omega (arith, f.new_marks_room, f.marks.size))
      in
      record { marks_true = o.0; written = o.1; digest = ap (λ (d : List ℕ). overwrite d s.out) o.2 }

  pub save_made : TrueMarks w → outcome.answer.number ≡ 0 → Made w.code (m + 1) s.out outcome
  unfolding refused_with
  save_made t =
      by_answer w s (λ o. o.answer.number ≡ 0 → Made w.code (m + 1) s.out o)
      (λ k e h. absurd (omega arith)) (λ e i h. absurd (stale-answers p.answered h)) (λ e i h. made t (p.fair e))

  -- marks that are word for word those of a build are so afterwards, whatever the answer
  pub save_built : Written w 0 → Written (left w.code outcome) 0
  unfolding refused_with done_with left
  save_built b = by_answer w s (λ o. Written (left w.code o) 0) (λ k e. b) (λ e t. b) (λ e t. again (p.fair e))
    where
      again : Fair w s.edit → Written (left w.code (accepted w s)) 0
      again f k h i =
          elim (dec_le k m) [
            | yes d ↦ marks-kept m k (reworked w s.edit).marks w.marks ((work_writes f).before ∙ f.marks.before) d
                ∙ b k h (unfold q in omega (arith, f.first_held))
                ∙ ap mark_of (sym (same_state w.code m k s.edit.sheet w.sheet (groups_stay w s.edit f) d))
            | no d ↦ (made (built_true w b) f).written k (omega arith) i
          ]

  -- what an accepted save takes away is zeroed
  pub save-freed : outcome.answer.number ≡ 0 → Freed w outcome
  unfolding refused_with done_with
  save-freed =
      by_answer w s (λ o. o.answer.number ≡ 0 → Freed w o)
      (λ k e h. absurd (omega arith)) (λ e i h. absurd (stale-answers p.answered h)) (λ e i h. freed (p.fair e))
    where
      freed : Fair w s.edit → Freed w (accepted w s)
      freed f =
          record {
            bytes = f.bytes-freed;
            words = λ k h i. mark_behind k (k - 1) _ s.edit.marks (omega arith) ((work_writes f).behind (k - 1) (omega arith)) ∙ f.words-freed k h i;
          }

  -- from true marks, a save whose other arguments are valid is accepted exactly when the claim is Luffa of the sheet found, else stale
  pub save-accepted : TrueMarks w
      → (outcome.answer.number ≡ 0) ↔ ((first_of s.refusals ≡ 0) × (s.claim ≡ luffa w.code (held w.n w.sheet)))
  save-accepted t =
      and_so (done_exactly w s p.numbered p.earlier p.answered) (λ e. fresh_claim w s.claim t (p.room e).sheet-room)

  pub save-stale : TrueMarks w
      → Stale outcome.answer.number ↔ ((first_of s.refusals ≡ 0) × (s.claim ≡ luffa w.code (held w.n w.sheet) → ⊥))
  save-stale t =
      and_so (stale_exactly w s p.numbered p.earlier p.answered)
      (λ e. other_way (is_stale w s) (fresh_claim w s.claim t (p.room e).sheet-room))

-- What a save that brings the planner's own marks answers, put together: refused, or the plain call's answer with where.
-- Assumes nothing.
use mathlib.Core.Path.{◌≡◌, refl, sym, ap, ap₂, subst, ◌∙◌}
use mathlib.Core.Bool.{true, false}
use mathlib.Core.List.{List, [], ◌∷◌}
use Prim.Native.Nat.{ℕ, ◌+◌, ◌*◌, ◌≤◌}
use native.Mathlib.Omega.{arith}
use lib.ListN.{length}
use Rattle.definition.specs.Refusal.{STALE, pick, first_of}
use Rattle.definition.proofs.Refusals.{front-given}
use Rattle.std.specs.Prelude.{Result, Ok, Err}
use Rattle.std.specs.Result.{IfErr}
use Rattle.refusals.specs.Number.{number}
use Rattle.refusals.proofs.Judged.{not_zero, passed}
use Rattle.sheet_definition.specs.declared.Answer.{Answer}
use Rattle.sheet_definition.specs.declared.Located.{Located}
use Rattle.sheet_definition.specs.Sheet.{World, mark_words, q}
use Rattle.sheet_definition.specs.Refusals.{lengths_of}
use Rattle.sheet_definition.specs.Own.{own_refusal, nowhere, stale}
use Rattle.sheet_definition.specs.Own.Own.{Brought}
use Rattle.sheet_definition.specs.Save.{SheetOutcome, refused_with, done_with}
use Rattle.sheet_definition.specs.SheetCalls.{Kind, Call, refusals_of, OwnOutcome, save_of, call, saying, own_outcome}
use Rattle.sheet_definition.specs.Said.{Stale}
use Rattle.sheet_definition.proofs.Outcomes.{stale-answers, is_stale, turned_away as turnedAway', accepted, refused_is, stale_is, done_is, stale_exactly, by_answer}
use Rattle.sheet_definition.proofs.Saves.{save-stays}
use Rattle.sheet_definition.proofs.Edits.{numbered, before-own, proper}
use Rattle.sheet_definition.proofs.Owned.{plainly, where_stale, where_else}
use Rattle.sheet_work.specs.declared.Saved.{Saved}
use Rattle.sheet_work.specs.declared.Turned.{Turned}
use Rattle.sheet_work.specs.Answered.{answer_of}
use Rattle.sheet_own.specs.Located.{located}
use Rattle.sheet_own.proofs.Judged.{own_room}

-- what a call is handed: the sheet and its marks, the kind of save, the claim, the planner's own count and marks, and the buffer for the digest
pub record Asked : Type 0 where
  pub w : World
  pub k : Kind
  pub claim : List ℕ
  pub own : ℕ
  pub own_marks : List ℕ
  pub out : List ℕ

-- the same from what a call is handed
abbrev pub handed : (code n : ℕ) (sheet marks : List ℕ) (k : Kind) (claim : List ℕ) (own : ℕ) (own_marks out : List ℕ) → Asked
handed code n sheet marks k claim own own_marks out =
    record { w = record { code = code; n = n; sheet = sheet; marks = marks }; k = k; claim = claim; own = own; own_marks = own_marks; out = out }

-- the number of its refusals
abbrev pub judged_by : Asked → ℕ
judged_by a = first_of (save_of a.w (record { kind = a.k; claim = a.claim; own = Brought a.own a.own_marks; out = a.out })).refusals

module _ (a : Asked) where
  abbrev w : World
  w = a.w

  abbrev k : Kind
  k = a.k

  abbrev claim : List ℕ
  claim = a.claim

  abbrev own : ℕ
  own = a.own

  abbrev own_marks : List ℕ
  own_marks = a.own_marks

  abbrev out : List ℕ
  out = a.out

  abbrev asked : Call
  asked = record { kind = k; claim = claim; own = Brought own own_marks; out = out }

  -- judged by what every planner is, then by his own marks
  pub judged_first : {j : ℕ} → j ≡ first_of (refusals_of (lengths_of w out) (length claim) k) → (j ≡ 0 → ⊥) → j ≡ judged_by a
  unfolding save_of
  judged_first e h = front-given (refusals_of (lengths_of w out) (length claim) k) (own_refusal w.code own own_marks ∷ []) e h

  pub judged_own : {j : ℕ} → 0 ≡ first_of (refusals_of (lengths_of w out) (length claim) k) → j ≡ first_of (own_refusal w.code own own_marks ∷ []) → j ≡ judged_by a
  unfolding save_of
  judged_own e f = f ∙ sym (passed (refusals_of (lengths_of w out) (length claim) k) (own_refusal w.code own own_marks ∷ []) (numbered w asked k) e)

  -- where nothing is refused, both have the marks that are compared, and the plain call is stale where it isn't done
  pub marks_fit : 0 ≡ judged_by a → 0 ≡ first_of (own_refusal w.code own own_marks ∷ []) → {o : SheetOutcome} → o ≡ call w (plainly w asked)
      → (mark_words * (q w.n + 1) ≤ length o.marks) × (mark_words * (q own + 1) ≤ length own_marks)
  unfolding save_of call
  marks_fit v z {o = o} e =
      let n : length o.marks ≡ length w.marks = ap (λ (o : SheetOutcome). length o.marks) e ∙ (save-stays w (save_of w (plainly w asked)) (proper w (plainly w asked))).marks-size in
      (omega (arith, ((proper w asked).room (sym v)).marks-room), (own_room w.code own own_marks (sym z)).1)

  pub stale_else : 0 ≡ judged_by a → {o : SheetOutcome} → o ≡ call w (plainly w asked) → (s : Result Saved Turned) → o.answer ≡ answer_of w.n s
      → IfErr s (λ t. number t.refusal ≡ STALE)
  unfolding call save_of refused_with done_with
  stale_else v e (Ok s) f = tt
  stale_else v {o = o} e (Err t) f =
      let g : o.answer.number ≡ number t.refusal = ap (λ (x : Answer). x.number) f in
      let P : SheetOutcome → Type 0 = λ o. (o.answer.number ≡ 0 → ⊥) → o.answer.number ≡ STALE in
      sym g ∙ subst P (sym e)
      (by_answer w (save_of w (plainly w asked)) P (λ j g. absurd (omega (arith, before-own w asked (sym v)))) (λ g t h. refl) (λ g t h. absurd (h refl)))
      (λ z. not_zero t.refusal (sym g ∙ z))

  -- an outcome with where, as the code answers it
  abbrev told : Located → SheetOutcome → OwnOutcome
  told l o = record { answer = l; sheet = o.sheet; marks = o.marks; out = o.out }

  pub away : {j : ℕ} → j ≡ judged_by a → (j ≡ 0 → ⊥)
      → record { answer = record { number = j; count = w.n; rounds = 0; place = nowhere }; sheet = w.sheet; marks = w.marks; out = out } ≡ own_outcome w k claim own own_marks out
  unfolding own_outcome saying refused_with call save_of
  away {j = j} e h =
      let p = proper w asked in
      let n : Stale (call w asked).answer.number → ⊥ = λ t. h (e ∙ ((stale_exactly w (save_of w asked) p.numbered p.earlier p.answered).0 t).0) in
      ap₂ saying {x = refused_with w out j 0} (refused_is w (save_of w asked) e h) (sym (where_else w asked n))

  -- stale and done, from the plain call
  abbrev from : SheetOutcome → OwnOutcome
  from o = told (located w.code w.n o.marks own own_marks o.answer) o

  stale_so : first_of (save_of w asked).refusals ≡ 0 → is_stale w (save_of w asked) ≡ true → from (turnedAway' w (save_of w (plainly w asked))) ≡ own_outcome w k claim own own_marks out
  unfolding own_outcome saying located pick refused_with call save_of
  stale_so v t =
      let o : turnedAway' w (save_of w asked) ≡ call w asked = stale_is w (save_of w asked) (sym v) refl t in
      let n : Stale (call w asked).answer.number = subst (λ (o : SheetOutcome). Stale o.answer.number) o (proper w asked).answered in
      ap₂ saying {x = turnedAway' w (save_of w asked)} o (sym (where_stale w asked n))

  done_so : first_of (save_of w asked).refusals ≡ 0 → is_stale w (save_of w asked) ≡ false → from (accepted w (save_of w (plainly w asked))) ≡ own_outcome w k claim own own_marks out
  unfolding own_outcome saying located pick done_with call save_of stale
  done_so v t =
      let o : accepted w (save_of w asked) ≡ call w asked = done_is w (save_of w asked) (sym v) refl t in
      let n : Stale (call w asked).answer.number → ⊥ = λ s. stale-answers s (sym (ap (λ (o : SheetOutcome). o.answer.number) o)) in
      ap₂ saying {x = accepted w (save_of w asked)} o (sym (where_else w asked n))

  pub located_so : 0 ≡ judged_by a → {o : SheetOutcome} → o ≡ call w (plainly w asked) → {l : Located}
      → l ≡ located w.code w.n o.marks own own_marks o.answer → told l o ≡ own_outcome w k claim own own_marks out
  unfolding call save_of
  located_so v {o = o} e f =
      ap (λ (l : Located). told l o) f
      ∙ ap from e
      ∙ by_answer w (save_of w (plainly w asked)) (λ o. from o ≡ own_outcome w k claim own own_marks out)
      (λ j g. absurd (omega (arith, before-own w asked (sym v)))) (λ g t. stale_so (sym v) t) (λ g t. done_so (sym v) t)

-- `sheet_close_up::close_up` meets its contract: turned away, or put together from the records gathered, what is zeroed, and the work.
-- Assumes nothing.
use mathlib.Core.Path.{◌≡◌, refl, sym, ap, ◌∙◌}
use mathlib.Core.List.{List}
use Prim.Native.Nat.{ℕ, ◌≤◌}
use native.Mathlib.Omega.{arith}
use lib.ListN.{length}
use Rattle.std.proofs.lemmas.Result.{err_from_is_err_and}
use Rattle.refusals.proofs.Judged.{not_zero}
use Rattle.definition.specs.Refusal.{PLACES, first_of}
use Rattle.definition.proofs.Refusals.{fails}
use Rattle.sheet_definition.specs.Sheet.{World, cut, q}
use Rattle.sheet_definition.specs.Struck.{all_zero, standing, first_struck}
use Rattle.sheet_definition.specs.declared.Lengths.{Lengths}
use Rattle.sheet_definition.specs.Refusals.{lengths_of, close_up_refusals}
use Rattle.sheet_definition.specs.SheetCalls.{Call, lent, refusals_of, save_of, call, closing_up}
use Rattle.sheet_definition.proofs.Joined.{length_cut}
use Rattle.sheet_definition.proofs.Refused.{list_fits, judging as refusing}
use Rattle.sheet_definition.proofs.Struck.{fewer, first_stands}
use Rattle.sheet_definition.proofs.Edits.{numbered}
use Rattle.sheet_marks.specs.Total.{cleared}
use Rattle.sheet_marks.proofs.Total.{cleared-past}
use Rattle.sheet_work.specs.Admission.{Admitted, admission}
use Rattle.sheet_work.proofs.Admission.{few-rounds, turned_away_lem, Onward, asked_of, onward}
use Rattle.std.specs.Prelude.{Option}
use Rattle.std.specs.List.{position}
use Rattle.std.specs.Option.{unwrap_or}
use Rattle.sheet_close_up.proofs.Walked.{first_told}
use Rattle.sheet_close_up.proofs.Together.{list-stays, together}
use Rattle.sheet_close_up.proofs.close_up.Goals as goal

-- of a call judged by the number that its lengths come to
module _ (w : World) (places claim out : List ℕ) {number : ℕ} {l : Lengths} (f : l ≡ lengths_of w out)
    (e : number ≡ first_of (close_up_refusals l (length places) (length claim))) where
  abbrev asked : Call
  asked = closing_up places claim out

  -- the number is that of the call's refusals
  judged : number ≡ first_of (save_of w asked).refusals
  unfolding save_of refusals_of
  judged = rw f at e

  -- admitted, the call goes on
  goes : {begun : Admitted} → begun ≡ admission number w claim → begun.number ≡ 0 → Onward w asked begun.rounds
  unfolding save_of
  goes = onward w asked judged refl

  listed : {begun : Admitted} → begun ≡ admission number w claim → begun.number ≡ 0 → w.n ≤ length places
  unfolding save_of refusing
  listed d z = list_fits _ _ (fails (save_of w asked).refusals (numbered w asked asked.kind) (goes d z).valid PLACES)

-- no more are left than there were
fewer_left : (n : ℕ) (sheet : List ℕ) {count : ℕ} → count ≡ length (standing (cut n sheet)) → count ≤ n
fewer_left n sheet e = omega (arith, e, fewer (cut n sheet), length_cut n sheet)

-- the first struck place, or the place past the last
told : (n : ℕ) (sheet : List ℕ) {first : ℕ} {o : Option ℕ} → o ≡ position all_zero (cut n sheet) → first ≡ unwrap_or o n → first ≡ first_struck (cut n sheet)
told n sheet p f = f ∙ rw p (first_told (cut n sheet) n (sym (length_cut n sheet)))

pub admit-requires : goal.admit-requires
admit-requires c = asked_of _ _ (judged _ _ _ _ c.lengths-l.ensures c.close_up-judged.ensures)

pub returns-in_err-before : goal.returns-in_err-before
unfolding call save_of
returns-in_err-before c =
    let d = c.in_err-before.ensures in
    let p = err_from_is_err_and c.from_residual.result c.from_residual.ensures.1 in
    rw (p.1, p.2, d.marks_unchanged)
    (list-stays _ _ _ _ _ _ (not_zero _) (turned_away_lem _ _ refl (judged _ _ _ _ c.lengths-l.ensures c.close_up-judged.ensures) d.value (not_zero _)))

pub work_on-rounds-requires : goal.work_on-rounds-requires
unfolding q
work_on-rounds-requires c =
    let a = c.args in
    let g = goes _ _ _ _ c.lengths-l.ensures c.close_up-judged.ensures c.in_ok-before.ensures.value refl in
    let f = g.room in
    let l = fewer_left _ _ c.gather-count.ensures.value in (
      omega (arith, l, f.count),
      omega (arith, l, f.sheet-room, c.zero.auto.sheet, c.gather-count.auto.sheet),
      omega (arith, l, f.marks-room, ap length c.in_ok-before.ensures.marks_unchanged, c.clear.auto.marks),
      omega (arith, (told _ _ c.first_struck.ensures c.unwrap_or-first.ensures), c.gather-count.ensures.value, first_stands (cut a.n a.sheet.now)),
      omega (arith, g.checked_so_far, few-rounds (lent a.code a.sheet.now a.n a.marks.now) f.sheet-room),
      f.out-room,
    )

pub returns : goal.returns
unfolding q
returns c =
    let a = c.args in
    let g = goes _ _ _ _ c.lengths-l.ensures c.close_up-judged.ensures c.in_ok-before.ensures.value refl in
    let o = c.work_on-rounds.ensures in
    let n = c.gather-count.ensures in
    together _ _ _ _ _ _ _ _ _ _ _ _ _ _ g.checked_so_far (told _ _ c.first_struck.ensures c.unwrap_or-first.ensures)
    n.value n.sheet_after n.places_after c.zero.ensures
    (c.clear.ensures ∙ ap (cleared a.n c.gather-count.result) c.in_ok-before.ensures.marks_unchanged ∙ cleared-past a.n c.gather-count.result a.marks.now (fewer_left _ _ n.value) g.room.marks-room)
    o.value o.marks_after o.out_after g.outcome

pub first_struck-requires : goal.first_struck-requires
first_struck-requires c =
    (goes _ _ _ _ c.lengths-l.ensures c.close_up-judged.ensures c.in_ok-before.ensures.value refl).room.sheet-room

pub gather-count-requires : goal.gather-count-requires
gather-count-requires c =
    let d = c.in_ok-before.ensures.value in
    let f = (goes _ _ _ _ c.lengths-l.ensures c.close_up-judged.ensures d refl).room in (f.count, f.sheet-room, listed _ _ _ _ c.lengths-l.ensures c.close_up-judged.ensures d refl)

pub zero-requires : goal.zero-requires
zero-requires c =
    let f = (goes _ _ _ _ c.lengths-l.ensures c.close_up-judged.ensures c.in_ok-before.ensures.value refl).room in
    (fewer_left _ _ c.gather-count.ensures.value, omega (arith, f.sheet-room, c.gather-count.auto.sheet))

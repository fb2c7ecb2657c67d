-- `sheet_batch::batch` meets its contract: turned away, checked and nothing else, or put together from the records written and the work.
-- Assumes nothing.
use mathlib.Core.Path.{◌≡◌, refl, ap, ◌∙◌}
use mathlib.Core.List.{List}
use Prim.Native.Nat.{ℕ, ◌+◌, ◌*◌, ◌<◌, ◌≤◌}
use native.Mathlib.Omega.{arith}
use lib.ListN.{length, get_or}
use Rattle.std.proofs.lemmas.Result.{err_from_is_err_and}
use Rattle.refusals.proofs.Judged.{not_zero}
use Rattle.definition.specs.Refusal.{first_of}
use Rattle.definition.proofs.Every.{every_so}
use Rattle.sheet_definition.specs.Sheet.{World, record_bytes, q}
use Rattle.sheet_definition.specs.declared.Lengths.{Lengths}
use Rattle.sheet_definition.specs.Refusals.{lengths_of, batch_refusals}
use Rattle.sheet_definition.specs.Save.{refused_with}
use Rattle.sheet_definition.specs.SheetCalls.{lent, refusals_of, save_of, call, batching}
use Rattle.sheet_definition.proofs.Edits.{proper, Many, many}
use Rattle.octets.proofs.Total.{write_at_lem}
use Rattle.sheet_work.specs.Admission.{Admitted, admission}
use Rattle.sheet_work.proofs.Admission.{few-rounds, turned_away_lem, fresh, Onward, asked_of, onward}
use Rattle.sheet_batch.proofs.Places.{first_of_lem}
use Rattle.sheet_batch.proofs.Done.{none_done, some_done}
use Rattle.sheet_batch.proofs.batch.Goals as goal

-- of a number judged by the call's refusals: it is that of the save, and what the call goes on with
module _ (w : World) (places x claim out : List ℕ) {number : ℕ} {l : Lengths} (f : l ≡ lengths_of w out)
    (e : number ≡ first_of (batch_refusals l places (length x) (length claim))) where
  judged : number ≡ first_of (save_of w (batching places x claim out)).refusals
  unfolding save_of refusals_of
  judged = rw f at e

  goes : {begun : Admitted} → begun ≡ admission number w claim → begun.number ≡ 0 → Onward w (batching places x claim out) begun.rounds
  unfolding save_of
  goes d z = onward w (batching places x claim out) judged refl d z

-- its places and records are as they should be
all : {w : World} {places x claim out : List ℕ} {rounds : ℕ} → Onward w (batching places x claim out) rounds
    → Many w (batching places x claim out) places x
unfolding save_of
all {w} {places} {x} {claim} {out} g = many w (batching places x claim out) _ _ g.valid

pub admit-requires : goal.admit-requires
admit-requires c =
    let a = c.args in
    asked_of _ (batching a.places.now a.records.now a.claim.now a.out.now) (judged _ _ _ _ _ c.lengths-l.ensures c.judge-judged.ensures)

pub returns-in_err-before : goal.returns-in_err-before
unfolding refused_with call save_of
returns-in_err-before c =
    let a = c.args in
    let d = c.in_err-before.ensures in
    let w = lent a.code a.sheet.now a.n a.marks.now in
    let s = save_of w (batching a.places.now a.records.now a.claim.now a.out.now) in
    let p = err_from_is_err_and c.from_residual.result c.from_residual.ensures.1 in
    rw (p.1, p.2, d.marks_unchanged) (turned_away_lem w s refl (judged _ _ _ _ _ c.lengths-l.ensures c.judge-judged.ensures) d.value (not_zero _))

pub put-requires : goal.put-requires
put-requires c =
    let a = c.args in
    let g = goes _ _ _ _ _ c.lengths-l.ensures c.judge-judged.ensures c.in_ok-before.ensures.value refl in
    let m = all g in
    let f = g.room in
    (every_so (λ i. i < a.n) (λ i. record_bytes * (i + 1) ≤ length a.sheet.now) a.places.now (λ i h. omega (arith, f.sheet-room)) m.below, m.sizes)

pub returns-in_default : goal.returns-in_default
unfolding save_of
returns-in_default c =
    let a = c.args in
    let asked = batching a.places.now a.records.now a.claim.now a.out.now in
    let d = c.in_ok-before.ensures in
    let g = goes _ _ _ _ _ c.lengths-l.ensures c.judge-judged.ensures d.value refl in
    let w = lent a.code a.sheet.now a.n a.marks.now in
    let s = (proper w asked).claim-size g.valid in
    rw d.marks_unchanged
    (none_done _ a.places.now a.records.now a.claim.now a.out.now _ _ (omega (arith, c.in_default.ensures.item.3)) g.checked_so_far
    (c.put_bytes.ensures ∙ write_at_lem 0 a.claim.now a.out.now (omega (arith, s, g.room.out-room)))
    (fresh w (save_of w asked) refl (judged _ _ _ _ _ c.lengths-l.ensures c.judge-judged.ensures) d.value refl)
    ∙ g.outcome)

pub work_on-rounds-requires : goal.work_on-rounds-requires
unfolding q
work_on-rounds-requires c =
    let a = c.args in
    let g = goes _ _ _ _ _ c.lengths-l.ensures c.judge-judged.ensures c.in_ok-before.ensures.value refl in
    let f = g.room in
    let i = c.in-Some.ensures.item in
    let e : c.in-Some.first.now ≡ get_or a.places.now 0 0 = i.4 (omega arith) 0 in (
      f.count,
      omega (arith, f.sheet-room, c.put.auto.sheet),
      omega (arith, f.marks-room, ap length c.in_ok-before.ensures.marks_unchanged),
      omega (arith, e, first_of_lem (λ i. i < a.n) a.places.now i.3.0 (all g).below),
      omega (arith, g.checked_so_far, few-rounds (lent a.code a.sheet.now a.n a.marks.now) f.sheet-room),
      f.out-room,
    )

pub returns : goal.returns
unfolding save_of q
returns c =
    let a = c.args in
    let i = c.in-Some.ensures.item in
    let e : c.in-Some.first.now ≡ get_or a.places.now 0 0 = i.4 (omega arith) 0 in
    let g = goes _ _ _ _ _ c.lengths-l.ensures c.judge-judged.ensures c.in_ok-before.ensures.value refl in
    let o = c.work_on-rounds.ensures in
    let m = c.in_ok-before.ensures.marks_unchanged in
    some_done _ a.places.now a.records.now a.claim.now a.out.now _ _ _ _ _ i.3.0 g.checked_so_far c.put.ensures
    (rw (m, e) at o.value) (rw (m, e) at o.marks_after) (rw (m, e) at o.out_after)
    ∙ g.outcome

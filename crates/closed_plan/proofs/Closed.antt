-- The closed-up sheet has the same wells in order and the same brine statement with the struck places left out, and is sound exactly when the sheet
-- before it was.
-- Assumes nothing.
use mathlib.Core.Path.{◌≡◌, refl, sym, ◌∙◌}
use mathlib.Core.Logic.{◌↔◌}
use mathlib.Core.Bool.{true}
use mathlib.Core.List.{List, append-nil}
use Prim.Native.Nat.{ℕ, ◌*◌, ◌≤◌}
use native.Mathlib.Omega.{arith}
use lib.ListN.{length}
use Rattle.sheet_definition.specs.Sheet.{World, most, record_bytes, cut}
use Rattle.sheet_definition.specs.Struck.{standing}
use Rattle.sheet_definition.specs.SheetCalls.{Call, call, closing_up}
use Rattle.sheet_definition.specs.Save.{done_with}
use Rattle.sheet_definition.specs.Run.{left, next}
use Rattle.sheet_definition.proofs.Edits.{proper}
use Rattle.sheet_definition.proofs.Claims.{accepted_is}
use Rattle.sheet_definition.proofs.CloseUps.{closed_records}
use Rattle.plan_definition.specs.declared.Well.{Well}
use Rattle.plan_definition.specs.declared.Verdict.TheVariants.{Sound}
use Rattle.plan_definition.specs.Well.{wells_from, wells}
use Rattle.plan_definition.specs.Check.{sound, verdict}
use Rattle.plan_definition.proofs.Faults.{rising}
use Rattle.plan_definition.proofs.Tested.{sound_tested}
use Rattle.plan_definition.proofs.Verdicts.{sound_exactly}
use Rattle.brine_definition.specs.Count.{count}
use Rattle.brine_definition.specs.Page.{rows}
use Rattle.brine_definition.specs.Statement.{page, statement_of}
use Rattle.closed_plan.specs.Closed.{wells_left, SamePlan}
use Rattle.closed_plan.proofs.Left.{wells_left_lem}
use Rattle.closed_plan.proofs.Sound.{sound_left}
use Rattle.closed_plan.proofs.Pages.{page_left, intakes_left, spares_left}

-- of records, and those of them that stand
same_plan : (rs : List (List ℕ)) → SamePlan (wells_from 0 rs) (wells_from 0 (standing rs))
unfolding statement_of page count
same_plan rs =
    let ws : List Well = wells_from 0 rs in
    let e : wells_from 0 (standing rs) ≡ wells_left 0 ws = wells_left_lem 0 0 rs in
    let s : sound (wells_left 0 ws) ≡ sound ws = sound_left 0 ws (rising 0 rs) (rw e at (rising 0 (standing rs))) in
    rw e
    (record {
      same_wells = refl;
      same_soundness = s;
      same_rows = page_left ws 0 s;
      same_statement = rw (s, append-nil (rows (wells_left 0 ws)), append-nil (rows ws), page_left ws 0 s, intakes_left ws, spares_left ws);
    })

pub closed_plan : (w : World) (places claim out : List ℕ) → (call w (closing_up places claim out)).answer.number ≡ 0
    → let v = next w (closing_up places claim out) in SamePlan (wells w.n w.sheet) (wells v.n v.sheet)
unfolding wells
closed_plan w places claim out e = rw (closed_records w places claim out e) (same_plan (cut w.n w.sheet))

-- what an accepted save leaves has room for its records
left_room : (w : World) (c : Call) → (call w c).answer.number ≡ 0 → ((next w c).n ≤ most) × (record_bytes * (next w c).n ≤ length (next w c).sheet)
unfolding next left done_with
left_room w c e =
    let a = accepted_is w c e in
    let f = (proper w c).fair a.0 in
    rw a.1 (f.few, omega (arith, f.new_sheet_room, f.sheet-size))

-- so the check says sound of what is left exactly when it said it before
pub still_sound : (w : World) (places claim out : List ℕ) → (call w (closing_up places claim out)).answer.number ≡ 0
    → let v = next w (closing_up places claim out) in (verdict v.sheet v.n ≡ Sound) ↔ (verdict w.sheet w.n ≡ Sound)
still_sound w places claim out e =
    let c : Call = closing_up places claim out in
    let v : World = next w c in
    let f = (proper w c).room (accepted_is w c e).0 in
    let r = left_room w c e in
    let s : sound (wells v.n v.sheet) ≡ sound (wells w.n w.sheet) = (closed_plan w places claim out e).same_soundness in
    let told : (n : ℕ) (sheet : List ℕ) → n ≤ most → record_bytes * n ≤ length sheet → (verdict sheet n ≡ Sound) ↔ (sound (wells n sheet) ≡ true) =
    λ n sheet few room. (
      λ h. (sound_tested (wells n sheet)).1 ((sound_exactly sheet n).0 h).2,
      λ h. (sound_exactly sheet n).1 (few, room, (sound_tested (wells n sheet)).0 h),
    ) in
    let a = told v.n v.sheet r.0 r.1 in
    let b = told w.n w.sheet f.count f.sheet-room in
    (λ h. b.1 (sym s ∙ a.0 h), λ h. a.1 (s ∙ b.0 h))

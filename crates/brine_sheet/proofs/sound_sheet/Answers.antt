-- `brine_sheet::sound_sheet` meets its contract: what was sent are the page's intakes, and their bounds are those of a sound sheet.
-- Assumes nothing.
use mathlib.Core.Path.{◌≡◌, ap, ◌∙◌}
use mathlib.Core.Bool.{true}
use mathlib.Core.List.{List}
use Prim.Native.Nat.{ℕ, ◌*◌, ◌<◌, ◌≤◌}
use native.Mathlib.Omega.{arith}
use lib.ListN.{length, get_or, replicate, length-replicate}
use Rattle.plan_definition.specs.Well.{wells}
use Rattle.plan_definition.specs.Check.{sound}
use Rattle.plan_definition.proofs.Tested.{sound_tested}
use Rattle.plan_places.specs.Places.{placed}
use Rattle.brine_definition.specs.Page.{rows}
use Rattle.brine_definition.specs.Statement.{intakes}
use Rattle.brine_definition.proofs.Conserved.{sheet-most}
use Rattle.plan.specs.Sets.{count_of}
use Rattle.brine_sheet.specs.Sent.{sent_to, Added}
use Rattle.brine_sheet.proofs.Found.{Given, all_named}
use Rattle.brine_sheet.proofs.Columns.{sends_fit, sent_intakes}
use Rattle.brine_sheet.proofs.sound_sheet.Goals as goal

given : {n : ℕ} {sheet t : List ℕ} → n ≤ 1024 → 40 * n ≤ length sheet → ((i : ℕ) → get_or sheet i 0 < 256) → length t ≡ 65536
    → sound (wells n sheet) ≡ true → Given n sheet t
given few room bytes long e = record { few = few; room = room; bytes = bytes; long = long; sound = (sound_tested (wells _ _)).0 e }

-- what was sent to a list of zeros are the page's intakes
sent : {n : ℕ} {sheet t : List ℕ} → Given n sheet t → (z x p : List ℕ) → z ≡ replicate n 0 → length x ≡ length z → p ≡ placed sheet n t
    → Added (sent_to p (wells n sheet)) z x → x ≡ intakes (rows (wells n sheet))
sent {n} g z x p e l put more = sent_intakes g x (l ∙ ap length e ∙ length-replicate n _) (rw (put, e) at more)

pub send_all-requires : goal.send_all-requires
send_all-requires c =
    let g = given c.requires.0 (omega arith) (λ i. omega (arith, c.shared_slice_known-1.given i)) c.put.ensures.1 c.requires.1 in
    let long : length c.args.intake.now ≡ (count_of c.args.records.now) = ap length c.requires.2 ∙ length-replicate (count_of c.args.records.now) _ in
    (rw (c.put.ensures.0, long) (all_named g), rw (c.put.ensures.0, c.requires.2) (sends_fit g))

pub settle-requires : goal.settle-requires
settle-requires c =
    let a = c.args in
    let g = given c.requires.0 (omega arith) (λ i. omega (arith, c.shared_slice_known-1.given i)) c.put.ensures.1 c.requires.1 in
    let intake = sent g _ _ _ c.requires.2 c.send_all.auto.intake c.put.ensures.0 c.send_all.ensures in
    (c.requires.3, c.requires.1, intake, rw intake (omega (arith, sheet-most (count_of a.records.now) a.records.now, c.requires.0)))

pub returns : goal.returns
returns c =
    let g = given c.requires.0 (omega arith) (λ i. omega (arith, c.shared_slice_known-1.given i)) c.put.ensures.1 c.requires.1 in
    ((c.settle.ensures.0, sent g _ _ _ c.requires.2 c.send_all.auto.intake c.put.ensures.0 c.send_all.ensures, c.settle.ensures.1), c.put.ensures.0)

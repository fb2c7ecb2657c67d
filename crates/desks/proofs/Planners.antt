-- What two planners see who change different wells of a sheet whose marks are true: the document's sentence, over the arguments of two changes.
-- Assumes nothing.
use mathlib.Core.Path.{◌≡◌, refl, sym, ◌∙◌}
use mathlib.Core.Bool.{true}
use mathlib.Core.List.{List}
use Prim.Native.Nat.{ℕ, ◌+◌, ◌*◌, ◌≤◌}
use lib.ListN.{length}
use borrow.Author.Tests.{le-ltb}
use Rattle.definition.specs.Luffa.{bytes_at, luffa}
use Rattle.definition.specs.Buffer.{joined}
use Rattle.definition.specs.Refusal.{pick, first_of, known, width_refusal, out_refusal}
use Rattle.sheet_definition.specs.Sheet.{World, most, record_bytes, mark_words, q}
use Rattle.sheet_definition.specs.Refusals.{lengths_of, sheet_refusal, marks_refusal, build_refusals}
use Rattle.sheet_definition.specs.SheetCalls.{Call, call, changing}
use Rattle.sheet_definition.specs.Run.{left, next, list_after, applied}
use Rattle.sheet_definition.specs.Said.{Stands}
use Rattle.sheet_definition.proofs.Demand3.{stands-next, after}
use Rattle.sheet_definition.proofs.Claims.{length-luffa, change_valid, two_saves}
use Rattle.desks.specs.Desks.{handed, second, Changing, places_of, Apart, EitherOrder, Seen, Ready}
use Rattle.desks.proofs.Desks.{handed_is, still_valid, either_order}

-- an accepted save hands out Luffa of the list after it
handed-luffa : (w : World) (rs : List (List ℕ)) → Stands w rs → (c : Call) → (call w c).answer.number ≡ 0
    → handed w.code (call w c) ≡ luffa w.code (joined (list_after c.kind rs))
unfolding applied
handed-luffa w rs s c e =
    handed_is w.code (call w c) _ c.out (rw e at ((after w c rs s).digest e)) (length-luffa w.code (joined (list_after c.kind rs)))

pub seen : (w : World) (rs : List (List ℕ)) → Stands w rs → (a b : Call) → (call w a).answer.number ≡ 0 → (call w b).answer.number ≡ 0
    → Apart a.kind b.kind → Seen w rs a b
unfolding applied
seen w rs s a b ea eb p =
    let c : b.claim ≡ a.claim = ((after w b rs s).accepted.0 eb).1 ∙ sym ((after w a rs s).accepted.0 ea).1 in
    let s' : Stands (next w a) (list_after a.kind rs) = rw ea at (stands-next w a rs s) in
    let o : EitherOrder w a b = either_order w a b ea eb p in
    record {
      stale = two_saves w rs s a b c ea (still_valid w a b p.changing.0 p.changing.1 ea eb b.claim refl);
      opened_again = handed-luffa w rs s a ea;
      either_way = o;
      stands = rw o.accepted.0 at (stands-next (next w a) (second w a b) (list_after a.kind rs) s');
      digest = unfold next left in handed-luffa (next w a) (list_after a.kind rs) s' (second w a b) o.accepted.0;
    }

-- where a sheet stands at a known code, a buffer that holds a digest is all that a build would want
room_for : (w : World) (rs : List (List ℕ)) → Stands w rs → (out : List ℕ) → known w.code ≡ true → bytes_at w.code ≤ length out
    → first_of (build_refusals (lengths_of w out)) ≡ 0
unfolding build_refusals first_of pick width_refusal out_refusal sheet_refusal marks_refusal
room_for w rs s out k r =
    rw (
      k,
      le-ltb (length out) (bytes_at w.code) r,
      le-ltb most w.n s.count,
      le-ltb (length w.sheet) (record_bytes * w.n) s.sheet-room,
      le-ltb (length w.marks) (mark_words * (q w.n + 1)) s.marks-room,
    )

-- a change with the digest of the list as its claim
module _ (w : World) (rs : List (List ℕ)) (s : Stands w rs) where
  abbrev pub change_by : (place : ℕ) → (x out : List ℕ) → Call
  change_by place x out = changing place x (luffa w.code (joined rs)) out

  pub ready_done : (place : ℕ) (x out : List ℕ) → Ready w place x out → (call w (change_by place x out)).answer.number ≡ 0
  ready_done place x out r =
      (after w (change_by place x out) rs s).accepted.1
      (change_valid w place x (luffa w.code (joined rs)) out (room_for w rs s out r.known-code r.room) r.held r.sized (length-luffa w.code (joined rs)), refl)

  -- both, at different places
  module _ (i j : ℕ) (x y out out' : List ℕ) (a : Ready w i x out) (b : Ready w j y out') (d : i ≡ j → ⊥) where
    apart : Apart (change_by i x out).kind (change_by j y out').kind
    unfolding Changing places_of
    apart = record { changing = (tt, tt); different = ((d, tt), tt) }

    -- "From true marks and at one code, two accepted changes at different places, each with the claim right at its time, must be shown to leave the
    -- same sheet, marks, final digest and round total in either order."
    pub two_desks : EitherOrder w (change_by i x out) (change_by j y out')
    two_desks = either_order w _ _ (ready_done i x out a) (ready_done j y out' b) apart

    pub two_planners : Seen w rs (change_by i x out) (change_by j y out')
    two_planners = seen w rs s _ _ (ready_done i x out a) (ready_done j y out' b) apart

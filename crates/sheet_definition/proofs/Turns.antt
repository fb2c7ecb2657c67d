-- A batch is its changes saved one by one, each with the claim right at its time: the same sheet, marks and digest, from true marks or false, in no
-- more rounds.
-- Assumes nothing.
use mathlib.Core.Path.{◌≡◌, refl, sym, ap, subst, ◌∙◌}
use mathlib.Core.Bool.{true, not}
use mathlib.Core.List.{List, [], ◌∷◌}
use Prim.Native.Nat.{ℕ, ◌*◌, ◌<◌, ◌≤◌}
use native.Mathlib.Nat.{le_refl, zero-add}
use native.Mathlib.Omega.{arith}
use lib.ListN.{length, take, drop}
use lib.Dec.{ltb}
use borrow.Author.Tests.{ltb-true}
use Rattle.definition.specs.Luffa.{bytes_at}
use Rattle.definition.specs.Buffer.{overwrite_at, overwrite}
use Rattle.definition.specs.Refusal.{pick, first_of, rising}
use Rattle.definition.proofs.Buffer.{length-overwrite_at}
use Rattle.definition.proofs.Conditions.{both_true}
use Rattle.definition.proofs.Refusals.{in_turn_lem, first_done}
use Rattle.sheet_definition.specs.Sheet.{World, record_bytes, group_bytes, q, check_rounds}
use Rattle.sheet_definition.specs.Refusals.{lengths_of, build_refusals, batch_refusals}
use Rattle.sheet_definition.specs.Marks.{Worked, worked}
use Rattle.sheet_definition.specs.Save.{done_with, checked, stale_claim, reworked, rounds_before, save_rounds}
use Rattle.sheet_definition.specs.SheetCalls.{Call, refusals_of, one_record, written_at, lowest, some, many_records, edit_of, save_of, call, batching}
use Rattle.sheet_definition.specs.SheetCalls.Kind.{Change, Batch}
use Rattle.sheet_definition.specs.Run.{left, next, run, list_after, in_turn}
use Rattle.sheet_definition.specs.Turns.{changes_of, list_after_all, rightly, one_by_one, AllDone, rounds_of_all, last_out, AsOneByOne}
use Rattle.sheet_definition.proofs.Writes.{same_refl, check_leaves, length-digest, rewritten}
use Rattle.sheet_definition.proofs.Sheet.{check_from_last_mark}
use Rattle.sheet_definition.proofs.Marks.{rounds_from_mark}
use Rattle.sheet_definition.proofs.Outcomes.{accepted, done_is}
use Rattle.sheet_definition.proofs.Refused.{Fits, built_numbered, built_fits}
use Rattle.sheet_definition.proofs.Many.{Below, first_sized}
use Rattle.sheet_definition.proofs.Fair.{Fair, groups_stay}
use Rattle.sheet_definition.proofs.Saves.{save-rounds}
use Rattle.sheet_definition.proofs.Edits.{many_fair, proper, Many, many}
use Rattle.sheet_definition.proofs.Claims.{accepted_is, change_valid}
use Rattle.sheet_definition.proofs.Again.{again_marks, again_digest}

-- "Demand 3 reads a batch as its changes in turn"
pub read_in_turn : (places x : List ℕ) (rs : List (List ℕ)) → list_after (Batch places x) rs ≡ list_after_all (changes_of places x) rs
unfolding list_after in_turn changes_of list_after_all
read_in_turn [] x rs = refl
read_in_turn (p ∷ ps) x rs = read_in_turn ps (drop record_bytes x) _

-- a build would have room
abbrev Room : World → (out : List ℕ) → Type 0
Room w out = first_of (build_refusals (lengths_of w out)) ≡ 0

-- what a change leaves, and work over a sheet from the mark of a place
abbrev worked_at : World → (sheet : List ℕ) → (place : ℕ) → Worked
worked_at w sheet place = worked w.code w.n sheet w.marks (q place)

abbrev leaving : World → (sheet : List ℕ) → (place : ℕ) → World
leaving w sheet place = record { code = w.code; n = w.n; sheet = sheet; marks = (worked_at w sheet place).marks }

-- a change with the right claim is done
module _ (w : World) (p : ℕ) (x out : List ℕ) (b : Room w out) (h : p < w.n) (e : length x ≡ record_bytes) where
  abbrev c : Call
  c = rightly w (Change p x) out

  right_done : call w c ≡ accepted w (save_of w c)
  unfolding call rightly save_of stale_claim
  right_done =
      let d : List ℕ = (checked w).digest in
      let k : length d ≡ bytes_at w.code = unfold checked in length-digest w.code w.n (q w.n) w.sheet w.marks in
      sym (done_is w (save_of w c) (sym (change_valid w p x d out b h e k)) refl (ap not (same_refl d)))

  right_next : next w c ≡ leaving w (overwrite_at (record_bytes * p) x w.sheet) p
  unfolding next left done_with save_of edit_of one_record reworked rightly
  right_next = rw right_done

  right_out : (call w c).out ≡ overwrite (worked_at w (overwrite_at (record_bytes * p) x w.sheet) p).digest out
  unfolding done_with save_of edit_of one_record reworked rightly
  right_out = rw right_done

  right_number : (call w c).answer.number ≡ 0
  unfolding done_with
  right_number = rw right_done

-- changes from place p on, saved one by one
pub record Turned (w : World) (p : ℕ) (ps x out : List ℕ) : Type 0 where
  pub all_done : AllDone w (one_by_one w (changes_of (p ∷ ps) x) out)
  pub world : run w (one_by_one w (changes_of (p ∷ ps) x) out) ≡ leaving w (written_at (p ∷ ps) x w.sheet) p
  pub digest : (o : List ℕ) → last_out w (one_by_one w (changes_of (p ∷ ps) x) out) o ≡ overwrite (worked_at w (written_at (p ∷ ps) x w.sheet) p).digest out

turned : (w : World) (p : ℕ) (ps x out : List ℕ) → Room w out → rising (p ∷ ps) ≡ true → Below w.n (p ∷ ps)
    → length x ≡ record_bytes * length (p ∷ ps) → Turned w p ps x out
unfolding one_by_one changes_of AllDone run last_out written_at many_records lowest
turned w p [] x out b u h e =
    let f = first_sized p [] x e in
    record {
      all_done = (right_number w p (take record_bytes x) out b h.0 f.0, tt);
      world = right_next w p (take record_bytes x) out b h.0 f.0;
      digest = λ o. right_out w p (take record_bytes x) out b h.0 f.0;
    }
turned w p (r ∷ rs) x out b u h e =
    let f = first_sized p (r ∷ rs) x e in
    let fit : Fits w out = built_fits w out b in
    let y : List ℕ = take record_bytes x in
    let y' : List ℕ = drop record_bytes x in
    let s : List ℕ = overwrite_at (record_bytes * p) y w.sheet in
    let s' : List ℕ = written_at (r ∷ rs) y' s in
    let c : Call = rightly w (Change p y) out in
    let after : World → List Call = λ (u : World). one_by_one u (changes_of (r ∷ rs) y') out in
    let v : World = leaving w s p in
    let n : next w c ≡ v = right_next w p y out b h.0 f.0 in
    let i : (ltb p r ≡ true) × (rising (r ∷ rs) ≡ true) = unfold rising in both_true (ltb p r) (rising (r ∷ rs)) u in
    let d : p < r = ltb-true p r i.0 in
    let k : length s ≡ length w.sheet = length-overwrite_at (record_bytes * p) y w.sheet (omega (arith, f.0, h.0, fit.sheet-room)) in
    let z : length v.marks ≡ length w.marks = (rewritten w.code w.n (q p) s w.marks (unfold q in omega (arith, h.0)) fit.marks-room).size in
    let room' : Room v out = rw (k, z) b in
    let t : Turned v r rs y' out = turned v r rs y' out room' i.1 h.1 f.1 in
    let a : Fair v (many_records v (r ∷ rs) y') = many_fair v (r ∷ rs) y' out (built_fits v out room') i.1 h.1 f.1 in
    let k' : length s' ≡ length s = a.sheet-size in
    let g : take (group_bytes * q r) s' ≡ take (group_bytes * q r) s = groups_stay v (many_records v (r ∷ rs) y') a in
    let j : q p ≤ q r = unfold q in omega arith in
    let l : q r ≤ q w.n = unfold q in omega (arith, h.1.0) in
    let m : record_bytes * w.n ≤ length s = omega (arith, fit.sheet-room) in
    let m' : record_bytes * w.n ≤ length s' = omega (arith, k') in
    record {
      all_done = (right_number w p y out b h.0 f.0, subst (λ (u : World). AllDone u (after u)) (sym n) t.all_done);
      world =
          subst (λ (u : World). run u (after u) ≡ leaving w s' p) (sym n)
          (t.world
          ∙ ap (λ (ms : List ℕ). record { code = w.code; n = w.n; sheet = s'; marks = ms })
          (again_marks w.code w.n (q p) (q r) s' s w.marks j l m' m fit.marks-room g));
      digest = λ o. subst (λ (u : World). last_out u (after u) (call w c).out ≡ overwrite (worked_at w s' p).digest out) (sym n)
          (t.digest (call w c).out
          ∙ ap (λ (d : List ℕ). overwrite d out) (again_digest w.code w.n (q p) (q r) s' s w.marks j l m' m fit.marks-room g));
    }

-- no rounds after the last
none_left : (w : World) (ps x out : List ℕ) → length ps ≡ 0 → rounds_of_all w (one_by_one w (changes_of ps x) out) ≡ 0
unfolding rounds_of_all one_by_one changes_of
none_left w [] x out e = refl
none_left w (p ∷ ps) x out e = absurd (omega arith)

-- an accepted batch of one or more leaves what its changes leave one by one, in no more rounds, and one change in as many
module _ (w : World) (p : ℕ) (ps x claim out : List ℕ) (e : (call w (batching (p ∷ ps) x claim out)).answer.number ≡ 0) where
  abbrev batch : Call
  batch = batching (p ∷ ps) x claim out

  abbrev first : Call
  first = rightly w (Change p (take record_bytes x)) out

  valid : first_of (save_of w batch).refusals ≡ 0
  valid = (accepted_is w batch e).0

  room : Room w out
  unfolding save_of refusals_of batch_refusals
  room = first_done _ _ (in_turn_lem (build_refusals (lengths_of w out)) _ (built_numbered (lengths_of w out)) ∙ valid)

  all : Many w batch (p ∷ ps) x
  unfolding save_of
  all = many w batch (p ∷ ps) x valid

  turns : Turned w p ps x out
  turns = turned w p ps x out room all.rise all.below all.sizes

  -- the rounds of the batch are those of its first change
  first_rounds : (call w batch).answer.rounds ≡ (call w first).answer.rounds
  unfolding call save_rounds save_of edit_of many_records one_record lowest some rightly
  first_rounds =
      (save-rounds w (save_of w batch) (proper w batch)).when_done_lem e
      ∙ sym ((save-rounds w (save_of w first) (proper w first)).when_done_lem (unfold AllDone one_by_one changes_of in turns.all_done.0))

  pub as_one_by_one : AsOneByOne w (p ∷ ps) x claim out
  unfolding next left done_with save_of edit_of many_records lowest reworked one_by_one changes_of rounds_of_all
  as_one_by_one =
      record {
        all_done = turns.all_done;
        same_world = turns.world ∙ rw (accepted_is w batch e).1;
        same_digest = turns.digest out ∙ rw (accepted_is w batch e).1;
        no_more_rounds = omega (arith, first_rounds);
        as_many_for_one = λ z. omega (arith, first_rounds, none_left (next w first) ps (drop record_bytes x) out (omega arith));
      }

-- "An empty set only checks the claim, answers the digest held and costs r + 1 + F.": an accepted one leaves sheet and marks, from true marks or false
pub empty_set : (w : World) (x claim out : List ℕ) → (call w (batching [] x claim out)).answer.number ≡ 0
    → call w (batching [] x claim out)
    ≡ record { answer = record { number = 0; count = w.n; rounds = check_rounds w.code w.n }; sheet = w.sheet; marks = w.marks; out = overwrite (checked w).digest out }
unfolding done_with save_of edit_of many_records lowest some written_at reworked rounds_before pick checked
empty_set w x claim out e =
    let c : Call = batching [] x claim out in
    let a = accepted_is w c e in
    let f = (proper w c).room a.0 in
    a.1
    ∙ rw (
      check_leaves w.code w.n w.sheet w.marks,
      rounds_from_mark w.code w.n (q w.n) w.sheet w.marks (le_refl (q w.n)) f.sheet-room,
      check_from_last_mark w.code w.n,
      zero-add,
    )

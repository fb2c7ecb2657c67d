-- What a claim is worth: a record saved as it is, a change taken back, and two saves with one claim.
-- Assumes nothing.
use mathlib.Core.Path.{◌≡◌, refl, sym, ap, ap₂, ◌∙◌}
use mathlib.Core.List.{List}
use Prim.Native.Nat.{ℕ, ◌+◌, ◌*◌, ◌<◌}
use native.Mathlib.Omega.{arith}
use lib.ListN.{length, take, drop, length-drop}
use lib.Seq.{length-take-le}
use borrow.Author.Tests.{eq-eqb, lt-leb}
use Rattle.definition.specs.Luffa.{words_at, bytes_at, output_of_bits, luffa_output, luffa_of_bits, luffa}
use Rattle.definition.specs.Buffer.{joined}
use Rattle.definition.specs.Refusal.{pick, first_of}
use Rattle.sheet_definition.specs.Sheet.{World, record_bytes}
use Rattle.sheet_definition.specs.Refusals.{lengths_of, place_refusal, size_refusal, claim_refusal, build_refusals, change_refusals}
use Rattle.sheet_definition.specs.Marks.{held, TrueMarks}
use Rattle.sheet_definition.specs.Save.{refused_with, done_with}
use Rattle.sheet_definition.specs.SheetCalls.{Call, refusals_of, one_record, edit_of, save_of, call, changing}
use Rattle.sheet_definition.specs.Run.{left, next, applied}
use Rattle.sheet_definition.specs.Said.{Stale, Stands, Untouched, Stays, After, Restored}
use Rattle.definition.proofs.Output.{length-output}
use Rattle.definition.proofs.Refusals.{rest-given}
use Rattle.sheet_definition.proofs.Writes.{put_back}
use Rattle.sheet_definition.proofs.Outcomes.{stale-answers, accepted, by_answer}
use Rattle.sheet_definition.proofs.Refused.{Fits, built_numbered, built_fits}
use Rattle.sheet_definition.proofs.Saves.{save-stays, save_made, save-accepted}
use Rattle.sheet_definition.proofs.Edits.{proper}
use Rattle.sheet_definition.proofs.Demand3.{stands-next, after}

-- an accepted save's outcome, and that its other arguments are valid
pub accepted_is : (w : World) (c : Call) → (call w c).answer.number ≡ 0
    → (first_of (save_of w c).refusals ≡ 0) × (call w c ≡ accepted w (save_of w c))
unfolding call refused_with
accepted_is w c =
    by_answer w (save_of w c) (λ o. o.answer.number ≡ 0 → (first_of (save_of w c).refusals ≡ 0) × (o ≡ accepted w (save_of w c)))
    (λ k e h. absurd (omega arith)) (λ e t h. absurd (stale-answers (proper w c).answered h)) (λ e t h. (e, refl))

-- the 40 bytes of a sheet that the one held differs from in them at most, put in their place
restores : (w : World) (n : ℕ) (sheet : List ℕ) (place : ℕ) (claim out : List ℕ) → TrueMarks w
    → w.n ≡ n → length w.sheet ≡ length sheet → take (record_bytes * place) w.sheet ≡ take (record_bytes * place) sheet
    → drop (record_bytes * (place + 1)) w.sheet ≡ drop (record_bytes * (place + 1)) sheet
    → (call w (changing place (take record_bytes (drop (record_bytes * place) sheet)) claim out)).answer.number ≡ 0
    → Restored w.code n sheet out (call w (changing place (take record_bytes (drop (record_bytes * place) sheet)) claim out))
unfolding done_with save_of edit_of one_record call
restores w n sheet place claim out t m l f b e =
    let c : Call = changing place (take record_bytes (drop (record_bytes * place) sheet)) claim out in
    let a = accepted_is w c e in
    let i : record_bytes * (place + 1) ≡ record_bytes * place + record_bytes = omega arith in
    let r = (proper w c).fair a.0 in
    let s : (call w c).sheet ≡ sheet = rw a.1 (put_back (record_bytes * place) record_bytes w.sheet sheet (omega (arith, r.past-held, r.new_sheet_room)) f (rw i at b)) in
    let k : (call w c).answer.count ≡ n = rw a.1 m in
    record {
      sheet_again = s;
      digest_again = (save_made w (save_of w c) (proper w c) t e).digest ∙ rw (k, s);
    }

-- a digest has the length that its code names
pub length-luffa : (code : ℕ) (m : List ℕ) → length (luffa code m) ≡ bytes_at code
unfolding luffa luffa_of_bits luffa_output output_of_bits bytes_at
length-luffa code m = length-output code (words_at code) _

-- the arguments of a change are valid where a build's are, at a place of the sheet, with a record and a claim of the right length
pub change_valid : (w : World) (place : ℕ) (x claim out : List ℕ) → first_of (build_refusals (lengths_of w out)) ≡ 0 → place < w.n
    → length x ≡ record_bytes → length claim ≡ bytes_at w.code → first_of (save_of w (changing place x claim out)).refusals ≡ 0
unfolding save_of refusals_of change_refusals first_of pick place_refusal size_refusal claim_refusal
change_valid w place x claim out b h n k =
    rest-given (build_refusals (lengths_of w out)) _ (built_numbered (lengths_of w out)) (sym b) refl
    ∙ rw (lt-leb w.n place h, eq-eqb (length x) record_bytes n, eq-eqb (length claim) (bytes_at w.code) k)

-- "A saved record equal to the old one is accepted and gives the same digest.": where a build would be, at a place of the sheet, with the digest
-- of the sheet held
pub change_same : (w : World) (place : ℕ) (claim out : List ℕ) → TrueMarks w → first_of (build_refusals (lengths_of w out)) ≡ 0
    → place < w.n → claim ≡ luffa w.code (held w.n w.sheet)
    → ((call w (changing place (take record_bytes (drop (record_bytes * place) w.sheet)) claim out)).answer.number ≡ 0)
    × Restored w.code w.n w.sheet out (call w (changing place (take record_bytes (drop (record_bytes * place) w.sheet)) claim out))
unfolding call
change_same w place claim out t b h d =
    let e = (save-accepted w (save_of w c) (proper w c) t).1 (valid, unfold save_of in d) in
    (e, restores w w.n w.sheet place claim out t refl refl refl refl e)
  where
    x : List ℕ
    x = take record_bytes (drop (record_bytes * place) w.sheet)

    c : Call
    c = changing place x claim out

    valid : first_of (save_of w c).refusals ≡ 0
    valid =
        let f : Fits w out = built_fits w out b in
        change_valid w place x claim out b h (length-take-le record_bytes (drop (record_bytes * place) w.sheet) (omega (arith, length-drop (record_bytes * place) w.sheet, f.sheet-room)))
        (ap length d ∙ length-luffa w.code (held w.n w.sheet))

-- a record changed and changed back: the old sheet and its old digest
pub change-back : (w : World) (place : ℕ) (x claim out claim' out' : List ℕ) → TrueMarks w
    → (call w (changing place x claim out)).answer.number ≡ 0
    → (call (next w (changing place x claim out)) (changing place (take record_bytes (drop (record_bytes * place) w.sheet)) claim' out')).answer.number ≡ 0
    → Restored w.code w.n w.sheet out'
    (call (next w (changing place x claim out)) (changing place (take record_bytes (drop (record_bytes * place) w.sheet)) claim' out'))
unfolding done_with next left save_of edit_of one_record call
change-back w place x claim out claim' out' t e e' =
    let c : Call = changing place x claim out in
    let n : (call w c).answer.count ≡ w.n = rw (accepted_is w c e).1 in
    let k : Stays w (save_of w c).edit out (call w c) = save-stays w (save_of w c) (proper w c) in
    restores (next w c) w.n w.sheet place claim' out' (save_made w (save_of w c) (proper w c) t e).marks_true n
    k.sheet-size k.sheet-before k.sheet_behind e'

-- two saves that claim the same digest: when the first is accepted and the second is valid in its other arguments, the second is answered as stale
-- and the sheet and marks are still the first's, unless the lists before and after the first have one digest
pub two_saves : (w : World) (rs : List (List ℕ)) → Stands w rs → (c d : Call) → d.claim ≡ c.claim → (call w c).answer.number ≡ 0
    → first_of (save_of (next w c) d).refusals ≡ 0
    → (luffa w.code (joined rs) ≡ luffa w.code (joined (applied 0 rs c)) → ⊥)
    → Stale (call (next w c) d).answer.number × Untouched (next w c) d.out (call (next w c) d)
unfolding next left
two_saves w rs s c d e a v f =
    let s' : Stands (next w c) (applied 0 rs c) = rw a at (stands-next w c rs s) in
    let o : After (next w c) d (applied 0 rs c) = after (next w c) d (applied 0 rs c) s' in
    let t : Stale (call (next w c) d).answer.number = o.stale.1 (v, λ g. f (sym ((after w c rs s).accepted.0 a).1 ∙ sym e ∙ g)) in
    (t, o.refused (stale-answers t))

-- a claim speaks of content: after a change and a change back to the old record the old digest is a good claim again
pub old_claim : (w : World) (rs : List (List ℕ)) → Stands w rs → (place : ℕ) (x claim out claim' out' : List ℕ) (d : Call)
    → (call w (changing place x claim out)).answer.number ≡ 0
    → (call (next w (changing place x claim out)) (changing place (take record_bytes (drop (record_bytes * place) w.sheet)) claim' out')).answer.number ≡ 0
    → first_of (save_of (next (next w (changing place x claim out)) (changing place (take record_bytes (drop (record_bytes * place) w.sheet)) claim' out')) d).refusals ≡ 0
    → d.claim ≡ luffa w.code (joined rs)
    → (call (next (next w (changing place x claim out)) (changing place (take record_bytes (drop (record_bytes * place) w.sheet)) claim' out')) d).answer.number ≡ 0
unfolding next left call done_with save_of edit_of one_record
old_claim w rs s place x claim out claim' out' d a b v e =
    let c : Call = changing place x claim out in
    let c' : Call = changing place (take record_bytes (drop (record_bytes * place) w.sheet)) claim' out' in
    let w' : World = next (next w c) c' in
    let s' : Stands (next w c) (applied 0 rs c) = rw a at (stands-next w c rs s) in
    let s'' : Stands w' (applied 0 (applied 0 rs c) c') = rw b at (stands-next (next w c) c' (applied 0 rs c) s') in
    let n : w'.n ≡ w.n = rw ((accepted_is (next w c) c' b).1, (accepted_is w c a).1) in
    let h : held w'.n w'.sheet ≡ joined rs =
    ap₂ held n (change-back w place x claim out claim' out' s.marks_true a b).sheet_again ∙ s.holds in
    (save-accepted w' (save_of w' d) (proper w' d) s''.marks_true).1 (v, e ∙ ap (luffa w.code) (sym h))

-- Demand 3 over any run of saves, each with any arguments: after every call the marks are true and the sheet is the plain list of records, the
-- digest handed out is Luffa of that list, and a claim is refused as stale exactly when it isn't Luffa of the list as it stood.
-- Assumes nothing.
use mathlib.Core.Path.{◌≡◌, refl, sym, ap, ◌∙◌}
use mathlib.Core.List.{List, [], ◌∷◌}
use Prim.Native.Nat.{ℕ, zero, suc, ◌+◌}
use native.Mathlib.Omega.{arith}
use Rattle.definition.specs.Luffa.{luffa}
use Rattle.definition.specs.Buffer.{overwrite}
use Rattle.definition.specs.Refusal.{first_of}
use Rattle.sheet_definition.specs.Sheet.{World, q, cut}
use Rattle.sheet_definition.specs.Marks.{held}
use Rattle.sheet_definition.specs.Save.{refused_with, done_with}
use Rattle.sheet_definition.specs.SheetCalls.{Call, stale_number_of, save_of, call}
use Rattle.sheet_definition.specs.Run.{left, next, run, applied, records}
use Rattle.sheet_definition.specs.Said.{Stale, Stands, Laid, Stays, After}
use Rattle.sheet_definition.proofs.Outcomes.{stale-answers, accepted, by_answer, given, refused_untouched}
use Rattle.sheet_definition.proofs.Saves.{Made, save-rounds, save-stays, save-marks, past-stays, built_true, save_made, save_built, save-freed, save-accepted, save-stale}
use Rattle.sheet_definition.proofs.Edits.{before-own, proper, listed}
use Rattle.sheet_definition.proofs.Joined.{length_cut, forty_cut, joined-cut}

-- a stale save leaves the list
not_applied : (k : ℕ) (rs : List (List ℕ)) (c : Call) → Stale k → applied k rs c ≡ rs
unfolding applied
not_applied zero rs c t = absurd (stale-answers t refl)
not_applied (suc k) rs c t = refl

-- a call leaves a world that stands for the list that it leaves
pub stands-next : (w : World) (c : Call) (rs : List (List ℕ)) → Stands w rs → Stands (next w c) (applied (call w c).answer.number rs c)
unfolding next left applied call save_of done_with refused_with
stands-next w c rs s =
    by_answer w (save_of w c)
    (λ o. Stays w (save_of w c).edit c.out o → (o.answer.number ≡ 0 → Made w.code (q (save_of w c).edit.first + 1) c.out o)
    → Stands (left w.code o) (applied o.answer.number rs c))
    (λ k e d m. s) (λ e t d m. rw (not_applied (stale_number_of w c.own) rs c (proper w c).answered) s) (λ e t d m. made e d (m refl))
    (save-stays w (save_of w c) (proper w c)) (save_made w (save_of w c) (proper w c) s.marks_true)
  where
    made : first_of (save_of w c).refusals ≡ 0 → Stays w (save_of w c).edit c.out (accepted w (save_of w c))
        → Made w.code (q (save_of w c).edit.first + 1) c.out (accepted w (save_of w c))
        → Stands (left w.code (accepted w (save_of w c))) (applied 0 rs c)
    made e d m =
        let r = listed w c c.kind rs s (before-own w c e) in
        let f = (proper w c).fair e in
        record {
          sized = r.sized;
          counted = r.counted;
          holds = r.holds;
          marks_true = m.marks_true;
          count = f.few;
          sheet-room = omega (arith, f.new_sheet_room, d.sheet-size);
          marks-room = omega (arith, f.new_marks_room, d.marks-size);
        }

-- where the marks are laid the world stands for the sheet cut into records
pub stands_laid : (w : World) → Laid w → Stands w (cut w.n w.sheet)
unfolding held
stands_laid w l =
    record {
      sized = forty_cut w.n w.sheet l.sheet-room;
      counted = length_cut w.n w.sheet;
      holds = sym (joined-cut w.n w.sheet);
      marks_true = built_true w l.written;
      count = l.count;
      sheet-room = l.sheet-room;
      marks-room = l.marks-room;
    }

-- and after every call, whatever its answer, they are laid
pub laid_next : (w : World) (c : Call) → Laid w → Laid (next w c)
unfolding next left call
laid_next w c l =
    let s = stands-next w c (cut w.n w.sheet) (stands_laid w l) in
    record {
      known-code = l.known-code;
      count = s.count;
      sheet-room = s.sheet-room;
      marks-room = s.marks-room;
      written = save_built w (save_of w c) (proper w c) l.written;
    }

pub laid_run : (w : World) → Laid w → (cs : List Call) → Laid (run w cs)
unfolding run
laid_run w l [] = l
laid_run w l (c ∷ cs) = laid_run (next w c) (laid_next w c l) cs

-- what one call does
pub after : (w : World) (c : Call) (rs : List (List ℕ)) → Stands w rs → After w c rs
unfolding next left call save_of
after w c rs s =
    let p = proper w c in
    let s' : Stands (next w c) (applied (call w c).answer.number rs c) = stands-next w c rs s in
    record {
      stands = s';
      digest = λ e. (save_made w (save_of w c) p s.marks_true e).digest ∙ ap (λ (l : List ℕ). overwrite (luffa w.code l) c.out) s'.holds;
      written = λ e. (save_made w (save_of w c) p s.marks_true e).written;
      freed = save-freed w (save_of w c) p;
      as_built = save_built w (save_of w c) p;
      accepted = rw s.holds at (save-accepted w (save_of w c) p s.marks_true);
      stale = rw s.holds at (save-stale w (save_of w c) p s.marks_true);
      given = given w (save_of w c) p.numbered p.earlier p.answered;
      refused = refused_untouched w (save_of w c) p.numbered p.earlier p.answered;
      stays = save-stays w (save_of w c) p;
      marks_stay = save-marks w (save_of w c) p;
      past-stays = past-stays w (save_of w c) p;
      rounds = save-rounds w (save_of w c) p;
    }

-- Demand 3: from a world that stands for a list of records, in any run of saves, each call does what After says
pub demand3 : (w : World) (rs : List (List ℕ)) → Stands w rs → (cs : List Call) (c : Call) → After (run w cs) c (records w rs cs)
unfolding run records
demand3 w rs s [] c = after w c rs s
demand3 w rs s (d ∷ cs) c = demand3 (next w d) (applied (call w d).answer.number rs d) (stands-next w d rs s) cs c

-- and so where the marks are laid, with the sheet's own records
pub demand3_laid : (w : World) → Laid w → (cs : List Call) (c : Call) → After (run w cs) c (records w (cut w.n w.sheet) cs)
demand3_laid w l = demand3 w (cut w.n w.sheet) (stands_laid w l)

-- Each kind of save is proper, and makes of the plain list of records what document 01 says.
-- Assumes nothing.
use mathlib.Core.Path.{◌≡◌, refl, sym, ◌∙◌}
use mathlib.Core.Bool.{true, false≢true}
use mathlib.Core.List.{List, [], ◌∷◌, append-nil}
use Prim.Native.Nat.{ℕ, ◌+◌, ◌-◌, ◌*◌, ◌<◌, ◌≤◌}
use native.Mathlib.Omega.{arith}
use lib.ListN.{length, replicate, length-append, length-replicate}
use lib.Seq.{length-take-le, take-take}
use Rattle.definition.specs.Luffa.{bytes_at}
use Rattle.definition.specs.Buffer.{Every, joined}
use Rattle.definition.specs.Refusal.{Refusal, PLACE, FULL, SIZE, CLAIM, SET, first_of, condition_of, rising}
use Rattle.sheet_definition.specs.Sheet.{World, record_bytes, q}
use Rattle.sheet_definition.specs.declared.Found.{Found}
use Rattle.sheet_definition.specs.declared.Found.TheVariants.{Same, Group}
use Rattle.sheet_definition.specs.Own.{Own, own_refusal, with_own, stale_as, stale}
use Rattle.sheet_definition.specs.Own.Own.{None, Brought}
use Rattle.sheet_definition.specs.Refusals.{lengths_of, claim_refusal, most_changes}
use Rattle.sheet_definition.specs.Marks.{held}
use Rattle.sheet_definition.specs.SheetCalls.{Kind, Call, comparing, stale_number_of, refusals_of, one_record, past_last, lowest, past_highest, many_records, edit_of, save_of}
use Rattle.sheet_definition.specs.SheetCalls.Kind.{Change, Append, Drop, Batch, CloseUp}
use Rattle.sheet_definition.specs.Run.{list_after}
use Rattle.sheet_definition.specs.Said.{Stale, Stands}
use Rattle.definition.proofs.Every.{every_take, every_append}
use Rattle.definition.proofs.Buffer.{take-overwrite_at}
use Rattle.definition.proofs.Refusals.{Numbered, fails, in_turn_lem, first_done}
use Rattle.sheet_definition.proofs.Joined.{Listed, listed_by, listed-set, joined-append, joined-take, take-added}
use Rattle.sheet_definition.proofs.Many.{Below, none_past, within, lowest-held, highest_held, kept, listed_in_turn}
use Rattle.sheet_definition.proofs.Refused.{Fits, fits, place-held, one_more, set_rises, records-sized, claim-sized, judging}
use Rattle.sheet_definition.proofs.Freed.{zeroed, past_last_lem}
use Rattle.sheet_definition.proofs.Fair.{Fair, Proper, one_fair}
use Rattle.sheet_definition.proofs.Closed.{closed_fair, closed_listed}

-- many records written at places that rise
pub many_fair : (w : World) (places x out : List ℕ) → Fits w out → rising places ≡ true → Below w.n places
    → length x ≡ record_bytes * length places → Fair w (many_records w places x)
unfolding many_records
many_fair w places x out f u b e =
    let h : past_highest w.n places ≤ w.n = highest_held w.n w.n places (omega arith) b in
    let k = kept (lowest w.n places) (past_highest w.n places) places x w.sheet (within w.n places u) (omega (arith, f.sheet-room)) e in
    record {
      sheet-size = k.size;
      before = k.before;
      behind = k.behind;
      first_held = lowest-held w.n places b;
      first_left = lowest-held w.n places b;
      past-held = omega arith;
      few = f.count;
      new_sheet_room = f.sheet-room;
      new_marks_room = f.marks-room;
      marks = search;
      bytes-freed = λ k i j. absurd (omega arith);
      words-freed = λ m i j. absurd (omega arith);
    }

-- the refusal of a planner's own marks comes after the others, and its number is neither 0 nor a stale claim's
own_numbered : (code : ℕ) (o : Own) (rs : List Refusal) → Numbered rs → Numbered (with_own code o rs)
unfolding own_refusal
own_numbered code None rs h = h
own_numbered code (Brought n marks) rs h = every_append _ rs _ h (omega arith)

own_earlier : (code : ℕ) (o : Own) (rs : List Refusal) → Every (λ x. Stale x.0 → ⊥) rs → Every (λ x. Stale x.0 → ⊥) (with_own code o rs)
unfolding own_refusal stale
own_earlier code None rs h = h
own_earlier code (Brought n marks) rs h = every_append _ rs _ h (search false≢true)

own-front : (code : ℕ) (o : Own) (rs : List Refusal) → Numbered rs → first_of (with_own code o rs) ≡ 0 → first_of rs ≡ 0
own-front code None rs h e = e
own-front code (Brought n marks) rs h e = first_done (first_of rs) _ (in_turn_lem rs (own_refusal code n marks ∷ []) h ∙ e)

-- and what answers a stale claim is a stale claim's number
found-stale : (f : Found) → Stale (stale_as f)
unfolding stale_as stale
found-stale Same = refl
found-stale (Group g) = refl

stale_answered : (w : World) (o : Own) → Stale (stale_number_of w o)
unfolding stale
stale_answered w None = refl
stale_answered w (Brought n marks) = found-stale (comparing w (Brought n marks)).found

-- every save's refusals begin with those of a build and end with the claim's length
module _ (w : World) (c : Call) where
  abbrev refusals : Kind → List Refusal
  refusals k = refusals_of (lengths_of w c.out) (length c.claim) k

  pub numbered : (k : Kind) → Numbered (refusals k)
  unfolding judging
  numbered (Change place x) = omega arith
  numbered (Append x) = omega arith
  numbered Drop = omega arith
  numbered (Batch places x) = omega arith
  numbered (CloseUp places) = omega arith

  earlier : (k : Kind) → Every (λ x. Stale x.0 → ⊥) (refusals k)
  unfolding judging stale
  earlier (Change place x) = search false≢true
  earlier (Append x) = search false≢true
  earlier Drop = search false≢true
  earlier (Batch places x) = search false≢true
  earlier (CloseUp places) = search false≢true

  pub room : (k : Kind) → first_of (refusals k) ≡ 0 → Fits w c.out
  unfolding judging
  room (Change place x) e = fits w c.out _ (numbered (Change place x)) e
  room (Append x) e = fits w c.out _ (numbered (Append x)) e
  room Drop e = fits w c.out _ (numbered Drop) e
  room (Batch places x) e = fits w c.out _ (numbered (Batch places x)) e
  room (CloseUp places) e = fits w c.out _ (numbered (CloseUp places)) e

  claimed : (k : Kind) → condition_of CLAIM (refusals k) ≡ (claim_refusal (bytes_at w.code) (length c.claim)).1
  unfolding judging
  claimed (Change place x) = refl
  claimed (Append x) = refl
  claimed Drop = refl
  claimed (Batch places x) = refl
  claimed (CloseUp places) = refl

  -- a new record has its size
  module _ (x : List ℕ) where
    pub change-size : (place : ℕ) → first_of (refusals (Change place x)) ≡ 0 → length x ≡ record_bytes
    unfolding judging
    change-size place e = records-sized 1 (length x) (fails (refusals (Change place x)) (numbered (Change place x)) e SIZE)

    pub append-size : first_of (refusals (Append x)) ≡ 0 → length x ≡ record_bytes
    unfolding judging
    append-size e = records-sized 1 (length x) (fails (refusals (Append x)) (numbered (Append x)) e SIZE)

  -- a batch's places rise and are the sheet's, and there is a record for each
  pub record Many (places x : List ℕ) : Type 0 where
    pub few : length places ≤ most_changes
    pub rise : rising places ≡ true
    pub below : Below w.n places
    pub sizes : length x ≡ record_bytes * length places

  pub many : (places x : List ℕ) → first_of (refusals (Batch places x)) ≡ 0 → Many places x
  unfolding judging
  many places x e =
      let none = fails (refusals (Batch places x)) (numbered (Batch places x)) e in
      let s = set_rises places (none SET) in
      record {
        few = s.0;
        rise = s.1;
        below = none_past w.n places (none PLACE);
        sizes = records-sized (length places) (length x) (none SIZE);
      }

  pub fair : (k : Kind) → first_of (refusals k) ≡ 0 → Fair w (edit_of w k)
  unfolding judging edit_of many_records
  fair (Change place x) e =
      let none = fails (refusals (Change place x)) (numbered (Change place x)) e in
      let f : Fits w c.out = room (Change place x) e in
      let h : place < w.n = place-held w.n place (none PLACE) in
      one_fair w place x w.n w.marks (change-size x place e) (omega arith) (omega arith) (omega arith) (omega (arith, f.sheet-room))
      f.count f.sheet-room f.marks-room (search) (λ k i j. absurd (omega arith)) (λ m i j. absurd (omega arith))
  fair (Append x) e =
      let none = fails (refusals (Append x)) (numbered (Append x)) e in
      let f : Fits w c.out = room (Append x) e in
      let h = one_more w.n (length w.sheet) (length w.marks) (none FULL) in
      one_fair w w.n x (w.n + 1) w.marks (append-size x e) (omega arith) (omega arith) (omega arith) h.1
      (omega (arith, f.count, h.0)) h.1 h.2 (search) (λ k i j. absurd (omega arith)) (λ m i j. unfold q in absurd (omega arith))
  fair Drop e =
      let none = fails (refusals Drop) (numbered Drop) e in
      let f : Fits w c.out = room Drop e in
      let h : 0 < w.n = place-held w.n 0 (none PLACE) in
      let m = past_last_lem w.n (w.n - 1) (q (w.n - 1)) w.marks (omega arith) (omega arith) f.marks-room in
      one_fair w (w.n - 1) (replicate record_bytes 0) (w.n - 1) (past_last w.n (w.n - 1) w.marks) (length-replicate {A = ℕ} record_bytes 0)
      (omega arith) (omega arith) (omega arith) (omega (arith, f.sheet-room)) (omega (arith, f.count)) (omega (arith, f.sheet-room))
      (unfold q in omega (arith, f.marks-room)) m.0
      (λ k i j. zeroed (record_bytes * (w.n - 1)) record_bytes (record_bytes * k) record_bytes w.sheet (omega arith) (omega arith) (omega (arith, f.sheet-room)))
      m.1
  fair (Batch places x) e = many_fair w places x c.out (room (Batch places x) e) (many places x e).rise (many places x e).below (many places x e).sizes
  fair (CloseUp places) e = closed_fair w c.out (room (CloseUp places) e)

  -- where nothing is refused, nothing is but for the planner's own marks
  pub before-own : first_of (with_own w.code c.own (refusals c.kind)) ≡ 0 → first_of (refusals c.kind) ≡ 0
  before-own e = own-front w.code c.own (refusals c.kind) (numbered c.kind) e

  pub proper : Proper w (save_of w c)
  unfolding save_of
  proper =
      record {
        numbered = own_numbered w.code c.own (refusals c.kind) (numbered c.kind);
        earlier = own_earlier w.code c.own (refusals c.kind) (earlier c.kind);
        answered = stale_answered w c.own;
        room = λ e. room c.kind (before-own e);
        claim-size = λ e. claim-sized (bytes_at w.code) (length c.claim) (sym (claimed c.kind) ∙ fails (refusals c.kind) (numbered c.kind) (before-own e) CLAIM);
        fair = λ e. fair c.kind (before-own e);
      }

  -- what a save that is done makes of the list is what its sheet holds
  pub listed : (k : Kind) (rs : List (List ℕ)) → Stands w rs → first_of (refusals k) ≡ 0 → Listed (edit_of w k).count (edit_of w k).sheet (list_after k rs)
  unfolding judging edit_of one_record many_records list_after held joined
  listed (Change place x) rs s e =
      listed-set w.n place x w.sheet rs (change-size x place e)
      (place-held w.n place (fails (refusals (Change place x)) (numbered (Change place x)) e PLACE)) s.sheet-room (listed_by w rs s)
  listed (Append x) rs s e =
      let n : length x ≡ record_bytes = append-size x e in
      record {
        sized = every_append _ rs (x ∷ []) s.sized (n, tt);
        counted = omega (arith, length-append rs (x ∷ []), s.counted);
        holds = rw (
          take-added (record_bytes * w.n) (record_bytes * (w.n + 1)) x w.sheet (omega arith) s.sheet-room,
          joined-append rs (x ∷ []),
          append-nil x,
          s.holds,
        );
      }
  listed Drop rs s e =
      let n : length rs - 1 ≡ w.n - 1 = omega (arith, s.counted) in
      record {
        sized = every_take _ rs (length rs - 1) s.sized;
        counted = length-take-le (length rs - 1) rs (omega arith) ∙ n;
        holds = rw (
          take-overwrite_at (record_bytes * (w.n - 1)) (record_bytes * (w.n - 1)) (replicate record_bytes 0) w.sheet (omega arith) (omega (arith, s.sheet-room)),
          joined-take rs (length rs - 1) s.sized,
          ← s.holds,
          take-take (record_bytes * (length rs - 1)) (record_bytes * w.n) w.sheet (omega (arith, s.counted)),
          n,
        );
      }
  listed (Batch places x) rs s e =
      let m : Many places x = many places x e in
      listed_in_turn w.n places x w.sheet rs m.below m.sizes s.sheet-room (listed_by w rs s)
  listed (CloseUp places) rs s e = closed_listed w rs s.sheet-room (listed_by w rs s)

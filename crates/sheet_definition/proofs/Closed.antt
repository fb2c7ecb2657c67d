-- Closing up is a fair edit, and what it leaves is the list of the records that stand.
-- Assumes nothing.
use mathlib.Core.Path.{◌≡◌, refl, sym, ap, ◌∙◌}
use mathlib.Core.List.{List, [], ◌∷◌, ◌++◌, append_assoc}
use Prim.Native.Nat.{ℕ, ◌+◌, ◌-◌, ◌*◌, ◌≤◌}
use native.Mathlib.Omega.{arith}
use lib.ListN.{length, take, drop, replicate, length-replicate, take-append-drop}
use lib.Seq.{take-take, take_at, drop_at, take-append-le, take-length}
use Rattle.definition.specs.Buffer.{overwrite_at, overwrite, joined}
use Rattle.definition.proofs.Buffer.{length-overwrite_at, take-overwrite_at, drop-overwrite_at}
use Rattle.sheet_definition.specs.Sheet.{World, record_bytes, cut, q}
use Rattle.sheet_definition.specs.Struck.{standing, first_struck}
use Rattle.sheet_definition.specs.Marks.{held}
use Rattle.sheet_definition.specs.SheetCalls.{closed_up}
use Rattle.sheet_definition.specs.Said.{Forty}
use Rattle.sheet_definition.proofs.Joined.{Listed, length-joined, joined-take, length_cut, forty_cut, joined-cut}
use Rattle.sheet_definition.proofs.Refused.{Fits}
use Rattle.sheet_definition.proofs.Freed.{zeroed, past_last_lem}
use Rattle.sheet_definition.proofs.Fair.{Fair}
use Rattle.sheet_definition.proofs.Struck.{fewer, first_stands, front-stays, every_standing}

-- records joined and cut again
cut-joined : (rs : List (List ℕ)) (l : List ℕ) → Forty rs → cut (length rs) (joined rs ++ l) ≡ rs
unfolding cut joined
cut-joined [] l f = refl
cut-joined (x ∷ rs) l f =
    rw (append_assoc x (joined rs) l, take_at x (joined rs ++ l) record_bytes f.0, drop_at x (joined rs ++ l) record_bytes f.0, cut-joined rs l f.1)

-- so the sheet that holds a list is cut into it
pub cut_is : (n : ℕ) (sheet : List ℕ) (rs : List (List ℕ)) → Listed n sheet rs → cut n sheet ≡ rs
unfolding held
cut_is n sheet rs l =
    ap (cut n) (sym (take-append-drop (record_bytes * n) sheet))
    ∙ ap (λ (x : List ℕ). cut n (x ++ drop (record_bytes * n) sheet)) l.holds
    ∙ ap (λ (k : ℕ). cut k (joined rs ++ drop (record_bytes * n) sheet)) (sym l.counted)
    ∙ cut-joined rs (drop (record_bytes * n) sheet) l.sized

module _ (n : ℕ) (sheet : List ℕ) (room : record_bytes * n ≤ length sheet) where
  abbrev rs : List (List ℕ)
  rs = cut n sheet

  abbrev count : ℕ
  count = length (standing rs)

  no_more : count ≤ n
  no_more = omega (arith, fewer rs, length_cut n sheet)

  sized : Forty (standing rs)
  sized = every_standing _ rs (forty_cut n sheet room)

  long : length (joined (standing rs)) ≡ record_bytes * count
  long = length-joined (standing rs) sized

  -- the records that stand, in front; and then zeros in the room that they leave
  abbrev packed : List ℕ
  packed = overwrite (joined (standing rs)) sheet

  abbrev freed : List ℕ
  freed = replicate (record_bytes * (n - count)) 0

  abbrev left : List ℕ
  left = overwrite_at (record_bytes * count) freed packed

  packed_size : length packed ≡ length sheet
  packed_size = length-overwrite_at 0 (joined (standing rs)) sheet (omega (arith, long, no_more))

  freed-size : length freed ≡ record_bytes * (n - count)
  freed-size = length-replicate {A = ℕ} (record_bytes * (n - count)) 0

  left_size : length left ≡ length sheet
  left_size = length-overwrite_at (record_bytes * count) freed packed (omega (arith, packed_size, freed-size, no_more)) ∙ packed_size

  -- up to a place where records stand, the sheet is theirs
  standing_in_front : (k : ℕ) → k ≤ count → take (record_bytes * k) left ≡ joined (take k (standing rs))
  unfolding overwrite_at
  standing_in_front k h =
      take-overwrite_at (record_bytes * count) (record_bytes * k) freed packed (omega arith) (omega (arith, packed_size, no_more))
      ∙ take-append-le (record_bytes * k) (joined (standing rs)) (drop (0 + length (joined (standing rs))) sheet) (omega (arith, long))
      ∙ sym (joined-take (standing rs) k sized)

  -- so what stands in front of the first struck record stays
  front : take (record_bytes * first_struck rs) left ≡ take (record_bytes * first_struck rs) sheet
  front =
      standing_in_front (first_struck rs) (first_stands rs)
      ∙ ap joined (front-stays rs)
      ∙ joined-take rs (first_struck rs) (forty_cut n sheet room)
      ∙ ap (take (record_bytes * first_struck rs)) (joined-cut n sheet)
      ∙ take-take (record_bytes * first_struck rs) (record_bytes * n) sheet (omega (arith, first_stands rs, no_more))

  behind : drop (record_bytes * n) left ≡ drop (record_bytes * n) sheet
  behind =
      drop-overwrite_at (record_bytes * count) (record_bytes * n) freed packed (omega (arith, freed-size, no_more)) (omega (arith, packed_size, no_more))
      ∙ drop-overwrite_at 0 (record_bytes * n) (joined (standing rs)) sheet (omega (arith, long, no_more)) (omega arith)

  pub left_listed : Listed count left (standing rs)
  unfolding held
  left_listed = record { sized = sized; counted = refl; holds = standing_in_front count (omega arith) ∙ ap joined (take-length (standing rs)) }

pub closed_fair : (w : World) (out : List ℕ) → Fits w out → Fair w (closed_up w)
unfolding closed_up q
closed_fair w out f =
    let n : ℕ = w.n in
    let l = f.sheet-room in
    let xs : List (List ℕ) = cut n w.sheet in
    let c = no_more n w.sheet l in
    let m = past_last_lem n (length (standing xs)) (q (first_struck xs)) w.marks (omega (arith, first_stands xs)) c f.marks-room in
    record {
      sheet-size = left_size n w.sheet l;
      before = front n w.sheet l;
      behind = behind n w.sheet l;
      first_held = omega (arith, first_stands xs, c);
      first_left = first_stands xs;
      past-held = omega arith;
      few = omega (arith, c, f.count);
      new_sheet_room = omega (arith, c);
      new_marks_room = omega (arith, c, f.marks-room);
      marks = m.0;
      bytes-freed = λ k i j. zeroed (record_bytes * length (standing xs)) (record_bytes * (n - length (standing xs))) (record_bytes * k) record_bytes (packed n w.sheet l) (omega arith) (omega arith) (omega (arith, packed_size n w.sheet l));
      words-freed = m.1;
    }

-- where the sheet holds a list, what is left of it holds those that stand
pub closed_listed : (w : World) (xs : List (List ℕ)) → record_bytes * w.n ≤ length w.sheet → Listed w.n w.sheet xs
    → Listed (closed_up w).count (closed_up w).sheet (standing xs)
unfolding closed_up
closed_listed w xs l h = rw (← cut_is w.n w.sheet xs h) (left_listed w.n w.sheet l)

-- The records that stand, gathered one by one: what the sheet and the list of old places hold after the first i were looked at.
-- Assumes nothing.
use mathlib.Core.Path.{◌≡◌, refl, sym, ap, ◌∙◌}
use mathlib.Core.Bool.{true, false}
use mathlib.Core.List.{List, [], ◌∷◌, ◌++◌, append-nil}
use Prim.Native.Nat.{ℕ, suc, ◌+◌, ◌-◌, ◌*◌, ◌<◌, ◌≤◌}
use native.Mathlib.Nat.{zero-add}
use native.Mathlib.Omega.{arith}
use lib.ListN.{length, get_or, take, drop, set, length-append, length-drop}
use Rattle.std.specs.List.{copy_within}
use lib.Seq.{drop-cons, set-append_seam, append_snoc, length-take-le}
use Rattle.definition.specs.Buffer.{overwrite_at, overwrite, joined}
use Rattle.definition.specs.Refusal.{pick}
use Rattle.definition.proofs.Buffer.{overwrite_at-more, overwrite_at-none, length-overwrite_at, drop-overwrite_at}
use Rattle.sheet_definition.specs.Sheet.{record_bytes, cut}
use Rattle.sheet_definition.specs.Struck.{all_zero, standing, old_places}
use Rattle.sheet_definition.proofs.Joined.{length-joined, joined-append, length_cut, forty_cut, cut_more}
use Rattle.sheet_definition.proofs.Struck.{fewer, every_standing, standing_one, places_one, one_each}

-- a part of k bytes from byte i on has k
pub part_size : (i k : ℕ) → i + k - i ≡ k
part_size i k = omega arith

-- a record copied within a buffer
pub copied : (i j : ℕ) (l : List ℕ) → i + record_bytes ≤ length l
    → copy_within l i (i + record_bytes) j ≡ overwrite_at j (take record_bytes (drop i l)) l
unfolding overwrite_at
copied i j l h =
    let n : length (take record_bytes (drop i l)) ≡ record_bytes = length-take-le record_bytes (drop i l) (omega (arith, length-drop i l)) in
    rw (part_size i record_bytes, n)

-- after the first i records: so many stand, and they are in front, with their old places
pub record Gathered (sheet₀ places₀ : List ℕ) (i : ℕ) (sheet places : List ℕ) (count : ℕ) : Type 0 where
  pub counted : count ≡ length (standing (cut i sheet₀))
  pub sheet_is : sheet ≡ overwrite (joined (standing (cut i sheet₀))) sheet₀
  pub places_are : places ≡ overwrite (old_places 0 (cut i sheet₀)) places₀

pub none_gathered : (sheet₀ places₀ : List ℕ) → Gathered sheet₀ places₀ 0 sheet₀ places₀ 0
unfolding cut standing old_places joined
none_gathered sheet₀ places₀ = record { counted = refl; sheet_is = sym (overwrite_at-none 0 sheet₀); places_are = sym (overwrite_at-none 0 places₀) }

-- one element stored behind those in front
stored : (v : ℕ) (p l : List ℕ) → length p < length l → set (overwrite p l) (length p) v ≡ overwrite (p ++ v ∷ []) l
unfolding overwrite_at
stored v p l h =
    rw (zero-add (length p), drop-cons l (length p) 0 h, set-append_seam p (get_or l (length p) 0) (drop (suc (length p)) l) v)
    (sym (append_snoc p v (drop (suc (length p)) l)) ∙ rw e)
  where
    e : suc (length p) ≡ 0 + length (p ++ v ∷ [])
    e = omega (arith, length-append p (v ∷ []))

module _ (sheet₀ places₀ : List ℕ) (i : ℕ) (sheet places : List ℕ) (count : ℕ) (room : record_bytes * i ≤ length sheet₀) (list : i ≤ length places₀)
    (g : Gathered sheet₀ places₀ i sheet places count) where
  abbrev rs : List (List ℕ)
  rs = cut i sheet₀

  abbrev x : List ℕ
  x = take record_bytes (drop (record_bytes * i) sheet₀)

  few : count ≤ i
  few = omega (arith, g.counted, fewer rs, length_cut i sheet₀)

  long : length (joined (standing rs)) ≡ record_bytes * count
  long = length-joined (standing rs) (every_standing _ rs (forty_cut i sheet₀ room)) ∙ rw g.counted

  listed : length (old_places 0 rs) ≡ count
  listed = one_each 0 rs ∙ sym g.counted

  sheet-size : length sheet ≡ length sheet₀
  sheet-size = ap length g.sheet_is ∙ length-overwrite_at 0 (joined (standing rs)) sheet₀ (omega (arith, long, few))

  -- so many have been moved as were seen at most, and the sheet keeps its length
  pub stand : (count ≤ i) × (length sheet ≡ length sheet₀) × Gathered sheet₀ places₀ i sheet places count
  stand = (few, sheet-size, g)

  -- the next record is still where it was
  pub next-record : take record_bytes (drop (record_bytes * i) sheet) ≡ x
  next-record = ap (take record_bytes) (ap (drop (record_bytes * i)) g.sheet_is ∙ drop-overwrite_at 0 (record_bytes * i) (joined (standing rs)) sheet₀ (omega (arith, long, few)) (omega arith))

  -- a struck one is passed over
  pub passed : all_zero x ≡ true → Gathered sheet₀ places₀ (suc i) sheet places count
  unfolding pick
  passed e =
      let s : standing (cut (suc i) sheet₀) ≡ standing rs = ap standing (cut_more i sheet₀) ∙ standing_one rs x ∙ rw e (append-nil (standing rs)) in
      let p : old_places 0 (cut (suc i) sheet₀) ≡ old_places 0 rs = ap (old_places 0) (cut_more i sheet₀) ∙ places_one 0 rs x ∙ rw e (append-nil (old_places 0 rs)) in
      record { counted = g.counted ∙ ap length (sym s); sheet_is = rw s g.sheet_is; places_are = rw p g.places_are }

  -- any other moves behind those that stand
  pub moved : all_zero x ≡ false → i < length places₀ → Gathered sheet₀ places₀ (suc i) (overwrite_at (record_bytes * count) x sheet) (set places count i) (suc count)
  unfolding pick joined
  moved e h =
      let s : standing (cut (suc i) sheet₀) ≡ standing rs ++ x ∷ [] = ap standing (cut_more i sheet₀) ∙ standing_one rs x ∙ rw e in
      let z : 0 + length rs ≡ i = omega (arith, length_cut i sheet₀) in
      let p : old_places 0 (cut (suc i) sheet₀) ≡ old_places 0 rs ++ i ∷ [] = ap (old_places 0) (cut_more i sheet₀) ∙ places_one 0 rs x ∙ rw (e, z) in
      let j : joined (standing rs ++ x ∷ []) ≡ joined (standing rs) ++ x = joined-append (standing rs) (x ∷ []) ∙ ap (λ (y : List ℕ). joined (standing rs) ++ y) (append-nil x) in
      record {
        counted = omega (arith, g.counted, ap length s, length-append (standing rs) (x ∷ []));
        sheet_is = rw (g.sheet_is, overwrite_at-more 0 (record_bytes * count) (joined (standing rs)) x sheet₀ (omega arith) (omega (arith, long)), s, j);
        places_are = rw (g.places_are, ← listed, p) (stored i (old_places 0 rs) places₀ (omega (arith, listed, few)));
      }

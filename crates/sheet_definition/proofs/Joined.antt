-- Records of 40 bytes one after the other: a record replaced, added or removed, and the bytes; and the list of records that a sheet holds.
-- Assumes nothing.
use mathlib.Core.Path.{◌≡◌, refl, sym, ap, ◌∙◌}
use mathlib.Core.List.{List, [], ◌∷◌, ◌++◌, append_assoc}
use Prim.Native.Nat.{ℕ, zero, suc, ◌+◌, ◌*◌, ◌<◌, ◌≤◌}
use native.Mathlib.Nat.{add_assoc}
use native.Mathlib.Omega.{arith}
use lib.ListN.{length, take, drop, set, length-append, length-set, length-drop, take-append-drop}
use lib.Seq.{length-take-le, drop-drop, take-nil, take_at, drop_at, take-append-le, drop-append-le, take-append-add, drop-append-add, take-add}
use Rattle.definition.specs.Buffer.{overwrite_at, joined}
use Rattle.sheet_definition.specs.Sheet.{World, record_bytes, cut}
use Rattle.sheet_definition.specs.Marks.{held}
use Rattle.sheet_definition.specs.Said.{Forty, Stands}
use Rattle.definition.proofs.Every.{every_set}
use Rattle.definition.proofs.Buffer.{length-overwrite_at}

pub length-joined : (rs : List (List ℕ)) → Forty rs → length (joined rs) ≡ record_bytes * length rs
unfolding joined
length-joined [] f = refl
length-joined (x ∷ rs) f = omega (arith, length-append x (joined rs), length-joined rs f.1)

pub joined-append : (rs ts : List (List ℕ)) → joined (rs ++ ts) ≡ joined rs ++ joined ts
unfolding joined
joined-append [] ts = refl
joined-append (x ∷ rs) ts = rw (joined-append rs ts, append_assoc x (joined rs) (joined ts))

pub joined-take : (rs : List (List ℕ)) (k : ℕ) → Forty rs → joined (take k rs) ≡ take (record_bytes * k) (joined rs)
unfolding joined
joined-take rs zero f = refl
joined-take [] (suc k) f = sym (take-nil (record_bytes * suc k))
joined-take (x ∷ rs) (suc k) f =
    let e : record_bytes * suc k ≡ length x + record_bytes * k = omega arith in
    rw (joined-take rs k f.1, e, take-append-add x (joined rs) (record_bytes * k))

-- a piece written behind the front of a list
pub overwrite_behind : (y : List ℕ) (i : ℕ) (p l : List ℕ) → overwrite_at (length y + i) p (y ++ l) ≡ y ++ overwrite_at i p l
unfolding overwrite_at
overwrite_behind y i p l =
    rw (take-append-add y l i, add_assoc (length y) i (length p), drop-append-add y l (i + length p))
    (simp append_assoc)

pub joined-set : (rs : List (List ℕ)) (p : ℕ) (x : List ℕ) → length x ≡ record_bytes → Forty rs → p < length rs
    → joined (set rs p x) ≡ overwrite_at (record_bytes * p) x (joined rs)
unfolding joined overwrite_at
joined-set [] p x e f h = absurd (omega arith)
joined-set (y ∷ rs) zero x e f h = rw (drop_at y (joined rs) (0 + length x) (omega arith))
joined-set (y ∷ rs) (suc p) x e f h =
    let j : record_bytes * suc p ≡ length y + record_bytes * p = omega arith in
    rw (joined-set rs p x e f.1 (omega arith), j) (sym (overwrite_behind y (record_bytes * p) x (joined rs)))

-- a piece written into the front of a list
pub overwrite-append : (i : ℕ) (p l r : List ℕ) → i + length p ≤ length l → overwrite_at i p (l ++ r) ≡ overwrite_at i p l ++ r
unfolding overwrite_at
overwrite-append i p l r h =
    let j : i ≤ length l = omega arith in
    rw (take-append-le i l r, drop-append-le (i + length p) l r) (sym (append_assoc (take i l ++ p) (drop (i + length p) l) r))

pub take_overwritten : (i j : ℕ) (p l : List ℕ) → i + length p ≤ j → j ≤ length l → take j (overwrite_at i p l) ≡ overwrite_at i p (take j l)
take_overwritten i j p l h n =
    let k : length (take j l) ≡ j = length-take-le j l n in
    let s = rw (take-append-drop j l) at (overwrite-append i p (take j l) (drop j l) (omega arith)) in
    rw s (take_at (overwrite_at i p (take j l)) (drop j l) j (length-overwrite_at i p (take j l) (omega arith) ∙ k))

-- a piece written at the end of the front
pub take-added : (i j : ℕ) (p l : List ℕ) → i + length p ≡ j → i ≤ length l → take j (overwrite_at i p l) ≡ take i l ++ p
unfolding overwrite_at
take-added i j p l e n =
    take_at (take i l ++ p) (drop (i + length p) l) j (length-append (take i l) p ∙ omega (arith, length-take-le i l n))

-- a sheet cut into records
pub length_cut : (n : ℕ) (l : List ℕ) → length (cut n l) ≡ n
unfolding cut
length_cut zero l = refl
length_cut (suc n) l = ap suc (length_cut n (drop record_bytes l))

pub forty_cut : (n : ℕ) (l : List ℕ) → record_bytes * n ≤ length l → Forty (cut n l)
unfolding cut
forty_cut zero l h = tt
forty_cut (suc n) l h = (length-take-le record_bytes l (omega arith), forty_cut n (drop record_bytes l) (omega (arith, length-drop record_bytes l)))

pub joined-cut : (n : ℕ) (l : List ℕ) → joined (cut n l) ≡ take (record_bytes * n) l
unfolding cut joined
joined-cut zero l = refl
joined-cut (suc n) l =
    let e : record_bytes * suc n ≡ record_bytes + record_bytes * n = omega arith in
    rw (joined-cut n (drop record_bytes l), e, take-add record_bytes (record_bytes * n) l)

-- the first records with one more
pub cut_more : (i : ℕ) (l : List ℕ) → cut (suc i) l ≡ cut i l ++ take record_bytes (drop (record_bytes * i) l) ∷ []
unfolding cut
cut_more zero l = refl
cut_more (suc i) l =
    let j : record_bytes * suc i ≡ record_bytes + record_bytes * i = omega arith in
    ap (λ (rs : List (List ℕ)). take record_bytes l ∷ rs)
    (cut_more i (drop record_bytes l) ∙ rw (j, drop-drop (record_bytes * i) record_bytes l))

-- the first n records of a sheet are those of a list
pub record Listed (n : ℕ) (sheet : List ℕ) (rs : List (List ℕ)) : Type 0 where
  pub sized : Forty rs
  pub counted : length rs ≡ n
  pub holds : held n sheet ≡ joined rs

pub listed_by : (w : World) (rs : List (List ℕ)) → Stands w rs → Listed w.n w.sheet rs
listed_by w rs s = record { sized = s.sized; counted = s.counted; holds = s.holds }

-- and so with a record replaced
pub listed-set : (n place : ℕ) (x sheet : List ℕ) (rs : List (List ℕ)) → length x ≡ record_bytes → place < n → record_bytes * n ≤ length sheet
    → Listed n sheet rs → Listed n (overwrite_at (record_bytes * place) x sheet) (set rs place x)
unfolding held
listed-set n place x sheet rs e h r l =
    record {
      sized = every_set _ rs place x e l.sized;
      counted = length-set rs place x ∙ l.counted;
      holds = rw (
        take_overwritten (record_bytes * place) (record_bytes * n) x sheet (omega arith) r,
        joined-set rs place x e l.sized (omega (arith, l.counted)),
        l.holds,
      );
    }

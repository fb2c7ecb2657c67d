-- Lists by their places, and rows of one length one after the other: how long they are, what stands at a place, and that a list is its rows.
-- Assumes nothing.
use mathlib.Core.Path.{◌≡◌, refl, sym, ap, ap₂, ◌∙◌}
use mathlib.Core.List.{List, [], ◌∷◌, ◌++◌}
use mathlib.Core.Logic.{⊎_elim}
use Prim.Native.Nat.{ℕ, zero, suc, ◌+◌, ◌*◌, ◌<◌, ◌≤◌}
use native.Mathlib.Nat.{mul_comm, mul-suc, mul-zero, not-suc-le-zero, le_of_suc-le-suc, eq-or-lt_of_le, mul-le-mul_left}
use native.Mathlib.Numerals.{add-one}
use native.Mathlib.Omega.{arith}
use lib.ListN.{length, get_or, take, drop, length-append, length-drop, get_or-append}
use lib.Seq.{take_all, length-take-le, get_or-take, get_or-drop, get_or_at, take-add, take-append-le, drop-append-le, drop_at, ext_get_or}
use Rattle.definition.specs.Buffer.{Every}
use Rattle.definition.proofs.Every.{every_append}
use Rattle.columns_definition.specs.Dump.{up_to, rows_to, column_at}

pub length-up_to : {A : Type 0} (n : ℕ) (f : ℕ → A) → length (up_to n f) ≡ n
unfolding up_to
length-up_to zero f = refl
length-up_to (suc n) f = length-append (up_to n f) (f n ∷ []) ∙ rw (length-up_to n f) (add-one n)

pub get_or-up_to : {A : Type 0} (n i : ℕ) (f : ℕ → A) (d : A) → i < n → get_or (up_to n f) i d ≡ f i
unfolding up_to
get_or-up_to zero i f d h = absurd (not-suc-le-zero h)
get_or-up_to (suc n) i f d h =
    let k : length (up_to n f) ≡ n = length-up_to n f in
    ⊎_elim
    (λ (e : i ≡ n). rw e (get_or_at (up_to n f) (f n) [] d n k))
    (λ (l : i < n). get_or-append (up_to n f) (f n ∷ []) d i (rw k l) ∙ get_or-up_to n i f d l)
    (eq-or-lt_of_le (le_of_suc-le-suc h))

-- a list is what stands at its places
pub up_to-of : {A : Type 0} (n : ℕ) (f : ℕ → A) (l : List A) (d : A) → length l ≡ n → ((i : ℕ) → i < n → f i ≡ get_or l i d) → up_to n f ≡ l
up_to-of n f l d h e =
    ext_get_or d (up_to n f) l (length-up_to n f ∙ sym h)
    (λ i k. let j : i < n = omega (arith, k, length-up_to n f) in get_or-up_to n i f d j ∙ e i j)

-- what holds of f at each place holds of every element of the list
pub every-up_to : {A : Type 0} (P : A → Type 0) (n : ℕ) (f : ℕ → A) → ((i : ℕ) → P (f i)) → Every P (up_to n f)
unfolding up_to
every-up_to P zero f h = tt
every-up_to P (suc n) f h = every_append P (up_to n f) (f n ∷ []) (every-up_to P n f h) (h n, tt)

pub rows_cong : (n : ℕ) (f g : ℕ → List ℕ) → ((l : ℕ) → l < n → f l ≡ g l) → rows_to n f ≡ rows_to n g
unfolding rows_to
rows_cong zero f g e = refl
rows_cong (suc n) f g e = ap₂ ◌++◌ (rows_cong n f g (λ l h. e l (omega arith))) (e n (omega arith))

module _ (w : ℕ) where
  -- a row has an end in what has n rows of w
  ends : (l n : ℕ) → l < n → w * l + w ≤ w * n
  ends l n h = rw (← mul-suc w l) (mul-le-mul_left w h)

  pub length-rows : (n : ℕ) (f : ℕ → List ℕ) → ((l : ℕ) → l < n → length (f l) ≡ w) → length (rows_to n f) ≡ w * n
  unfolding rows_to
  length-rows zero f h = sym (mul-zero w)
  length-rows (suc n) f h =
      length-append (rows_to n f) (f n)
      ∙ ap₂ ◌+◌ (length-rows n f (λ l k. h l (omega arith))) (h n (omega arith))
      ∙ sym (mul-suc w n)

  -- what stands at row l of n rows is row l
  pub row_at_lem : (n l : ℕ) (f : ℕ → List ℕ) → ((l : ℕ) → l < n → length (f l) ≡ w) → l < n → column_at w l (rows_to n f) ≡ f l
  unfolding rows_to column_at
  row_at_lem zero l f h k = absurd (not-suc-le-zero k)
  row_at_lem (suc n) l f h k =
      let before : (l : ℕ) → l < n → length (f l) ≡ w = λ l k. h l (omega arith) in
      let r : length (rows_to n f) ≡ w * n = length-rows n f before in
      ⊎_elim
      (λ (e : l ≡ n).
      rw (e, drop_at (rows_to n f) (f n) (w * n) r) (take_all w (f n) (omega (arith, h n (omega arith)))))
      (λ (e : l < n).
      let t : w * l + w ≤ w * n = ends l n e in
      rw (
        drop-append-le (w * l) (rows_to n f) (f n) (omega arith),
        take-append-le w (drop (w * l) (rows_to n f)) (f n) (omega (arith, length-drop (w * l) (rows_to n f))),
      )
      (row_at_lem n l f before e))
      (eq-or-lt_of_le (le_of_suc-le-suc k))

  -- and so element w*l + j is the row's j-th
  pub column-place : (l j : ℕ) (d : List ℕ) → j < w → get_or (column_at w l d) j 0 ≡ get_or d (w * l + j) 0
  unfolding column_at
  column-place l j d h = get_or-take w (drop (w * l) d) j 0 h ∙ get_or-drop (w * l) d j 0

  pub row-place : (n l j : ℕ) (f : ℕ → List ℕ) → ((l : ℕ) → l < n → length (f l) ≡ w) → l < n → j < w → get_or (rows_to n f) (w * l + j) 0 ≡ get_or (f l) j 0
  row-place n l j f h k i =
      sym (column-place l j (rows_to n f) i) ∙ ap (λ (r : List ℕ). get_or r j 0) (row_at_lem n l f h k)

  -- the rows of a list, one after the other, are its beginning
  pub front-rows : (n : ℕ) (d : List ℕ) → rows_to n (λ l. column_at w l d) ≡ take (w * n) d
  unfolding rows_to column_at
  front-rows zero d = rw (mul-zero w)
  front-rows (suc n) d = rw (front-rows n d, mul-suc w n) (sym (take-add (w * n) w d))

  pub all_rows : (n : ℕ) (d : List ℕ) → length d ≡ w * n → rows_to n (λ l. column_at w l d) ≡ d
  all_rows n d h = front-rows n d ∙ take_all (w * n) d (omega arith)

  pub length-column : (n l : ℕ) (d : List ℕ) → length d ≡ w * n → l < n → length (column_at w l d) ≡ w
  unfolding column_at
  length-column n l d h k = length-take-le w (drop (w * l) d) (omega (arith, ends l n k, length-drop (w * l) d, h))

-- the first elements of a list, place by place
pub first_of_lem : (n : ℕ) (l : List ℕ) → n ≤ length l → up_to n (λ j. get_or l j 0) ≡ take n l
first_of_lem n l h = up_to-of n (λ j. get_or l j 0) (take n l) 0 (length-take-le n l h) (λ j k. sym (get_or-take n l j 0 k))

-- row l of 32 rows of n ends within them, and so does its element j
pub row_inside : (n l : ℕ) → l < 32 → n * l + n ≤ 32 * n
row_inside n l h = rw (mul_comm 32 n) (ends n l 32 h)

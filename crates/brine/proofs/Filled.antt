-- A list lent is filled from the front, part after part.
-- Assumes nothing.
use mathlib.Core.Path.{◌≡◌, refl, sym, ◌∙◌}
use mathlib.Core.List.{List, [], ◌++◌, append-nil, append_assoc}
use Prim.Native.Nat.{ℕ, ◌-◌, ◌+◌, ◌≤◌}
use native.Mathlib.Nat.{le_refl}
use native.Mathlib.Omega.{arith}
use lib.ListN.{length, take, drop, length-append, length-drop, take-append-drop, drop_of_length-le}
use lib.Seq.{length-take-le, take_all, take_at, drop_at, drop-drop}

module _ {A : Type 0} where
  -- filled up to a place: with the rest it is the whole, and from the place on it is as it came
  pub record Filled (at : ℕ) (x x₀ rest whole : List A) : Type 0 where
    pub front : take at x ++ rest ≡ whole
    pub back : drop at x ≡ drop at x₀
    pub long : length x ≡ length x₀

  pub filled_none : (x whole : List A) → Filled 0 x x whole whole
  filled_none x whole = record { front = refl; back = refl; long = refl }

  -- a part is put after what is filled
  pub filled_more : (at n : ℕ) (x x₀ c rest whole : List A) → length c ≡ n → at + n ≤ length x → Filled at x x₀ (c ++ rest) whole
      → Filled (at + n) (take at x ++ (c ++ drop n (drop at x))) x₀ rest whole
  filled_more at n x x₀ c rest whole e h f =
      let p : length (take at x ++ c) ≡ at + n = rw (length-append, length-take-le at x (omega arith), e) in
      let q : take at x ++ (c ++ drop n (drop at x)) ≡ (take at x ++ c) ++ drop (at + n) x = rw (drop-drop n at x) (sym (append_assoc (take at x) c _)) in
      rw q (
      record {
        front = rw (take_at (take at x ++ c) (drop (at + n) x) (at + n) p, append_assoc) f.front;
        back = rw (drop_at (take at x ++ c) (drop (at + n) x) (at + n) p, ← drop-drop n at x, f.back) (drop-drop n at x₀);
        long = rw (length-append, p, length-drop) (omega (arith, f.long));
      })

  -- a part that is lent to the list's end is all from its place on, and nothing is behind it
  pub to_the_end : (at : ℕ) (x : List A) → take (length x - at) (drop at x) ≡ drop at x
  to_the_end at x = take_all (length x - at) (drop at x) (rw length-drop (le_refl (length x - at)))

  pub none_behind : (at : ℕ) (x c : List A) → take at x ++ (c ++ drop (length x - at) (drop at x)) ≡ take at x ++ c
  none_behind at x c = rw (drop_of_length-le (drop at x) {i = length x - at} (rw length-drop (le_refl (length x - at))), append-nil)

  -- with no rest it is the whole, and what came after that
  pub filled_all : (at : ℕ) (x x₀ whole : List A) → Filled at x x₀ [] whole → x ≡ whole ++ drop at x₀
  filled_all at x x₀ whole f = sym (take-append-drop at x) ∙ rw (← f.front, append-nil, f.back)

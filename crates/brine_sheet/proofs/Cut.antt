-- The first n records cut from a sheet: how many they are, and their wells' places.
-- Assumes nothing.
use mathlib.Core.Path.{◌≡◌, refl, sym, ◌∙◌}
use mathlib.Core.Bool.{Bool, true, false}
use mathlib.Core.List.{List}
use Prim.Native.Nat.{ℕ, zero, suc, ◌+◌, ◌-◌, ◌*◌, ◌<◌, ◌≤◌}
use native.Mathlib.Omega.{arith}
use lib.ListN.{length, take, drop}
use Rattle.std.proofs.lemmas.List.{take-take, drop-take, length-take-le}
use Rattle.sheet_definition.specs.Sheet.{record_bytes}
use Rattle.plan_record.specs.Total.{well_in}
use Rattle.plan_record.proofs.Total.{well_read}
use Rattle.plan.specs.Sets.{count_of}
use Rattle.plan_places.specs.Places.{placed}
use Rattle.brine_sheet.specs.Table.{placed_if}

module _ (n : ℕ) (sheet : List ℕ) (h : record_bytes * n ≤ length sheet) where
  pub cut-long : n ≡ count_of (take (record_bytes * n) sheet)
  cut-long = omega (arith, length-take-le (40 * n) sheet h)

  -- the well at a place is the sheet's
  well-cut : (i : ℕ) → i < n → well_in (take (record_bytes * n) sheet) i ≡ well_in sheet i
  well-cut i l =
      let k = 40 * n - 40 * i in
      let e : 40 * n ≡ 40 * i + k = omega arith in
      let long = length-take-le (40 * n) sheet h in
      well_read (take (40 * n) sheet) i (omega (arith, long))
      ∙ rw (e, drop-take (40 * i) k sheet, take-take 40 k (drop (40 * i) sheet) (omega arith)) (sym (well_read sheet i (omega arith)))

  -- so its first places are
  places-cut : (t : List ℕ) (i : ℕ) → i ≤ n → placed (take (record_bytes * n) sheet) i t ≡ placed sheet i t
  unfolding placed
  places-cut t zero l = refl
  places-cut t (suc i) l = rw (places-cut t i (omega arith), well-cut i (omega arith))

  pub placed-cut : (b : Bool) (t : List ℕ)
      → placed_if b (take (record_bytes * n) sheet) (count_of (take (record_bytes * n) sheet)) t ≡ placed_if b sheet n t
  unfolding placed_if
  placed-cut true t = rw (← cut-long) (places-cut t n (omega arith))
  placed-cut false t = refl

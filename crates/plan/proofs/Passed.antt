-- What the check's sets hold place by place, and the rules by them; and the wells of a sheet's first records.
-- Assumes nothing.
use mathlib.Core.Path.{◌≡◌, refl, ap, fun_ext}
use mathlib.Core.Bool.{Bool, true, false, ◌||◌}
use mathlib.Core.List.{List, ◌∷◌}
use Prim.Native.Nat.{ℕ, zero, suc, ◌+◌, ◌*◌, ◌/◌, ◌≤◌}
use native.Mathlib.Omega.{arith}
use lib.Dec.{eqb}
use lib.ListN.{length, take, drop}
use Rattle.std.proofs.lemmas.List.{take-take, drop-take, length-take-le}
use Rattle.sheet_definition.specs.Sheet.{record_bytes, cut}
use Rattle.definition.specs.Refusal.{pick, first_of}
use Rattle.plan_definition.specs.declared.Well.{Well}
use Rattle.plan_definition.specs.Some.{some}
use Rattle.plan_definition.specs.Well.{wells}
use Rattle.plan_definition.specs.Rules.{injector, struck, is_injector_of, is_before, rules_by, rules_at}
use Rattle.plan_numbers.specs.Numbers.{has, plus}
use Rattle.plan.specs.Sets.{wells_of}

-- two numbers are put in either order
pub either_first : (a b c : Bool) → (b || (a || c)) ≡ (a || b || c)
either_first true true c = refl
either_first true false c = refl
either_first false b c = refl

module _ (w : Well) (ws : List Well) (t : List ℕ) (k : ℕ) where
  -- an injector is put into the set
  pub with_injector : (t' : List ℕ) → injector w ≡ true → has t' ≡ plus w.number (has t)
      → (is_injector_of ws k || has t' k) ≡ (is_injector_of (w ∷ ws) k || has t k)
  unfolding is_injector_of some plus
  with_injector t' e h = rw (ap (λ (f : ℕ → Bool). f k) h, e) (either_first (eqb w.number k) (is_injector_of ws k) (has t k))

  -- another well isn't
  pub with_other : injector w ≡ false → (is_injector_of ws k || has t k) ≡ (is_injector_of (w ∷ ws) k || has t k)
  unfolding is_injector_of some
  with_other e = rw e

-- the rules by sets that stand for a sheet's injectors and for the places before a well that isn't struck are that well's rules in the sheet
pub by_sets : (ws : List Well) (f g : ℕ → Bool) (v w : Well) → f ≡ is_injector_of ws → ((k : ℕ) → g k ≡ is_before ws w.place k) → v ≡ w
    → struck w ≡ false → first_of (rules_by f g v) ≡ first_of (rules_at ws w)
unfolding rules_at pick
by_sets ws f g v w p q r s = rw s (λ i. first_of (rules_by (p i) (fun_ext q i) (r i)))

-- the first n records of a sheet, where it has as many, are cut as the sheet is
cut-front : (n : ℕ) (sheet : List ℕ) → cut n (take (record_bytes * n) sheet) ≡ cut n sheet
unfolding cut
cut-front zero sheet = refl
cut-front (suc n) sheet =
    let e : 40 * suc n ≡ 40 + 40 * n = omega arith in
    rw (e, drop-take 40 (40 * n) sheet, take-take 40 (40 + 40 * n) sheet (omega arith), cut-front n (drop 40 sheet))

-- so their wells are the sheet's
pub front-wells : (n : ℕ) (sheet : List ℕ) → record_bytes * n ≤ length sheet → wells_of (take (record_bytes * n) sheet) ≡ wells n sheet
unfolding wells
front-wells n sheet h =
    let e : length (take (40 * n) sheet) / 40 ≡ n = omega (arith, length-take-le (40 * n) sheet h) in
    rw (e, cut-front n sheet)

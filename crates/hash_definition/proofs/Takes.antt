-- A feed that no refusal meets: the record is well formed and has no odd bits, and the piece ends as a message can and stays under the limit.
-- Assumes nothing.
use mathlib.Core.Path.{◌≡◌, sym, ◌∙◌}
use mathlib.Core.Bool.{Bool, true, false, not, ◌&&◌, ◌||◌, false≢true}
use mathlib.Core.List.{List, [], ◌∷◌}
use Prim.Native.Nat.{ℕ, zero, suc, ◌+◌, ◌*◌, ◌<◌, ◌≤◌}
use native.Mathlib.Omega.{arith}
use lib.Dec.{ltb, eqb}
use borrow.Author.Tests.{ltb-false, leb-false, eqb-true, ne_eqb, not-false}
use Rattle.definition.specs.Padding.{whole_bytes}
use Rattle.definition.specs.Luffa.{limit_at}
use Rattle.definition.specs.Refusal.{RECORD, LONG, ODD, Refusal, pick, first_of, condition_of}
use Rattle.definition.proofs.Conditions.{either_false}
use Rattle.definition.proofs.Refusals.{fails}
use Rattle.hash_definition.specs.Calls.{odd_refusal, long_refusal}

pub record Takes (well : Bool) (code count held odd n : ℕ) : Type 0 where
  pub formed : well ≡ true
  pub none_held : held ≡ 0
  pub ends : (odd ≤ 7) × (0 < odd → 0 < n)
  pub within : 8 * (count + whole_bytes odd n) + odd < limit_at code

-- odd bits that aren't refused
odd_ends : (odd n : ℕ) → not (eqb odd 0) && eqb n 0 ≡ false → 0 < odd → 0 < n
odd_ends zero zero e h = h
odd_ends (suc o) zero e h = absurd (false≢true (sym e ∙ rw (ne_eqb (suc o) 0 (λ m. omega arith))))
odd_ends odd (suc n) e h = omega arith

pub odd_passed : (odd n : ℕ) → ltb 7 odd || (not (eqb odd 0) && eqb n 0) ≡ false → (odd ≤ 7) × (0 < odd → 0 < n)
odd_passed odd n e =
    let a = either_false (ltb 7 odd) (not (eqb odd 0) && eqb n 0) e in
    (ltb-false 7 odd a.0, odd_ends odd n a.1)

pub takes : (well : Bool) (code count held odd n : ℕ) → first_of ((RECORD, not well) ∷ odd_refusal held odd n ∷ long_refusal code count odd n ∷ []) ≡ 0
    → Takes well code count held odd n
unfolding odd_refusal long_refusal condition_of pick
takes well code count held odd n e =
    let rs : List Refusal = (RECORD, not well) ∷ odd_refusal held odd n ∷ long_refusal code count odd n ∷ [] in
    let no = fails rs (omega arith) e in
    let a = either_false _ (not (eqb odd 0) && eqb n 0) (no ODD) in
    let b = either_false (not (eqb held 0)) (ltb 7 odd) a.0 in
    record {
      formed = not-false well (no RECORD);
      none_held = eqb-true held 0 (not-false (eqb held 0) b.0);
      ends = (ltb-false 7 odd b.1, odd_ends odd n a.1);
      within = leb-false _ _ (no LONG);
    }

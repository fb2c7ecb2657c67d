-- The words of a mark as they are read for comparing, and the comparing step by step.
-- Assumes nothing.
use mathlib.Core.Path.{◌≡◌, ap}
use mathlib.Core.Bool.{true, false, not}
use mathlib.Core.List.{List}
use Prim.Native.Nat.{ℕ, suc, ◌+◌, ◌-◌, ◌*◌, ◌<◌, ◌≤◌}
use native.Mathlib.Nat.{add-zero}
use native.Mathlib.Omega.{arith}
use lib.ListN.{length}
use borrow.Author.Tests.{not-true, not-false}
use Rattle.definition.specs.declared.State.{State}
use Rattle.definition.specs.declared.Width.{Width}
use Rattle.definition.specs.State.{five}
use Rattle.definition.specs.Block.{words_of_all}
use Rattle.definition.specs.Buffer.{same}
use Rattle.definition.specs.Refusal.{pick}
use Rattle.sheet_definition.specs.declared.Found.TheVariants.{Same, Group}
use Rattle.sheet_definition.specs.declared.Where.{Where}
use Rattle.sheet_definition.specs.Marks.{mark_at, state_from, mark_of}
use Rattle.sheet_definition.specs.Own.{used, one_more, compared}
use Rattle.sheet_marks.specs.Total.{state_at}
use Rattle.sheet_marks.proofs.Total.{read_at}

pub words-read : (w : Width) (marks : List ℕ) (m : ℕ) → 40 * (m + 1) ≤ length marks
    → words_of_all (five (state_at w marks m)) ≡ mark_of (state_from w (mark_at marks m))
unfolding mark_of
words-read w marks m h = ap (λ (s : State). words_of_all (five s)) (read_at marks m h w)

-- so many pairs before
abbrev pub before : (pairs : ℕ) → Where → Where
before pairs v = record { found = v.found; pairs = pairs + v.pairs }

module _ (code : ℕ) (held own : List ℕ) (last g pairs : ℕ) (h : g < last) where
  left : last - g ≡ suc (last - (g + 1))
  left = omega arith

  -- the next pair agrees, or is the first that differs
  pub goes_on : not (same (used code held (g + 1)) (used code own (g + 1))) ≡ false
      → before pairs (compared code held own (last - g) g) ≡ before (pairs + 1) (compared code held own (last - (g + 1)) (g + 1))
  unfolding compared one_more pick
  goes_on e =
      let v : Where = compared code held own (last - (g + 1)) (g + 1) in
      let t : same (used code held (g + 1)) (used code own (g + 1)) ≡ true = not-false _ e in
      let a : pairs + (v.pairs + 1) ≡ pairs + 1 + v.pairs = omega arith in
      rw (left, t, a)

  pub stops : not (same (used code held (g + 1)) (used code own (g + 1))) ≡ true
      → before pairs (compared code held own (last - g) g) ≡ record { found = Group g; pairs = pairs + 1 }
  unfolding compared one_more pick
  stops e =
      let t : same (used code held (g + 1)) (used code own (g + 1)) ≡ false = not-true _ e in
      rw (left, t)

pub ends : (code : ℕ) (held own : List ℕ) (last : ℕ) → before last (compared code held own (last - last) last) ≡ record { found = Same; pairs = last }
unfolding compared
ends code held own last = let e : last - last ≡ 0 = omega arith in rw (e, add-zero last)

-- The answer with where it is stale: as it was, or with the place.
-- Assumes nothing.
use mathlib.Core.Path.{◌≡◌}
use mathlib.Core.List.{List}
use Prim.Native.Nat.{ℕ, suc, ◌/◌, min}
use native.Mathlib.Decide.{dec_le}
use native.Mathlib.Omega.{arith}
use borrow.Author.Tests.{lt-ltb, le-ltb, eq-eqb, ne_eqb}
use Rattle.definition.specs.Refusal.{STALE, pick}
use Rattle.sheet_definition.specs.Sheet.{q}
use Rattle.sheet_definition.specs.declared.Answer.{Answer}
use Rattle.sheet_definition.specs.declared.Where.{Where}
use Rattle.sheet_definition.specs.Own.{shared, compared, nowhere, stale_as}
use Rattle.sheet_own.specs.Located.{located}

-- the marks after mark 0 that both sheets have
pub shared_is : (n own : ℕ) → shared n own ≡ min (n / 4) (own / 4)
unfolding shared q pick
shared_is n own =
    elim (dec_le (suc (n / 4)) (own / 4)) [ yes h ↦ rw (lt-ltb (n / 4) (own / 4) h) (omega arith) | no h ↦ rw (le-ltb (n / 4) (own / 4) (omega arith)) (omega arith) ]

module _ (code n : ℕ) (marks : List ℕ) (own : ℕ) (own_marks : List ℕ) (a : Answer) where
  pub as_it_is : (a.number ≡ STALE → ⊥)
      → record { number = a.number; count = a.count; rounds = a.rounds; place = nowhere } ≡ located code n marks own own_marks a
  unfolding located pick
  as_it_is h = rw (ne_eqb a.number STALE h)

  pub with_place : {s : ℕ} {v : Where} → a.number ≡ STALE → v ≡ compared code marks own_marks (shared n own) 0 → s ≡ stale_as v.found
      → record { number = s; count = a.count; rounds = a.rounds; place = v } ≡ located code n marks own own_marks a
  unfolding located pick
  with_place e f g = rw (eq-eqb a.number STALE e, g, f)

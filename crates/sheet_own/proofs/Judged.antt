-- How 15 is judged: the count, then the room, then mark 0.
-- Assumes nothing.
use mathlib.Core.Path.{◌≡◌, refl, sym, ◌∙◌}
use mathlib.Core.Bool.{Bool, true, false, not, ◌||◌}
use mathlib.Core.List.{List, [], ◌∷◌}
use Prim.Native.Nat.{ℕ, ◌*◌, ◌+◌, ◌≤◌}
use native.Mathlib.Omega.{arith}
use lib.Dec.{ltb}
use lib.ListN.{length}
use borrow.Author.Tests.{ltb-false}
use Rattle.definition.specs.Start.{start}
use Rattle.definition.specs.Width.{width_at}
use Rattle.definition.specs.Buffer.{same}
use Rattle.definition.specs.Refusal.{OWN, MARKS, pick, first_of}
use Rattle.std.specs.Prelude.{Result, Ok, Err}
use Rattle.std.specs.Result.{is_err}
use Rattle.refusals.specs.declared.Refusal.{Refusal}
use Rattle.refusals.specs.Number.{number_of}
use Rattle.refusals.proofs.Judged.{not_zero}
use Rattle.definition.proofs.Conditions.{either_false}
use Rattle.sheet_definition.specs.Sheet.{most, mark_words, q}
use Rattle.sheet_definition.specs.Marks.{mark_of}
use Rattle.sheet_definition.specs.Refusals.{marks_refusal}
use Rattle.sheet_definition.specs.Own.{used, own_refusal}

not_given : (b : Bool) → first_of ((OWN, b) ∷ []) ≡ 0 → b ≡ false
unfolding first_of pick
not_given true e = absurd (omega arith)
not_given false e = refl

-- whether a judgement of 6 alone is an error
said : (r : Result Unit Refusal) (b : Bool) → number_of r ≡ first_of ((MARKS, b) ∷ []) → is_err r ≡ b
unfolding first_of pick
said (Ok u) true e = absurd (omega arith)
said (Ok u) false e = refl
said (Err x) true e = refl
said (Err x) false e = absurd (not_zero x e)

-- the first of three that holds, or the last
first_holds : {k : ℕ} (a b c : Bool) → k ≡ first_of ((OWN, a) ∷ []) → (k ≡ 0 → ⊥) → k ≡ first_of ((OWN, (a || b) || c) ∷ [])
unfolding first_of pick
first_holds true b c e h = e
first_holds false b c e h = absurd (h e)

second_holds : {k : ℕ} (a b c : Bool) → k ≡ first_of ((OWN, b) ∷ []) → (k ≡ 0 → ⊥) → k ≡ first_of ((OWN, (a || b) || c) ∷ [])
unfolding first_of pick
second_holds true true c e h = e
second_holds false true c e h = e
second_holds a false c e h = absurd (h e)

module _ (code n : ℕ) (marks : List ℕ) where
  pub too_many : {k : ℕ} → k ≡ first_of ((OWN, ltb most n) ∷ []) → (k ≡ 0 → ⊥) → k ≡ first_of (own_refusal code n marks ∷ [])
  unfolding own_refusal
  too_many e h = first_holds (ltb most n) _ _ e h

  module _ (r : Result Unit Refusal) (e : number_of r ≡ first_of (marks_refusal n (length marks) ∷ [])) where
    pub too_short : {k : ℕ} → k ≡ first_of ((OWN, is_err r) ∷ []) → (k ≡ 0 → ⊥) → k ≡ first_of (own_refusal code n marks ∷ [])
    unfolding own_refusal marks_refusal
    too_short f h = second_holds (ltb most n) _ _ (rw (said r _ e) at f) h

    -- there is a mark 0, which decides
    pub mark_0 : 0 ≡ first_of ((OWN, is_err r) ∷ []) → 40 * (0 + 1) ≤ length marks
    unfolding marks_refusal
    mark_0 f = omega (arith, ltb-false (length marks) (mark_words * (q n + 1)) (sym (said r _ e) ∙ not_given _ (sym f)))

    pub by_mark : 0 ≡ first_of ((OWN, ltb most n) ∷ []) → 0 ≡ first_of ((OWN, is_err r) ∷ []) → {b : Bool}
        → b ≡ not (same (used code marks 0) (mark_of (start (width_at code)))) → first_of ((OWN, b) ∷ []) ≡ first_of (own_refusal code n marks ∷ [])
    unfolding own_refusal marks_refusal
    by_mark z f g = rw (g, not_given _ (sym z), sym (said r _ e) ∙ not_given _ (sym f))

  -- so where it doesn't hold, the marks have room
  pub own_room : first_of (own_refusal code n marks ∷ []) ≡ 0 → (n ≤ most) × (mark_words * (q n + 1) ≤ length marks)
  unfolding own_refusal
  own_room e =
      let o = either_false (ltb most n || ltb (length marks) (mark_words * (q n + 1))) _ (not_given _ e) in
      let p = either_false (ltb most n) (ltb (length marks) (mark_words * (q n + 1))) o.0 in
      (ltb-false most n p.0, ltb-false (length marks) (mark_words * (q n + 1)) p.1)

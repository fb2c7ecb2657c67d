-- What a judgement by a `Result` says of a call's list of refusals: at a `?` that refuses, and past it.
-- Assumes nothing.
use mathlib.Core.Path.{◌≡◌, refl, sym, ap, ◌∙◌}
use mathlib.Core.List.{List, ◌++◌}
use Prim.Native.Nat.{◌<◌}
use native.Mathlib.Omega.{arith}
use Rattle.std.specs.Prelude.{Result, Ok, Err, IsErrAnd}
use Rattle.definition.specs.Refusal.{first_of, Refusal as Judgement}
use Rattle.definition.proofs.Refusals.{Numbered, front-given, rest-given}
use Rattle.refusals.specs.declared.Refusal.{Refusal}
use Rattle.refusals.specs.declared.Refusal.TheVariants.{Width, Out, Record, Long, Sheet, Marks, Place, Full, Size, Claim, Stale, Words, Batch, Set, Own, StaleTail, Odd, Back, Hops, Unsound, Well, Reach, Places, Columns, Lists}
use Rattle.refusals.specs.Number.{number, number_of}

-- 0 is no refusal's number
pub above_zero : (r : Refusal) → 0 < number r
above_zero Width = omega arith
above_zero Out = omega arith
above_zero Record = omega arith
above_zero Long = omega arith
above_zero Sheet = omega arith
above_zero Marks = omega arith
above_zero Place = omega arith
above_zero Full = omega arith
above_zero Size = omega arith
above_zero Claim = omega arith
above_zero Stale = omega arith
above_zero Words = omega arith
above_zero Batch = omega arith
above_zero Set = omega arith
above_zero Own = omega arith
above_zero StaleTail = omega arith
above_zero Odd = omega arith
above_zero Back = omega arith
above_zero Hops = omega arith
above_zero Unsound = omega arith
above_zero Well = omega arith
above_zero Reach = omega arith
above_zero Places = omega arith
above_zero Columns = omega arith
above_zero Lists = omega arith

pub not_zero : (r : Refusal) → number r ≡ 0 → ⊥
not_zero r e = let above = above_zero r in absurd (omega arith)

-- what a `?` hands on has the number of what it was handed
pub handed_on : {A : Type 0} (r : Result A Refusal) (e : Refusal) → IsErrAnd r (λ y. y ≡ e) → number_of r ≡ number e
handed_on (Ok a) e h = absurd h
handed_on (Err y) e h = ap number h

pub isnt_done : {A : Type 0} (r : Result A Refusal) (e : Refusal) → IsErrAnd r (λ y. y ≡ e) → number_of r ≡ 0 → ⊥
isnt_done r e h z = not_zero e (sym (handed_on r e h) ∙ z)

-- refused at a `?`: what is handed on is the list's first, whatever is judged after it
pub refused : {A : Type 0} (r : Result A Refusal) (e : Refusal) (rs ss : List Judgement) → IsErrAnd r (λ y. y ≡ e) → number e ≡ first_of rs → number_of r ≡ first_of (rs ++ ss)
refused r e rs ss h f = handed_on r e h ∙ front-given rs ss f (not_zero e)

-- past a `?`: what is judged after it decides
pub passed : (rs ss : List Judgement) → Numbered rs → 0 ≡ first_of rs → first_of (rs ++ ss) ≡ first_of ss
passed rs ss n f = rest-given rs ss n f refl

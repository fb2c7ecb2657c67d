-- The answer to a call is the first refusal whose condition holds: one law for all calls.
-- Assumes nothing.
use mathlib.Core.Path.{◌≡◌, refl, sym, ◌∙◌}
use mathlib.Core.Logic.{◌↔◌}
use mathlib.Core.Bool.{Bool, true, false}
use mathlib.Core.List.{List, [], ◌∷◌, ◌++◌}
use Prim.Native.Nat.{ℕ, zero, suc, ◌<◌}
use native.Mathlib.Omega.{arith}
use lib.Dec.{eqb}
use Rattle.definition.specs.Refusal.{Refusal, First, NoneHolds, Judged, pick, first_of, numbers_of, condition_of, when_done}
use Rattle.definition.specs.Refusal.First.{here, later}
use Rattle.definition.specs.Refusal.NoneHolds.{none, more}
use Rattle.definition.specs.Buffer.{Every}

-- the numbers of a list of refusals are not 0
abbrev pub Numbered : List Refusal → Type 0
Numbered = Every (λ r. 0 < r.0)

-- a number is given exactly when its condition holds and none ranked before it does
pub first_given : {k : ℕ} {rs : List Refusal} → First k rs → first_of rs ≡ k
unfolding first_of pick
first_given here = refl
first_given (later f) = first_given f

pub given_first : {k : ℕ} (rs : List Refusal) → first_of rs ≡ suc k → First (suc k) rs
unfolding first_of pick
given_first [] e = absurd (omega arith)
given_first {k} ((n, true) ∷ rs) e = rw e here
given_first ((n, false) ∷ rs) e = later (given_first rs e)

pub given_exactly : (k : ℕ) (rs : List Refusal) → (first_of rs ≡ suc k) ↔ First (suc k) rs
given_exactly k rs = (given_first rs, first_given)

-- so what holds of every number of a list holds of the number given
pub of_first : {k : ℕ} {rs : List Refusal} (P : ℕ → Type 0) → First k rs → Every (λ r. P r.0) rs → P k
of_first P here h = h.0
of_first P (later f) h = of_first P f h.1

-- 0 is given exactly when none holds
pub none_given : {rs : List Refusal} → NoneHolds rs → first_of rs ≡ 0
unfolding first_of pick
none_given none = refl
none_given (more h) = none_given h

pub given_none : (rs : List Refusal) → Numbered rs → first_of rs ≡ 0 → NoneHolds rs
unfolding first_of pick
given_none [] h e = none
given_none ((n, true) ∷ rs) h e = absurd (omega arith)
given_none ((n, false) ∷ rs) h e = more (given_none rs h.1 e)

pub none_exactly : (rs : List Refusal) → Numbered rs → (first_of rs ≡ 0) ↔ NoneHolds rs
none_exactly rs h = (given_none rs h, none_given)

-- so an answer that is the first of a list is judged by it
pub judged : {number : ℕ} (rs : List Refusal) → Numbered rs → number ≡ first_of rs → Judged number rs (numbers_of rs)
judged rs h e = rw e (record { in_order = refl; zero-given = none_exactly rs h; number-given = λ k. given_exactly k rs })

-- and where it is 0, the condition under each number fails
pub fails : (rs : List Refusal) → Numbered rs → first_of rs ≡ 0 → (k : ℕ) → condition_of k rs ≡ false
unfolding first_of condition_of pick
fails [] h e k = refl
fails ((n, true) ∷ rs) h e k = absurd (omega arith)
fails ((n, false) ∷ rs) h e k = either (eqb n k) (fails rs h.1 e k)
  where
    either : (b : Bool) → condition_of k rs ≡ false → pick b false (condition_of k rs) ≡ false
    either true f = unfold pick in refl
    either false f = unfold pick in f

-- two lists judged one after the other: the first answer that isn't 0
pub in_turn_lem : (rs ss : List Refusal) → Numbered rs → when_done (first_of rs) (first_of ss) (first_of rs) ≡ first_of (rs ++ ss)
unfolding first_of pick when_done
in_turn_lem [] ss h = refl
in_turn_lem ((suc n, true) ∷ rs) ss h = refl
in_turn_lem ((zero, true) ∷ rs) ss h = absurd (omega arith)
in_turn_lem ((n, false) ∷ rs) ss h = in_turn_lem rs ss h.1

pub then_judged : {i j k : ℕ} (rs ss : List Refusal) → Numbered rs → k ≡ when_done i j i → i ≡ first_of rs → j ≡ first_of ss → k ≡ first_of (rs ++ ss)
then_judged rs ss h e f g = e ∙ rw (f, g) (in_turn_lem rs ss h)

-- of a list that begins with another's refusals the front decides where one of its conditions holds
pub front-given : {k : ℕ} (rs ss : List Refusal) → k ≡ first_of rs → (k ≡ 0 → ⊥) → k ≡ first_of (rs ++ ss)
unfolding first_of pick
front-given [] ss e h = absurd (h e)
front-given ((n, true) ∷ rs) ss e h = e
front-given ((n, false) ∷ rs) ss e h = front-given rs ss e h

-- else what comes after it
pub rest-given : {k : ℕ} (rs ss : List Refusal) → Numbered rs → k ≡ first_of rs → k ≡ 0 → first_of (rs ++ ss) ≡ first_of ss
unfolding when_done
rest-given rs ss h e z = sym (in_turn_lem rs ss h) ∙ rw (sym e ∙ z)

-- what a call that isn't done leaves
pub not_done : {A : Type 0} (k : ℕ) (a b : A) → (k ≡ 0 → ⊥) → when_done k a b ≡ b
unfolding when_done
not_done zero a b h = absurd (h refl)
not_done (suc k) a b h = refl

-- where two judgements in their order give 0, both are 0
pub first_done : (a b : ℕ) → when_done a b a ≡ 0 → a ≡ 0
unfolding when_done
first_done zero b e = refl
first_done (suc a) b e = e

pub second_done : (a b : ℕ) → when_done a b a ≡ 0 → b ≡ 0
unfolding when_done
second_done zero b e = e
second_done (suc a) b e = absurd (omega arith)

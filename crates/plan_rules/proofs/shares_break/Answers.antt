-- `plan_rules::shares_break` meets its contract. The loop's invariant: what is left decides, and has the rest of the total.
-- Assumes nothing.
use mathlib.Core.Path.{◌≡◌, refl, sym, ap, ◌∙◌}
use mathlib.Core.Bool.{Bool, false, not, ◌||◌, or-true}
use mathlib.Core.List.{List}
use Prim.Native.Nat.{ℕ, zero, suc, ◌+◌, ◌<◌}
use native.Mathlib.Numerals.{add-one}
use native.Mathlib.Omega.{arith}
use borrow.Author.Tests.{eq-eqb, ne_eqb, le-leb, lt-leb}
use lib.Dec.{eqb}
use lib.ListN.{length, get_or, drop, drop_of_length-le}
use lib.Seq.{drop-cons}
use Rattle.plan_definition.specs.declared.Link.{Link}
use Rattle.plan_definition.specs.Some.{some}
use Rattle.plan_definition.specs.Well.{no_link}
use Rattle.plan_definition.specs.Rules.{no_share, total}
use Rattle.plan_rules.specs.Parts.{misshared}
use Rattle.plan_rules.proofs.shares_break.Goals as goal
use Rattle.plan_rules.proofs.shares_break.Goals.{then-l-eq0-via-then-l-eq0, then-l-eq0-via-else-l-eq0+then-left-l}

pub loop-l-init : goal.loop-l-init
loop-l-init c = (omega arith, omega arith, refl)

pub returns-then-is_empty : goal.returns-then-is_empty
unfolding misshared
returns-then-is_empty c = rw (sym c.is_empty.ensures ∙ c.if-is_empty.true)

module _ (ls : List Link) (k : ℕ) (h : k < length ls) where
  total_left : total (drop k ls) ≡ (get_or ls k no_link).share + total (drop (suc k) ls)
  unfolding total
  total_left = ap total (drop-cons ls k no_link h)

  some_left : some no_share (drop k ls) ≡ no_share (get_or ls k no_link) || some no_share (drop (suc k) ls)
  unfolding some
  some_left = ap (some no_share) (drop-cons ls k no_link h)

-- there are links: their shares decide
shares : (ls : List Link) {b : Bool} → b ≡ eqb (length ls) 0 → b ≡ false → some no_share ls || not (eqb (total ls) 1000) ≡ misshared (length ls) ls
unfolding misshared
shares ls e z = rw (sym e ∙ z)

pub returns-then-l-eq0 : goal.returns-then-l-eq0
unfolding no_share
returns-then-l-eq0 c =
    let ls = c.args.used.now in
    let l = c.loop-l in
    let i = l.l-index in
    let t = total_left ls i c.loop-l-test.true in
    elim c.then-l-eq0.branch [
      | then-l-eq0-via-then-l-eq0 w ↦
          rw (l.invariant.2 ∙ some_left ls i c.loop-l-test.true, lt-leb 1 (get_or ls i no_link).share (omega arith)) at (shares ls c.is_empty.ensures c.if-is_empty.false)
      | then-l-eq0-via-else-l-eq0+then-left-l w ↦
          rw (ne_eqb (total ls) 1000 (λ e. omega (arith, t, l.invariant.1)), or-true) at (shares ls c.is_empty.ensures c.if-is_empty.false)
    ]

pub loop-l-preserved : goal.loop-l-preserved
unfolding no_share
loop-l-preserved c =
    let ls = c.args.used.now in
    let l = c.loop-l in
    let i = l.l-index in
    let t = total_left ls i c.loop-l-test.true in
    let m = (get_or ls i no_link).share in (
      omega arith,
      rw (add-one i) (omega arith),
      rw (add-one i) (rw (le-leb 1 m (omega arith), le-leb m 1000 (omega arith)) at (l.invariant.2 ∙ some_left ls i c.loop-l-test.true)),
    )

-- nothing is left where the total is 1000
left : (a b : ℕ) → a + b ≡ 1000 → eqb b 0 ≡ eqb a 1000
left a zero e = sym (eq-eqb a 1000 (omega arith))
left a (suc b) e = ne_eqb (suc b) 0 (omega arith) ∙ sym (ne_eqb a 1000 (λ z. omega arith))

pub returns : goal.returns
unfolding some total
returns c =
    let ls = c.args.used.now in
    let l = c.loop-l in
    let none = drop_of_length-le ls {i = l.l-index} (omega arith) in
    let all : total ls + l.left ≡ 1000 = rw none at l.invariant.1 in
    let each : some no_share ls ≡ false = rw none at l.invariant.2 in
    rw (left (total ls) l.left all) (rw each at (shares ls c.is_empty.ensures c.if-is_empty.false))

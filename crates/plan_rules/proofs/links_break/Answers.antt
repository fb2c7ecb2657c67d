-- `plan_rules::links_break` meets its contract. The loop's invariant: what is left decides.
-- Assumes nothing.
use mathlib.Core.Path.{◌≡◌, refl, sym, ap, ◌∙◌}
use mathlib.Core.Bool.{Bool, not, ◌||◌}
use mathlib.Core.List.{List}
use Prim.Native.Nat.{ℕ, ◌+◌, ◌-◌, ◌<◌}
use native.Mathlib.Numerals.{add-one}
use native.Mathlib.Omega.{arith}
use lib.ListN.{length, get_or, take, drop, length-drop, drop_of_length-le}
use lib.Seq.{take_all, drop-cons}
use Rattle.std.specs.List.{list_any}
use lib.Dec.{eqb}
use Rattle.plan_definition.specs.declared.Link.{Link}
use Rattle.plan_definition.specs.Well.{no_link}
use Rattle.plan_definition.specs.Rules.{names_same, misnamed}
use Rattle.plan_definition.proofs.Some.{listed}
use Rattle.plan_numbers.specs.Numbers.{has}
use Rattle.plan_rules.proofs.links_break.Goals as goal
use Rattle.plan_rules.proofs.links_break.Goals.{then-not-has-via-then-not-has, then-not-has-via-else-not-has+then-named_again}

-- the next link breaks the rule, or one after it does
next : {h a b : Bool} (f : ℕ → Bool) (ls : List Link) (k : ℕ) → k < length ls
    → let l = get_or ls k no_link in
    h ≡ f l.injector
    → a ≡ list_any (λ m. eqb m.injector l.injector) (take (length ls - (k + 1)) (drop (k + 1) ls))
    → misnamed f (drop k ls) ≡ b
    → (not h || a || misnamed f (drop (k + 1) ls)) ≡ b
unfolding misnamed names_same
next f ls k g h a e =
    let l = get_or ls k no_link in
    let all = take_all (length ls - (k + 1)) (drop (k + 1) ls) (omega (arith, length-drop (k + 1) ls)) in
    (λ i. not (h i) || (a ∙ ap (list_any (names_same l)) all ∙ listed (names_same l) (drop (k + 1) ls)) i || misnamed f (drop (k + 1) ls))
    ∙ sym (rw (add-one k) (ap (misnamed f) (drop-cons ls k no_link g))) ∙ e

pub loop-k-init : goal.loop-k-init
loop-k-init c = refl

pub returns-then-not-has : goal.returns-then-not-has
unfolding misnamed
returns-then-not-has c =
    let a = c.args in
    let l = c.loop-k in
    elim c.then-not-has.branch [
      | then-not-has-via-then-not-has w ↦
          rw (w.if-not-has.true) at (next (has a.injectors.now) a.used.now l.k c.loop-k-test.true c.has.ensures refl l.invariant)
      | then-not-has-via-else-not-has+then-named_again w ↦
          rw (w.if-not-has.false, w.if-named_again.true) at (next (has a.injectors.now) a.used.now l.k c.loop-k-test.true c.has.ensures w.named_again.ensures l.invariant)
    ]

pub loop-k-preserved : goal.loop-k-preserved
loop-k-preserved c =
    let a = c.args in
    let l = c.loop-k in
    rw (c.if-not-has.false, c.if-named_again.false)
    at (next (has a.injectors.now) a.used.now l.k c.loop-k-test.true c.has.ensures c.named_again.ensures l.invariant)

pub returns : goal.returns
unfolding misnamed
returns c =
    rw (drop_of_length-le c.args.used.now {i = c.loop-k.k} (omega arith)) at c.loop-k.invariant

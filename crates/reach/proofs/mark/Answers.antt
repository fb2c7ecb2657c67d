-- `reach::mark` meets its contract. The loop's invariant: the bytes of the places passed are marked by what touches their wells.
-- Assumes nothing.
use mathlib.Core.Path.{◌≡◌, refl, sym, ap, ◌∙◌}
use mathlib.Core.Bool.{true, false}
use native.Mathlib.Numerals.{add-one}
use native.Mathlib.Omega.{arith}
use lib.ListN.{length, get_or}
use Rattle.std.proofs.lemmas.List.{set-get_or}
use Rattle.definition.specs.Refusal.{pick}
use Rattle.plan_definition.specs.Well.{well_of}
use Rattle.plan_numbers.specs.Numbers.{has}
use Rattle.reach.specs.Sets.{touches}
use Rattle.reach.proofs.Wells.{few-links, read_at, read-among, at_each}
use Rattle.reach.proofs.Steps.{next-byte}
use Rattle.reach.proofs.mark.Invariants.{test}
use Rattle.reach.proofs.mark.Goals as goal
use Rattle.reach.proofs.mark.Goals.{then-touched, else-touched}

pub loop-i-init : goal.loop-i-init
loop-i-init c = record { below = λ q l. absurd (omega arith); from = λ q l. refl }

pub touched-requires : goal.touched-requires
touched-requires c = few-links c.requires.sound (read-among c.requires {i = c.loop-i.i} (omega arith) c.read-w.ensures)

-- what is told is the test at the place
told : (c : goal.Joined-touched) →
    let a = c.args in
    test a.records.now a.taken.now a.kind c.loop-i.i ≡ c.touched.result
told c =
    let a = c.args in
    let w = read_at c.requires {i = c.loop-i.i} (omega arith) c.read-w.ensures in
    sym (c.touched.ensures ∙ ap (touches (has a.taken.now) a.kind) w)

pub loop-i-preserved : goal.loop-i-preserved
unfolding pick
loop-i-preserved c =
    let a = c.args in
    let l = c.loop-i in
    let f = test a.records.now a.taken.now a.kind in
    let next = next-byte f l.i a.reached.now l.reached c.if-touched.reached (omega (arith, l.auto.reached)) l.invariant in
    rw (add-one l.i) (elim c.if-touched.branch [
      | then-touched s ↦ next true (told c ∙ s.if-touched.true) s.reached-is
      | else-touched s ↦ next false (told c ∙ s.if-touched.false) (s.reached-is ∙ set-get_or l.reached l.i 0)
    ])

pub returns : goal.returns
unfolding well_of
returns c =
    let l = c.loop-i in
    let a = c.args in
    at_each a.records.now (length a.reached.now) (λ w. get_or l.reached w.place 0 ≡ pick (touches (has a.taken.now) a.kind w) 1 (get_or a.reached.now w.place 0))
    (λ p h. l.invariant.below p (omega (arith, l.auto.reached)))

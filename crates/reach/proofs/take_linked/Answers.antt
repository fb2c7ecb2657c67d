-- `reach::take_linked` meets its contract. The loop's invariant: what the wells left link and what is in the set are all.
-- Assumes nothing.
use mathlib.Core.Path.{◌≡◌, ◌∙◌, fun_ext}
use mathlib.Core.Bool.{◌||◌}
use mathlib.Core.List.{◌∷◌}
use Prim.Native.Nat.{ℕ, suc}
use native.Mathlib.Numerals.{add-one}
use native.Mathlib.Omega.{arith}
use lib.ListN.{length}
use Rattle.plan_definition.specs.Some.{some}
use Rattle.plan_definition.specs.Well.{well_of, wells}
use Rattle.plan_definition.specs.Rules.{used}
use Rattle.plan_definition.proofs.Places.{well_at, left, left_all, left_step, left_none}
use Rattle.plan_numbers.specs.Numbers.{has}
use Rattle.reach.specs.Sets.{linked_from, plus_linked}
use Rattle.reach.proofs.Wells.{few-links, read_at, read-among}
use Rattle.reach.proofs.Steps.{with_linked, with_unmarked}
use Rattle.reach.proofs.take_linked.Goals as goal
use Rattle.reach.proofs.take_linked.Goals.{then-reached-i-eq1, else-reached-i-eq1}

pub loop-i-init : goal.loop-i-init
loop-i-init c = λ k. rw (left_all (length c.args.reached.now) c.args.records.now)

-- the well at the place, those after it and what is in the set
step : (c : goal.Joined-reached-i-eq1) (k : ℕ) →
    let r = c.args.reached.now in
    let n = length r in
    let records = c.args.records.now in
    let l = c.loop-i in
    (some (linked_from r k) (well_at l.i records ∷ left (suc l.i) n records) || has l.taken k)
    ≡ (some (linked_from r k) (wells n records) || has c.args.taken.now k)
step c k = rw (left_step (length c.args.reached.now) c.args.records.now c.loop-i.i (omega arith)) at (c.loop-i.invariant k)

pub shared_ref_as_front-take : goal.shared_ref_as_front-take
shared_ref_as_front-take c =
    rw c.from.ensures (few-links c.requires.sound (read-among c.requires {i = c.loop-i.i} (omega arith) c.read-w.ensures))

pub loop-i-preserved : goal.loop-i-preserved
unfolding well_of used
loop-i-preserved c =
    let r = c.args.reached.now in
    let records = c.args.records.now in
    let l = c.loop-i in
    let ws = left (suc l.i) (length r) records in
    λ k. rw (add-one l.i) (elim c.if-reached-i-eq1.branch [
      | then-reached-i-eq1 t ↦ with_linked r k (well_at l.i records) ws (has l.taken) (has c.if-reached-i-eq1.taken) t.read-w.result
          (read_at c.requires {i = l.i} (omega arith) t.read-w.ensures) t.if-reached-i-eq1.true (rw t.taken-is (rw t.from.ensures at t.take.ensures)) ∙ step c k
      | else-reached-i-eq1 t ↦ rw t.taken-is (with_unmarked r k (well_at l.i records) ws (has l.taken) t.if-reached-i-eq1.false ∙ step c k)
    ])

pub returns : goal.returns
unfolding plus_linked some
returns c =
    let l = c.loop-i in
    let n = length c.args.reached.now in
    let e : l.i ≡ n = omega arith in
    fun_ext (λ k. rw (left_none n c.args.records.now) at (rw e at (l.invariant k)))

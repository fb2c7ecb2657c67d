-- `reach::search` meets its contract: from the well itself so many hops, and then the marks of the injectors.
-- Assumes nothing.
use mathlib.Core.Path.{◌≡◌, sym, ap, ◌∙◌}
use mathlib.Core.Bool.{false}
use mathlib.Core.Logic.◌⊎◌.{inl, inr}
use mathlib.Core.Logic.{◌⊎◌}
use Prim.Native.Nat.{ℕ}
use borrow.Author.Rules.{rules}
use lib.ListN.{length, replicate, length-set}
use Rattle.plan_definition.specs.declared.Well.{Well}
use Rattle.plan_definition.specs.Well.{wells}
use Rattle.plan_definition.specs.Rules.{struck}
use Rattle.plan_definition.proofs.Places.{well_at}
use Rattle.plan_numbers.specs.Numbers.{has}
use Rattle.reach.specs.Level.{Level}
use Rattle.reach.proofs.Wells.{either_kind, reads, at_among, read_at}
use Rattle.reach.proofs.Ends.{producer-search, injector-search, all_marks}
use Rattle.reach.proofs.search.Goals as goal
use Rattle.reach.proofs.search.Goals.{then-w-eq-PRODUCER, else-w-eq-PRODUCER}

zeros : (c : goal.After-slice_known-3-1) → c.fill.new.self ≡ replicate (length c.args.reached.now) 0
zeros c = search rules

-- the well that was read
the_well : (c : goal.After-slice_known-3-1) → let a = c.args in
    c.read-w.result ≡ well_at a.place a.records.now
the_well c = read_at c.requires.0 {i = c.args.place} c.requires.1 c.read-w.ensures

-- which isn't struck
stands : (s : goal.After-slice_known-3-1) → struck (well_at s.args.place s.args.records.now) ≡ false
stands s = rw (reads s.requires.0 {i = s.args.place} s.requires.1) at s.requires.2

-- so many hops from the well
level : (c : goal.After-slice_known-3-1) → let a = c.args in
    Level (wells (length a.reached.now) a.records.now) (well_at a.place a.records.now) a.hops c.if-w-eq-PRODUCER.reached (has c.if-w-eq-PRODUCER.taken)
level c =
    let a = c.args in
    let kind = ap (λ (w : Well). w.kind) (the_well c) in
    elim c.if-w-eq-PRODUCER.branch [
      | then-w-eq-PRODUCER t ↦ rw (t.reached-is, t.taken-is)
          (producer-search c.requires.0 a.place c.requires.1 (sym kind ∙ t.if-w-eq-PRODUCER.true) c.fill.new.self (zeros c) a.hops _ _ _
          (length-set c.fill.new.self a.place 1 ∙ c.fill.auto.self) t.from_producers.ensures)
      | else-w-eq-PRODUCER t ↦ rw (t.reached-is, t.taken-is)
          (injector-search c.requires.0 a.place c.requires.1 (other (either_kind c.requires.0.sound (at_among c.requires.0 c.requires.1) (stands c)) (λ e. t.if-w-eq-PRODUCER.false (kind ∙ e)))
          c.fill.new.self (zeros c) _ (rw (the_well c) at t.put.ensures) a.hops _ _ _ c.fill.auto.self t.from_injectors.ensures)
    ]
  where
    other : {k : ℕ} → (k ≡ 1) ⊎ (k ≡ 2) → (k ≡ 1 → ⊥) → k ≡ 2
    other (inl e) d = absurd (d e)
    other (inr e) d = e

pub returns : goal.returns
returns c =
    let a = c.args in
    let long = c.if-w-eq-PRODUCER.auto.reached ∙ c.fill.auto.self in
    rw (reads c.requires.0 {i = a.place} c.requires.1)
    (all_marks c.requires.0 a.place c.requires.1 (stands c) _ (level c) (rw long at c.mark.ensures) (c.mark.auto.reached ∙ long))

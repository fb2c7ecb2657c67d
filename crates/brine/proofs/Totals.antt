-- The totals of a batch are put together sheet by sheet.
-- Assumes nothing.
use mathlib.Core.Path.{◌≡◌}
use mathlib.Core.List.{List, [], ◌∷◌}
use Prim.Native.Nat.{◌+◌}
use native.Mathlib.Omega.{arith}
use Rattle.plan_definition.specs.declared.Well.{Well}
use Rattle.brine_definition.specs.declared.Statement.{Statement}
use Rattle.brine_definition.specs.Count.{sum, count}
use Rattle.brine_definition.specs.Statement.{page, intakes, spares, below_zero, statement_of}
use Rattle.brine_definition.proofs.Sums.{page-intakes, page-spares}
use Rattle.brine_definition.specs.Said.{AnswerFits}

-- the totals of some sheets with those of others
abbrev pub plus : (a b : Statement) → Statement
plus a b =
    record {
      number = 0;
      sound = a.sound + b.sound;
      faulted = a.faulted + b.faulted;
      intake = a.intake + b.intake;
      overloaded = a.overloaded + b.overloaded;
    }

-- are those of all
pub record Adds (a b all : Statement) : Type 0 where
  pub sound : a.sound + b.sound ≡ all.sound
  pub faulted : a.faulted + b.faulted ≡ all.faulted
  pub intake : a.intake + b.intake ≡ all.intake
  pub overloaded : a.overloaded + b.overloaded ≡ all.overloaded

pub first_and_rest : (ws : List Well) (wss : List (List Well)) → Adds (statement_of (ws ∷ [])) (statement_of wss) (statement_of (ws ∷ wss))
unfolding statement_of page intakes spares sum count
first_and_rest ws wss =
    record {
      sound = omega arith;
      faulted = omega arith;
      intake = omega (arith, page-intakes ws wss, page-intakes ws []);
      overloaded = omega (arith, page-spares ws wss below_zero, page-spares ws [] below_zero);
    }

-- a sheet's are added
pub adds_more : (a all : Statement) (ws : List Well) (wss : List (List Well)) → Adds a (statement_of (ws ∷ wss)) all
    → Adds (plus a (statement_of (ws ∷ []))) (statement_of wss) all
adds_more a all ws wss h =
    let f = first_and_rest ws wss in
    record { sound = omega arith; faulted = omega arith; intake = omega arith; overloaded = omega arith }

-- with none left they are those of all
pub adds_all : (a : Statement) (wss : List (List Well)) → a.number ≡ 0 → Adds a (statement_of []) (statement_of wss) → a ≡ statement_of wss
unfolding statement_of page intakes spares sum count
adds_all a wss e h =
    let s : a.sound ≡ (statement_of wss).sound = omega (arith, h.sound) in
    let f : a.faulted ≡ (statement_of wss).faulted = omega (arith, h.faulted) in
    let t : a.intake ≡ (statement_of wss).intake = omega (arith, h.intake) in
    let o : a.overloaded ≡ (statement_of wss).overloaded = omega (arith, h.overloaded) in
    λ i. record { number = e i; sound = s i; faulted = f i; intake = t i; overloaded = o i }

-- where those of all fit, those of some do
pub part_fits : {a b all : Statement} → Adds a b all → AnswerFits all → AnswerFits a
part_fits h f = record { sound = omega arith; faulted = omega arith; intake = omega arith; overloaded = omega arith }

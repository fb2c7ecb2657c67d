-- What a call leaves: done, the marks of the n records and the bytes after them as they were; refused, all as it was.
-- Assumes nothing.
use mathlib.Core.Path.{◌≡◌, refl, ◌∙◌}
use mathlib.Core.List.{List, ◌++◌}
use Prim.Native.Nat.{ℕ, zero, suc}
use lib.ListN.{length, take, drop, length-map}
use lib.Seq.{take_at, drop_at}
use Rattle.definition.specs.Refusal.{first_of, when_done}
use Rattle.plan_definition.specs.Well.{wells}
use Rattle.plan_definition.proofs.Listed.{length-wells}
use Rattle.reach_definition.specs.Reach.{marks, reach_refusals, reach_outcome}

pub length-marks : (n : ℕ) (sheet : List ℕ) (k hops : ℕ) → length (marks (wells n sheet) k hops) ≡ n
unfolding marks
length-marks n sheet k hops = length-map (wells n sheet) _ ∙ length-wells n sheet

module _ (sheet : List ℕ) (n k hops : ℕ) (reached : List ℕ) where
  -- the number that is given
  abbrev pub given : ℕ
  given = first_of (reach_refusals sheet n k hops (length reached))

  pub done : given ≡ 0 → reach_outcome sheet n k hops reached ≡ record { number = 0; reached = marks (wells n sheet) k hops ++ drop n reached }
  unfolding reach_outcome when_done
  done e = rw e

  pub refused : (j : ℕ) → given ≡ suc j → reach_outcome sheet n k hops reached ≡ record { number = suc j; reached = reached }
  unfolding reach_outcome when_done
  refused j e = rw e

  pub number_of : (reach_outcome sheet n k hops reached).number ≡ given
  number_of = go given refl
    where
      go : (j : ℕ) → given ≡ j → (reach_outcome sheet n k hops reached).number ≡ j
      go zero e = rw (done e)
      go (suc j) e = rw (refused j e)

  -- where it is 0 the marks stand in front, and the bytes after the n-th stay
  pub reached_left : given ≡ 0 → (take n (reach_outcome sheet n k hops reached).reached ≡ marks (wells n sheet) k hops)
      × (drop n (reach_outcome sheet n k hops reached).reached ≡ drop n reached)
  reached_left e =
      let m = marks (wells n sheet) k hops in
      let long = length-marks n sheet k hops in
      rw (done e) (take_at m (drop n reached) n long, drop_at m (drop n reached) n long)

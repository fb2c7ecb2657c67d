-- `plan_record::well` meets its contract: its parts, where they lie in the record.
-- Assumes nothing.
use mathlib.Core.Path.{◌≡◌, ap, ◌∙◌}
use mathlib.Core.Bool.{not}
use mathlib.Core.List.{[], ◌∷◌}
use Prim.Native.Nat.{◌-◌}
use native.Mathlib.Omega.{arith}
use lib.ListN.{length, get_or, drop, length-drop}
use lib.Seq.{take_all}
use Rattle.sheet_definition.specs.Struck.{all_zero}
use Rattle.plan_definition.specs.Well.{well_of}
use Rattle.plan_record.proofs.well.Goals as goal

-- the note is what is left of it
note : (c : goal.After-zeros) → c.zeros.result ≡ all_zero (drop 24 c.args.t.now)
note c =
    let t = c.args.t.now in
    c.zeros.ensures ∙ ap all_zero (take_all (length t - 24) (drop 24 t) (omega (arith, length-drop 24 t)))

pub returns : goal.returns
unfolding well_of
returns c =
    let a = c.args in
    λ i. record {
      place = a.place;
      number = c.two.ensures i;
      kind = get_or a.t.now 2 0;
      count = get_or a.t.now 3 0;
      rate = c.four.ensures i;
      links = c.link.ensures i ∷ c.link-2.ensures i ∷ c.link-3.ensures i ∷ c.link-4.ensures i ∷ [];
      noted = not (note c i);
    }

-- `hash_record::read` meets its contract: the length and the reserved bytes are tested, and then the record is read.
-- Assumes nothing.
use mathlib.Core.Path.{◌≡◌, sym, ap, ◌∙◌}
use mathlib.Core.Bool.{Bool}
use mathlib.Core.List.{List}
use Prim.Native.Nat.{ℕ}
use borrow.Author.Tests.{eq-eqb, ne_eqb}
use lib.ListN.{take, drop}
use Rattle.definition.specs.Refusal.{pick}
use Rattle.hash_definition.specs.Record.{all_zero}
use Rattle.hash_record.specs.Reading.{framed, reading}
use Rattle.hash_record.proofs.read.Goals as goal
use Rattle.hash_record.proofs.read.Goals.{in_default-via-in-Ok+else-reserved_zero, in_default-via-in_default}

-- what the test of the array said of the bytes that it was made from
reserved : {x y : List ℕ} {r s : Bool} → x ≡ y → r ≡ all_zero (take 6 (drop 2 x)) → r ≡ s → all_zero (take 6 (drop 2 y)) ≡ s
reserved e f g = sym (f ∙ ap (λ (l : List ℕ). all_zero (take 6 (drop 2 l))) e) ∙ g

pub returns-in-Ok : goal.returns-in-Ok
unfolding reading pick framed
returns-in-Ok c =
    let r = c.in-Ok.ensures.1 in
    rw (eq-eqb _ _ r.long, reserved r.same c.reserved_zero.ensures c.if-reserved_zero.true, c.decode.ensures, r.same)

pub returns-in_default : goal.returns-in_default
unfolding reading pick framed
returns-in_default c =
    elim c.in_default.branch [
      | in_default-via-in-Ok+else-reserved_zero w ↦
          let r = w.in-Ok.ensures.1 in
          rw (eq-eqb _ _ r.long, reserved r.same w.reserved_zero.ensures w.if-reserved_zero.false) c.nothing.ensures
      | in_default-via-in_default w ↦ rw (ne_eqb _ _ w.in_default.ensures.1) c.nothing.ensures
    ]

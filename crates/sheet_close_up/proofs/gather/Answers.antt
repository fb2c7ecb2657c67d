-- `sheet_close_up::gather` meets its contract. The loop's invariant: of the first i records those that stand are gathered.
-- Assumes nothing.
use mathlib.Core.Path.{◌≡◌, refl, sym, ap, ◌∙◌}
use mathlib.Core.List.{List}
use Prim.Native.Nat.{ℕ, suc, ◌*◌, ◌≤◌}
use native.Mathlib.Numerals.{add-one}
use native.Mathlib.Omega.{arith}
use lib.ListN.{length, take, drop}
use Rattle.definition.specs.Buffer.{overwrite_at}
use Rattle.sheet_definition.specs.Sheet.{record_bytes}
use Rattle.sheet_definition.specs.Struck.{all_zero}
use Rattle.sheet_close_up.proofs.Moved.{part_size, none_gathered, copied, stand, next-record, passed, moved}
use Rattle.sheet_close_up.proofs.gather.Goals as goal
use Rattle.sheet_close_up.proofs.gather.Goals.{then-not-zeros, else-not-zeros}

pub loop-i-init : goal.loop-i-init
loop-i-init c = (omega arith, refl, none_gathered c.args.sheet.now c.args.places.now)

-- what was asked of the record at the place is asked of the sheet as it was lent
asked : (c : goal.Joined-not-zeros) →
    c.zeros.result ≡ all_zero (take record_bytes (drop (record_bytes * c.loop-i.i) c.args.sheet.now))
asked c =
    let l = c.loop-i in
    let p = c.requires in
    c.zeros.ensures ∙ simp part_size (ap all_zero (next-record _ _ l.i _ _ _ (omega (arith, p.1)) (omega (arith, p.2)) l.invariant.2))

pub loop-i-preserved : goal.loop-i-preserved
loop-i-preserved c =
    let l = c.loop-i in
    let v = l.invariant.2 in
    let r : record_bytes * suc l.i ≤ length c.args.sheet.now = omega (arith, c.requires.1) in
    let p : suc l.i ≤ length c.args.places.now = omega (arith, c.requires.2) in
    let r' : record_bytes * l.i ≤ length c.args.sheet.now = omega (arith, r) in
    let p' : l.i ≤ length c.args.places.now = omega (arith, p) in
    rw (add-one l.i)
    (stand _ _ _ _ _ _ r p (elim c.if-not-zeros.branch [
      | then-not-zeros s ↦ rw (s.sheet-is ∙ s.copy_within.ensures.after ∙ copied (record_bytes * l.i) (record_bytes * l.count) l.sheet (omega (arith, r, l.invariant.1)) ∙ ap (λ (x : List ℕ). overwrite_at (record_bytes * l.count) x l.sheet) (next-record _ _ l.i _ _ _ r' p' v), s.places-is, s.count-is, add-one l.count)
          (moved _ _ _ _ _ _ r' p' v (sym (asked c) ∙ s.if-not-zeros.true) p)
      | else-not-zeros s ↦ rw (s.sheet-is, s.places-is, s.count-is) (passed _ _ _ _ _ _ r' p' v (sym (asked c) ∙ s.if-not-zeros.false))
    ]))

-- `columns_inject::inject_by` meets its contract.
-- Assumes nothing.
use mathlib.Core.Path.{◌≡◌, sym, ap, ◌∙◌}
use mathlib.Core.List.{List, [], ◌∷◌, ◌++◌, map}
use Prim.Native.Nat.{ℕ, ◌+◌, ◌-◌, ◌*◌, ◌<◌}
use native.Mathlib.Omega.{arith}
use borrow.Rule.Slice.PartMut.{put_mid}
use lib.ListN.{length, get_or, take, drop, length-map}
use Rattle.columns_definition.specs.Dump.{column_at}
use Rattle.columns_definition.specs.Columns.{row_sum}
use Rattle.columns_definition.proofs.Filling.{part_set}
use Rattle.columns_inject.specs.Coefficients.{numbers}
use Rattle.columns_inject.proofs.Injecting.{injected_to, injected_none, injected_more, injected_all}
use Rattle.columns_inject.proofs.inject_by.Goals as goal

-- one position more, where k bytes from its place on are read and written
more : (rows : List (List ℕ)) (n : ℕ) (d m : List ℕ) → length rows ≡ n → length d ≡ 32 * n
    → (l k : ℕ) (before r : List ℕ) → l < 32 → k ≡ n → before ≡ injected_to rows n d m l
    → r ≡ map (λ cs. row_sum cs (take k (drop (n * l) before) ++ get_or m l 0 ∷ [])) rows
    → (length (put_mid (n * l) k before r) ≡ 32 * n) × (put_mid (n * l) k before r ≡ injected_to rows n d m (l + 1))
unfolding column_at
more rows n d m s e l k before r h f b q =
    let t =
    injected_more rows n d m s e l before (put_mid (n * l) k before r) r h b (rw f at q)
    (part_set (n * l) k r before (f ∙ sym (ap length q ∙ length-map rows _ ∙ s))) in
    (t.0 ∙ e, t.1)

pub loop-l-init : goal.loop-l-init
loop-l-init g c = let a = c.args in (c.requires.0, injected_none (map numbers a.matrix.now) g.row.W a.dump.now a.message.now)

pub loop-l-preserved : goal.loop-l-preserved
loop-l-preserved g c =
    let a = c.args in
    let l = c.loop-l in
    let n : ℕ = g.row.W in
    rw c.copy_from_slice.ensures.after
    (more (map numbers a.matrix.now) n a.dump.now a.message.now (length-map a.matrix.now numbers ∙ c.type_inv.matrix) c.requires.0 l.l (n * l.l + n - n * l.l)
    l.dump c.mixed-column.result (omega arith) (omega arith) l.invariant.1 c.mixed-column.ensures)

pub returns : goal.returns
returns g c =
    let a = c.args in
    let l = c.loop-l in
    let e : l.l ≡ 32 = omega arith in
    (rw e at l.invariant.1)
    ∙ injected_all (map numbers a.matrix.now) g.row.W a.dump.now a.message.now (length-map a.matrix.now numbers ∙ c.type_inv.matrix) c.requires.0

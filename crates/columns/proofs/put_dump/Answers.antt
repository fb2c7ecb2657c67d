-- `columns::put_dump` meets its contract. The loop's invariant: the first l positions are written.
-- Assumes nothing.
use mathlib.Core.Path.{◌≡◌, refl, ap, ◌∙◌}
use mathlib.Core.List.{List, map}
use Prim.Native.Nat.{ℕ, ◌+◌, ◌-◌, ◌*◌, ◌<◌}
use native.Mathlib.Nat.{mul_comm}
use native.Mathlib.Omega.{arith}
use lib.ListN.{length, take, drop, length-drop, length-map}
use lib.Seq.{length-take-le}
use Rattle.definition.specs.Block.{block_from}
use Rattle.columns_definition.specs.Dump.{dump}
use Rattle.columns_definition.proofs.Dumps.{length_column_of}
use Rattle.columns_definition.proofs.Filling.{part_set, rows_none, rows_more, rows-length, rows_all}
use Rattle.columns_definition.proofs.Rows.{row_inside}
use Rattle.columns.proofs.put_dump.Invariants.{bytes}
use Rattle.columns.proofs.put_dump.Goals as goal

length-bytes : (blocks : List (List ℕ)) (l : ℕ) → length (bytes blocks l) ≡ length blocks
unfolding bytes
length-bytes blocks l = length_column_of l (map block_from blocks) ∙ length-map blocks block_from

pub loop-l-init : goal.loop-l-init
loop-l-init c = (omega arith, refl, rows_none (length c.args.blocks.now) _ _)

-- n bytes stand at each of the 32 positions
part : (n l : ℕ) (d : List ℕ) → l < 32 → length d ≡ 32 * n → length (take (n * l + n - n * l) (drop (n * l) d)) ≡ n
part n l d h e =
    let k : n * l + n - n * l ≡ n = omega arith in
    rw k (length-take-le n (drop (n * l) d) (omega (arith, row_inside n l h, length-drop (n * l) d, e)))

pub put_position-requires : goal.put_position-requires
put_position-requires c =
    let a = c.args in
    let l = c.loop-l in
    (omega arith, part (length a.blocks.now) l.l l.dump (omega arith) (l.invariant.1 ∙ c.requires))

pub loop-l-preserved : goal.loop-l-preserved
unfolding bytes
loop-l-preserved c =
    let a = c.args in
    let l = c.loop-l in
    let n : ℕ = length a.blocks.now in
    let f : ℕ → List ℕ = bytes a.blocks.now in
    let rows : (i : ℕ) → length (f i) ≡ n = length-bytes a.blocks.now in
    let i : c.put_position.new.bytes ≡ f l.l = c.put_position.ensures in
    let e =
    part_set (n * l.l) (n * l.l + n - n * l.l) c.put_position.new.bytes l.dump (omega (arith, ap length i, rows l.l))
    ∙ rw (i, l.invariant.2) (rows_more n f a.dump.now l.l (λ i h. rows i)) in (
      omega arith,
      ap length e ∙ rows-length n f a.dump.now (l.l + 1) (λ i h. rows i) 32 (omega arith) (c.requires ∙ mul_comm 32 n),
      e,
    )

pub returns : goal.returns
unfolding dump bytes
returns c =
    let a = c.args in
    let l = c.loop-l in
    let n : ℕ = length a.blocks.now in
    let e : l.l ≡ 32 = omega arith in
    (rw e at l.invariant.2) ∙ rows_all n (bytes a.blocks.now) a.dump.now 32 (λ i h. length-bytes a.blocks.now i) (c.requires ∙ mul_comm 32 n)

pub shape_of-dump : goal.shape_of-dump
shape_of-dump c =
    c.loop-l.invariant.1

-- `columns::put_position` meets its contract.
-- Assumes nothing.
use mathlib.Core.Path.{◌≡◌, sym, ap₂, ◌∙◌}
use mathlib.Core.List.{List, [], ◌∷◌, ◌++◌, map}
use Prim.Native.Nat.{ℕ, ◌+◌, ◌<◌}
use native.Mathlib.Numerals.{add-one}
use native.Mathlib.Omega.{arith}
use lib.ListN.{length, get_or, set, take}
use lib.Seq.{take_all, take-suc-set}
use Rattle.std.proofs.lemmas.List.{map_more}
use Rattle.std.proofs.lemmas.Simd.{map-map}
use Rattle.definition.specs.Block.{block_from}
use Rattle.definition.specs.Field.{element}
use Rattle.columns_definition.specs.Dump.{column}
use Rattle.columns.proofs.put_position.Invariants.{byte}
use Rattle.columns.proofs.put_position.Goals as goal

-- one block more
more : (f : List ℕ → ℕ) (blocks : List (List ℕ)) (bytes : List ℕ) (j : ℕ) {x : ℕ}
    → j < length blocks → length bytes ≡ length blocks → take j bytes ≡ map f (take j blocks) → x ≡ f (get_or blocks j [])
    → take (j + 1) (set bytes j x) ≡ map f (take (j + 1) blocks)
more f blocks bytes j {x} h e t p =
    rw (add-one j) (take-suc-set bytes j x (omega arith)) ∙ ap₂ (λ (l : List ℕ) (y : ℕ). l ++ y ∷ []) t p ∙ sym (map_more f blocks j [] h)

pub loop-j-preserved : goal.loop-j-preserved
unfolding byte
loop-j-preserved c =
    let a = c.args in
    let l = c.loop-j in
    more (byte a.l) a.blocks.now l.bytes l.j (omega arith) (l.auto.bytes ∙ c.requires.1) l.invariant c.element.ensures

pub returns : goal.returns
unfolding column byte
returns c =
    let a = c.args in
    let l = c.loop-j in
    sym (take_all l.j l.bytes (omega (arith, l.auto.bytes))) ∙ l.invariant ∙ rw (take_all l.j a.blocks.now (omega arith)) (sym (map-map (element a.l) block_from a.blocks.now))

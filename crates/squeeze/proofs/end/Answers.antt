-- `squeeze::end` meets its contract: the rounds of the padded end, then those of the final stage, whose count begins anew.
-- Assumes nothing.
use mathlib.Core.Path.{◌≡◌, ap, ◌∙◌}
use mathlib.Core.List.{List}
use Prim.Native.Nat.{ℕ, ◌/◌, min}
use native.Mathlib.Omega.{arith}
use lib.ListN.{length}
use Rattle.definition.specs.declared.Block.{Block}
use Rattle.definition.specs.declared.Counted.{Counted}
use Rattle.definition.specs.Word.{bytes_of_all}
use Rattle.definition.specs.State.{blocks_in}
use Rattle.definition.specs.Final.{final}
use Rattle.definition.specs.Buffer.{overwrite}
use Rattle.definition.proofs.Chain.{counted-blocks}
use Rattle.definition.proofs.Output.{final-counted}
use Rattle.squeeze.proofs.end.Goals as goal

pub returns : goal.returns
returns c =
    let a = c.args in
    let out = a.out.now in
    let n : ℕ = min a.words (length out / 4) in
    -- what is put out are the words of the state after the padded end
    let z : _ ≡ overwrite (bytes_of_all (final a.w n (blocks_in a.w c.absorb_last-d.result.state))) out = c.squeeze-e.ensures.out_after in record {
      value = ap (λ (x : Counted). x.rounds) c.squeeze-e.ensures.value ∙ final-counted a.w _ n (omega arith);
      out_after = (rw c.absorb_last-d.ensures at z)
          ∙ ap (λ (h : List Block). overwrite (bytes_of_all (final a.w n h)) out) (counted-blocks a.w _ _);
    }

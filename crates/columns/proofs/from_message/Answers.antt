-- `columns::from_message` meets its contract: past its refusal the dump of the one block is written.
-- Assumes nothing.
use mathlib.Core.Path.{◌≡◌, refl, sym, ap, ◌∙◌}
use mathlib.Core.List.{List, [], ◌∷◌, map}
use Prim.Native.Nat.{ℕ}
use native.Mathlib.Omega.{arith}
use lib.ListN.{length}
use Rattle.definition.specs.declared.Block.{Block}
use Rattle.definition.specs.Block.{words_of, block_of, block_from}
use Rattle.definition.specs.Refusal.{first_of}
use Rattle.octets.specs.Total.{first_block}
use Rattle.octets.proofs.Total.{whole-block}
use Rattle.hash_definition.specs.Said.{done}
use Rattle.hash_definition.proofs.Refused.{refused, accepted}
use Rattle.refusals.proofs.Judged.{handed_on, isnt_done}
use Rattle.columns_definition.specs.Dump.{dump}
use Rattle.columns_definition.specs.Columns.{columns_refusal, message_refusals, from_message_outcome}
use Rattle.columns_definition.proofs.Calls.{message-due}
use Rattle.columns.proofs.from_message.Goals as goal

pub returns-in_err-lengths : goal.returns-in_err-lengths
unfolding from_message_outcome message_refusals
returns-in_err-lengths c =
    let r = c.from_residual.ensures.1 in
    refused _ (handed_on _ _ r ∙ c.in_err-lengths.ensures) _ _ (isnt_done _ _ r)

-- past it both have 32 bytes
whole : (b d : ℕ) → 0 ≡ first_of (columns_refusal b 32 d 32 ∷ []) → (b ≡ 32) × (d ≡ 32)
unfolding message_refusals
whole b d e = message-due b d (sym e)

pub put_dump-requires : goal.put_dump-requires
put_dump-requires c = (whole _ _ c.in_ok-lengths.ensures).1

-- the words of the first 32 bytes are one block
one : (x : List ℕ) (b : Block) → length x ≡ 32 → b ≡ first_block x → map block_from (words_of b ∷ []) ≡ block_of x ∷ []
unfolding words_of block_from
one x b h e = ap (λ (b : Block). b ∷ []) (e ∙ whole-block x (omega arith))

pub returns : goal.returns
unfolding from_message_outcome message_refusals words_of
returns c =
    ap done (c.put_dump.ensures ∙ ap dump (one c.args.block.now c.block-b.result (whole _ _ c.in_ok-lengths.ensures).0 c.block-b.ensures))
    ∙ accepted _ c.in_ok-lengths.ensures _ _ refl

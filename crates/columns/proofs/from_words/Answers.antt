-- `columns::from_words` meets its contract: past its refusals the dump of the words is written.
-- Assumes nothing.
use mathlib.Core.Path.{◌≡◌, refl, sym, ap, ◌∙◌}
use mathlib.Core.List.{map}
use Prim.Native.Nat.{ℕ, ◌*◌, ◌/◌}
use native.Mathlib.Omega.{arith}
use lib.ListN.{length}
use Rattle.definition.specs.Block.{block_from}
use Rattle.definition.specs.Refusal.{first_of}
use Rattle.definition.proofs.Chain.{count_le}
use Rattle.hash_definition.specs.Said.{done}
use Rattle.hash_definition.proofs.Refused.{refused, accepted}
use Rattle.refusals.proofs.Judged.{handed_on, isnt_done}
use Rattle.columns_definition.specs.Dump.{dump, blocks_of}
use Rattle.columns_definition.specs.Columns.{blocks_at, words_refusals, from_words_outcome}
use Rattle.columns_definition.proofs.Calls.{due}
use Rattle.columns.proofs.Parts.{chunked, judged}
use Rattle.columns.proofs.from_words.Goals as goal

pub returns-in_err-refusal : goal.returns-in_err-refusal
unfolding from_words_outcome
returns-in_err-refusal c =
    let r = c.from_residual.ensures.1 in
    refused _ (handed_on _ _ r ∙ judged _ c.width.ensures c.count-n.ensures _ _ c.in_err-refusal.ensures) _ _ (isnt_done _ _ r)

-- past them the words are whole blocks, and the dump has 32 bytes for each
whole : (code d l : ℕ) → 0 ≡ first_of (words_refusals code d l) → (d ≡ 32 * (l / 8)) × (l / 8 ≡ blocks_at code)
unfolding words_refusals
whole code d l e =
    let t = due code _ _ _ _ (sym e) in
    let k : d ≡ 32 * blocks_at code = t.1 in
    let m : l ≡ 8 * blocks_at code = t.2 in
    (omega (arith, k, m), omega (arith, m))

pub put_dump-requires : goal.put_dump-requires
put_dump-requires c =
    let t = whole _ _ _ (judged _ c.width.ensures c.count-n.ensures _ _ c.in_ok-refusal.ensures) in
    t.0 ∙ ap (λ (n : ℕ). 32 * n) (sym c.as_chunks.ensures.front_len)

pub returns : goal.returns
unfolding from_words_outcome
returns c =
    let ws = c.args.words.now in
    let e = judged _ c.width.ensures c.count-n.ensures _ _ c.in_ok-refusal.ensures in
    let b = ap (map block_from) c.as_chunks.ensures.front ∙ chunked (length ws / 8) ws ∙ ap (λ (n : ℕ). blocks_of n ws) (whole _ _ _ e).1 in
    ap done (c.put_dump.ensures ∙ ap dump b) ∙ accepted _ e _ _ refl

pub overflow_mul-n : goal.overflow_mul-n
overflow_mul-n c = rw c.count-n.ensures (omega (arith, count_le c.width.result))

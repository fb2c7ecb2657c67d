-- `rounds::last::absorb_last` meets its contract: a padded string is its full blocks and one more.
-- Assumes nothing.
use Rattle.std.proofs.Common.{◌≡◌, ℕ, ◌-◌, ◌*◌, ◌/◌, ◌%◌, List, [], ◌∷◌, ◌++◌, length, drop, sym, ap, ◌∙◌, arith, length-drop}
use Rattle.definition.specs.Block.{block_of}
use Rattle.definition.specs.Padding.{padding, blocks, rest, last_block}
use Rattle.definition.proofs.Padding.{blocks-padded}
use Rattle.definition.proofs.Chain.{counted-append}
use Rattle.rounds.proofs.last.absorb_last.Goals as goal

-- what is left after the full blocks
left : (s : List ℕ) → drop (length s - length s % 32) s ≡ drop (length s / 32 * 32) s
left s = let e : length s - length s % 32 ≡ length s / 32 * 32 = omega arith in rw e

ending : (s t : List ℕ) (byte : ℕ) → t ≡ drop (length s - length s % 32) s → block_of (t ++ padding byte (length t)) ≡ last_block byte s
unfolding last_block rest padding
ending s t byte h =
    let e = h ∙ left s in
    let m : length t % 32 ≡ length s % 32 = omega (arith, ap length e, length-drop (length s / 32 * 32) s) in
    rw (m, e)

pub returns : goal.returns
returns c =
    let a = c.args in
    let s = a.s.now in
    c.absorb_padded.ensures
    ∙ rw (ending s _ a.closing (c.remainder.ensures ∙ c.chunks_exact.ensures.remainder), c.absorb-d.ensures, blocks-padded a.closing s)
    (sym (counted-append a.w a.c (blocks s) (last_block a.closing s ∷ [])))

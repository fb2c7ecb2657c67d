-- `hash_back::backed` meets its contract: past the refusals the count is at least 32 and there are 32 bytes.
-- Assumes nothing.
use Rattle.std.proofs.Common.{◌≡◌, ℕ, arith}
use Rattle.octets.proofs.Total.{whole-block}
use Rattle.definition.specs.Refusal.{first_of}
use Rattle.hash_definition.specs.declared.Kept.{Kept}
use Rattle.hash_definition.specs.Record.{bytes_fed, well_kept}
use Rattle.hash_definition.specs.Lent.{kept_refusal}
use Rattle.back_definition.specs.Back.{backed as backed_of, lent_back_refusals}
use Rattle.back_definition.proofs.Back.{Backs, backs}
use Rattle.hash_back.proofs.backed.Goals as goal

-- past the refusals
given : (k : Kept) (n : ℕ) → first_of (lent_back_refusals k n) ≡ 0 → Backs k n
unfolding lent_back_refusals kept_refusal
given k n e = (backs (well_kept k) k n e).1

pub overflow_sub-count : goal.overflow_sub-count
unfolding bytes_fed
overflow_sub-count c = rw c.count.ensures (given c.args.k _ c.requires).enough

pub returns : goal.returns
unfolding backed_of bytes_fed
returns c =
    let whole = (given c.args.k _ c.requires).whole in
    rw (c.two_words-high.ensures, c.count.ensures, c.round.ensures, c.width.ensures, c.block.ensures, whole-block c.args.block.now (omega (arith, whole)))

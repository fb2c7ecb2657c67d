-- `permutation_back::turn_back` meets its contract: the code has the shape of the exchange and of f_L undone.
-- Assumes nothing.
use Rattle.std.proofs.Common.{rules, ◌∙◌}
use Rattle.generator.proofs.Turns.{rotated}
use Rattle.permutation_back.proofs.Generator.{exchanged_64, by_mask}
use Rattle.permutation_back.proofs.turn_back.Goals as goal

pub returns : goal.returns
returns c =
    let t = c.args.t in
    rw (c.rotate_left-f.ensures ∙ rotated t (search rules)) (by_mask _ (exchanged_64 t (search rules)))

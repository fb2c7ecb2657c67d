-- `step::step` meets its contract: it is 4.1's step, put together from SubCrumb and MixWord.
-- Assumes nothing.
use Rattle.definition.specs.Permutation.{on_halves, on_pairs, sub_crumbs, mix_words, add_constant, step as step_of}
use Rattle.step.proofs.step.Goals as goal

pub returns : goal.returns
unfolding step_of add_constant mix_words sub_crumbs on_halves on_pairs
returns c =
    simp (
      c.mix_word-m3.ensures,
      c.mix_word-m2.ensures,
      c.mix_word-m1.ensures,
      c.mix_word-m0.ensures,
      c.sub_crumb-y.ensures,
      c.sub_crumb-x.ensures,
    )

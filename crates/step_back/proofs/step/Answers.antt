-- `step_back::step` meets its contract: it is the step undone, put together from MixWord and SubCrumb undone.
-- Assumes nothing.
use Rattle.definition.specs.Permutation.{on_halves, on_pairs, add_constant}
use Rattle.back_definition.specs.Step.{sub_crumbs_back, mix_words_back, step_back}
use Rattle.step_back.proofs.step.Goals as goal

pub returns : goal.returns
unfolding step_back sub_crumbs_back mix_words_back on_halves on_pairs add_constant
returns c =
    simp (
      c.sub_crumb-y.ensures,
      c.sub_crumb-x.ensures,
      c.mix_word-m3.ensures,
      c.mix_word-m2.ensures,
      c.mix_word-m1.ensures,
      c.mix_word-m0.ensures,
    )

-- The injection undone in two parts that every w has: its rings, and then the spreading of the sum, with the sum's inverse (Appendix E of the
-- source; document 02, Q-9). That they make `equations_back` is by its clauses.
use Rattle.std.specs.Prelude.{ℕ, List, reverse}
use Rattle.definition.specs.declared.Block.{Block}
use Rattle.definition.specs.declared.Width.{Width}
use Rattle.definition.specs.declared.Width.TheVariants.{W3, W4, W5}
use Rattle.back_definition.specs.Injection.{third, ring4, ring5, unring}

abbrev pub inverse_at : Width → ℕ
inverse_at W3 = third
inverse_at W4 = 1
inverse_at W5 = third

unfoldable pub unrings_at : Width → List Block → List Block
unrings_at W3 x = x
unrings_at W4 x = unring ring4 x
unrings_at W5 x = reverse (unring ring5 (reverse (unring ring5 x)))

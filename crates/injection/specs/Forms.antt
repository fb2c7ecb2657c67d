-- Five blocks by value, each doubled, or each in the place of its neighbour in a ring: Appendix E of the source has them in the forms at a j.
use Rattle.definition.specs.declared.Block.{Block}
use Rattle.definition.specs.declared.State.{State}
use Rattle.definition.specs.Field.{double}

abbrev pub twice : State → State
twice s = record { h0 = double s.h0; h1 = double s.h1; h2 = double s.h2; h3 = double s.h3; h4 = double s.h4 }

-- the block at j - 1, and the one given at 0
abbrev pub before : State → Block → State
before s last = record { h0 = last; h1 = s.h0; h2 = s.h1; h3 = s.h2; h4 = s.h3 }

-- the block at j + 1, and the first at 4
abbrev pub after : State → State
after s = record { h0 = s.h1; h1 = s.h2; h2 = s.h3; h3 = s.h4; h4 = s.h0 }

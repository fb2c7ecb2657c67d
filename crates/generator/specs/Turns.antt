-- The generator of the step constants on its way: section 4.4 of the source.
use Rattle.std.specs.Prelude.{ℕ, zero, suc}
use Rattle.definition.specs.Constant.{f_l, exchanged}

-- 4.4: the generator's number t_L || t_R after n applications, each f_L and then the exchange
unfoldable pub applied : (n t : ℕ) → ℕ
applied zero t = t
applied (suc n) t = exchanged (f_l (applied n t))

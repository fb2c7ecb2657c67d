-- `plan_numbers::put` meets its contract: the number's bit is one in the word that is written.
-- Assumes nothing.
use mathlib.Core.Path.{fun_ext}
use borrow.Author.Rules.{rules}
use Rattle.plan_numbers.proofs.Numbers.{set_adds}
use Rattle.plan_numbers.proofs.put.Goals as goal

pub returns : goal.returns
returns c =
    let a = c.args in
    rw c.from-i.ensures (fun_ext (set_adds a.k a.t.now (search rules)))

-- `hash::closing` meets its contract: the last byte holds the odd bits, or there are none.
-- Assumes nothing.
use native.Mathlib.Omega.{arith}
use lib.ListN.{length}
use Rattle.hash.proofs.Message.{closing-whole}
use Rattle.hash.proofs.closing.Goals as goal

pub returns-then-n-message : goal.returns-then-n-message
returns-then-n-message c = λ h e w. c.closing.ensures h

pub returns : goal.returns
returns c =
    let a = c.args in
    λ h e w. closing-whole a.odd (length a.message.now) _ e (omega (arith, w, c.if-n-message.false))

-- `sheet_struck::zeros` meets its contract: the bytes' bits together are none where all of them are zero.
-- Assumes nothing.
use Rattle.std.proofs.Common.{◌≡◌, ℕ, nat_eq, rules, ◌∙◌, ap}
use Rattle.std.specs.List.{fold}
use Rattle.std.specs.Int.Bits.{bit_or}
use Rattle.sheet_struck.proofs.Bytes.{together}
use Rattle.sheet_struck.proofs.zeros.Goals as goal

pub returns : goal.returns
returns c =
    let e : c.fold.result ≡ fold (λ (a x : ℕ). bit_or a x) 0 c.args.t.now = search rules in
    ap (λ n. nat_eq n 0) e ∙ together 0 c.args.t.now

-- `hash_record::reserved_zero` meets its contract: the OR of bytes is zero where each is.
-- Assumes nothing.
use Rattle.std.proofs.Common.{◌≡◌, ℕ, rules, take, drop, arith, drop-cons}
use mathlib.Core.Bool.{and-true, and_assoc}
use Rattle.std.specs.List.{fold}
use Rattle.std.specs.Int.Bits.{bit_or}
use Rattle.hash_definition.specs.Record.{all_zero}
use Rattle.hash_kept.proofs.Tests.{or_zero}
use Rattle.hash_record.proofs.reserved_zero.Goals as goal

pub returns : goal.returns
unfolding all_zero
returns c =
    let b = c.args.b.now in
    let e : c.fold.result ≡ fold (λ (a x : ℕ). bit_or a x) 0 (take 6 (drop 2 b)) = search rules in
    rw (
      e,
      drop-cons b 2 0 (omega arith),
      drop-cons b 3 0 (omega arith),
      drop-cons b 4 0 (omega arith),
      drop-cons b 5 0 (omega arith),
      drop-cons b 6 0 (omega arith),
      drop-cons b 7 0 (omega arith),
    )
    (simp (or_zero, and_assoc, and-true))

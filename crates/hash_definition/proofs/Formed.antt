-- What a well-formed record has: its length, and what it holds is well kept.
-- Assumes nothing.
use mathlib.Core.Path.{◌≡◌}
use mathlib.Core.Bool.{true}
use mathlib.Core.List.{List}
use Prim.Native.Nat.{ℕ}
use native.Mathlib.Omega.{arith}
use borrow.Author.Tests.{eqb-true}
use lib.Dec.{eqb}
use lib.ListN.{length, take, drop, length-drop}
use lib.Seq.{length-take-le}
use Rattle.hash_definition.specs.Record.{record_length, all_zero, well_kept, decode, well_formed}
use Rattle.definition.proofs.Conditions.{both_true}

pub record Formed (b : List ℕ) : Type 0 where
  pub size : length b ≡ record_length
  pub reserved : all_zero (take 6 (drop 2 b)) ≡ true
  pub holds : well_kept (decode b) ≡ true
  pub buffer : length (decode b).pending ≡ 32

pending-length : (b : List ℕ) → length b ≡ record_length → length (decode b).pending ≡ 32
unfolding decode
pending-length b e = length-take-le 32 (drop 168 b) (omega (arith, length-drop 168 b))

pub formed : (b : List ℕ) → well_formed b ≡ true → Formed b
unfolding well_formed
formed b e =
    let s = both_true _ (well_kept (decode b)) e in
    let t = both_true (eqb (length b) record_length) _ s.0 in
    let n : length b ≡ record_length = eqb-true (length b) record_length t.0 in
    record {
      size = n;
      reserved = t.1;
      holds = s.1;
      buffer = pending-length b n;
    }

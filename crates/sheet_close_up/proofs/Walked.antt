-- A sheet walked record by record: the parts of 40 bytes are its records, and the first that is zero is the first struck place.
-- Assumes nothing.
use mathlib.Core.Path.{◌≡◌, refl, sym, ap, ◌∙◌}
use mathlib.Core.Bool.{Bool, true, false, cond}
use mathlib.Core.List.{List, ◌∷◌, ◌++◌}
use Prim.Native.Nat.{ℕ, zero, suc, ◌+◌, ◌/◌, ◌≤◌}
use native.Mathlib.Omega.{arith}
use borrow.Author.Tests.{lt-ltb, le-ltb}
use lib.ListN.{length, take, drop, length-append}
use lib.Seq.{take_at, drop_at}
use native.Mathlib.Decide.{dec_le}
use Rattle.std.specs.List.{position, position_or_len}
use Rattle.std.specs.Option.{unwrap_or}
use Rattle.std.specs.Slice.Iter.{chunks_exact_steps, chunks_exact_rest, chunks_exact_size}
use Rattle.std.proofs.lemmas.Iterator.{YieldsList}
use Rattle.std.proofs.lemmas.Iterator.Splits.{YieldsList-from_shown_while}
use Rattle.std.proofs.lemmas.List.Recursion.{is_position_or_len}
use Rattle.definition.specs.Refusal.{pick}
use Rattle.sheet_definition.specs.Sheet.{record_bytes, cut}
use Rattle.sheet_definition.specs.Struck.{all_zero, first_struck}
use Rattle.sheet_definition.proofs.Joined.{length_cut}
use Rattle.sheet_definition.proofs.Struck.{fewer, first_stands}

-- one record more in front of whole records
cut_on : (x l : List ℕ) → length x ≡ record_bytes → cut (length (x ++ l) / record_bytes) (x ++ l) ≡ x ∷ cut (length l / record_bytes) l
unfolding cut
cut_on x l e =
    let n : length (x ++ l) / record_bytes ≡ suc (length l / record_bytes) = omega (arith, length-append x l) in
    rw (n, take_at x l record_bytes e, drop_at x l record_bytes e)

-- the first n of more records
pub take_cut : (n m : ℕ) (l : List ℕ) → n ≤ m → take n (cut m l) ≡ cut n l
unfolding cut
take_cut zero m l h = refl
take_cut (suc n) zero l h = absurd (omega arith)
take_cut (suc n) (suc m) l h = ap (λ (rs : List (List ℕ)). take record_bytes l ∷ rs) (take_cut n m (drop record_bytes l) (omega arith))

-- the parts that a walk by 40 bytes gives are the records
pub parts : {s : _} (l : List ℕ) → chunks_exact_rest s ≡ l → chunks_exact_size s ≡ record_bytes
    → YieldsList chunks_exact_steps (λ x. x.now) s (cut (length l / record_bytes) l)
parts {s} l r e =
    rw (← r)
    (YieldsList-from_shown_while chunks_exact_steps (λ x. x.now) (λ s. cut (length (chunks_exact_rest s) / record_bytes) (chunks_exact_rest s)) (λ s. chunks_exact_size s ≡ record_bytes)
    (λ s t p h. length_cut _ (chunks_exact_rest s) ∙ omega (arith, p, h.1.0))
    (λ s x t p h. (h.0 ∙ p, rw h.1.0 (cut_on x.now (chunks_exact_rest t) (h.1.1 ∙ p))))
    s e)

-- the first struck place of n records, if there is one
first_is : (rs : List (List ℕ)) → first_struck rs ≡ position_or_len all_zero rs
unfolding first_struck pick
first_is = is_position_or_len first_struck all_zero refl (λ x rs. go (all_zero x) (first_struck rs))
  where
    go : (b : Bool) (k : ℕ) → pick b 0 (suc k) ≡ cond b 0 (1 + k)
    go true k = refl
    go false k = omega arith

pub first_told : (rs : List (List ℕ)) (n : ℕ) → n ≡ length rs → unwrap_or (position all_zero rs) n ≡ first_struck rs
first_told rs n e =
    let k : ℕ = position_or_len all_zero rs in
    elim (dec_le (suc k) (length rs)) [
      | yes h ↦ rw (lt-ltb k (length rs) h) (sym (first_is rs))
      | no h ↦ rw (le-ltb k (length rs) (omega arith)) (omega (arith, first_is rs, first_stands rs, fewer rs))
    ]

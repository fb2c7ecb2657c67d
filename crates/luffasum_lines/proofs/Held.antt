-- The line of what is held at a code: where there is one, its digest, its length; and the text that the lines make, as it is printed.
-- Assumes nothing.
use mathlib.Core.Path.{◌≡◌, refl, sym, ap, ◌∙◌}
use mathlib.Core.Bool.{Bool, true, false, not, cond, ◌||◌, false≢true}
use mathlib.Core.List.{List, [], ◌∷◌, ◌++◌}
use Prim.Native.Nat.{ℕ, zero, suc, ◌+◌, ◌*◌, ◌≤◌}
use native.Mathlib.Omega.{arith}
use borrow.Author.Tests.{eq-eqb, ne_eqb, le-leb, not-false}
use lib.Dec.{eqb, leb}
use lib.ListN.{length, take, length-take, length-append}
use lib.Seq.{take-append-le}
use Rattle.definition.specs.Luffa.{words_at, bytes_at, output_of_bits}
use Rattle.definition.specs.Buffer.{overwrite_at, overwrite}
use Rattle.definition.specs.Refusal.{RECORD, LONG, pick, first_of, condition_of, when_done}
use Rattle.definition.proofs.Refusals.{fails, not_done}
use Rattle.definition.proofs.Output.{length-output}
use Rattle.std.specs.Prelude.{Result, Ok, Err, is_err}
use Rattle.refusals.specs.declared.Refusal.{Refusal}
use Rattle.refusals.specs.Number.{number_of}
use Rattle.refusals.proofs.Judged.{not_zero}
use Rattle.hash_definition.specs.declared.Kept.{Kept}
use Rattle.hash_definition.specs.Record.{well_kept, output_from, finished}
use Rattle.hash_definition.specs.Lent.{kept_refusal}
use Rattle.octets.specs.Total.{write_at}
use Rattle.octets.proofs.Total.{write_at_lem, write_at-more}
use Rattle.luffasum_lines.specs.declared.End.{End}
use Rattle.luffasum_lines.specs.declared.End.TheVariants.{Whole, Failed}
use Rattle.luffasum_lines.specs.Line.{line_end, digit, line}
use Rattle.luffasum_lines.specs.Text.{Reading, held_at, record_line, four_records, text_at, text, Printed, room, printed}
use Rattle.luffasum_lines.proofs.Digits.{length-decimal}
use Rattle.luffasum_lines.proofs.Lines.{length-line}

-- a digest has its code's bytes
pub length-finished : (k : Kept) → length (finished k) ≡ bytes_at k.code
unfolding finished output_from output_of_bits bytes_at
length-finished k = length-output k.code (words_at k.code) _

-- a judgement that refuses has a number, and one that doesn't has 0
pub refused : (r : Result (Unit {0}) Refusal) → is_err r ≡ true → number_of r ≡ 0 → ⊥
refused (Ok u) e = absurd (false≢true e)
refused (Err r) e = not_zero r

pub accepted : (r : Result (Unit {0}) Refusal) → is_err r ≡ false → number_of r ≡ 0
accepted (Ok u) e = refl
accepted (Err r) e = absurd (false≢true (sym e))

-- a record judged by refusal 3 alone
pub formed : (k : Kept) → first_of (kept_refusal k ∷ []) ≡ 0 → well_kept k ≡ true
unfolding kept_refusal condition_of pick
formed k e = not-false (well_kept k) (fails (kept_refusal k ∷ []) (omega arith) e RECORD)

pub unformed : (k : Kept) → (first_of (kept_refusal k ∷ []) ≡ 0 → ⊥) → well_kept k ≡ false
unfolding kept_refusal first_of pick
unformed k = go (well_kept k)
  where
    go : (b : Bool) → (pick (not b) RECORD 0 ≡ 0 → ⊥) → b ≡ false
    go true h = unfold pick in absurd (h refl)
    go false h = refl

module _ (code c : ℕ) (k : Kept) where
  -- no line
  pub unkept : well_kept k ≡ false → record_line code c k ≡ []
  unfolding record_line held_at
  unkept e = rw e

  pub elsewhere : well_kept k ≡ true → (k.code ≡ c → ⊥) → record_line code c k ≡ []
  unfolding record_line held_at
  elsewhere e h = rw (e, ne_eqb k.code c h)

  -- by both tests
  pub no_line : (r : Result (Unit {0}) Refusal) → number_of r ≡ first_of (kept_refusal k ∷ []) → is_err r || not (eqb k.code c) ≡ true → record_line code c k ≡ []
  no_line (Err r) f e = unkept (unformed k (λ z. not_zero r (f ∙ z)))
  no_line (Ok u) f e = elsewhere (formed k (sym f)) (λ q. false≢true (rw (eq-eqb k.code c q) at e))

  -- a line
  pub held : well_kept k ≡ true → k.code ≡ c → record_line code c k ≡ line code k.low (take (bytes_at code) (finished k))
  unfolding record_line held_at
  held e h = rw (e, eq-eqb k.code c h)

  -- and its digest, in front of a buffer that holds more of it
  pub front : k.code ≡ c → bytes_at code ≤ bytes_at c → (out : List ℕ)
      → take (bytes_at code) (overwrite (finished k) out) ≡ take (bytes_at code) (finished k)
  unfolding overwrite_at
  front e h out = take-append-le (bytes_at code) (finished k) _ (omega (arith, length-finished k, ap bytes_at e))

  length-held : (b : Bool) → length (cond b (line code k.low (take (bytes_at code) (finished k))) []) ≤ 24 + 2 * bytes_at code
  length-held true =
      omega (arith, length-line code k.low (take (bytes_at code) (finished k)), length-decimal k.low, length-take (bytes_at code) (finished k))
  length-held false = omega arith

  pub length-record : length (record_line code c k) ≤ 24 + 2 * bytes_at code
  unfolding record_line
  length-record = length-held (held_at c k)

-- four pieces of text, one behind the other
pub length_pieces : (a b c d : List ℕ) → length (a ++ b ++ c ++ d) ≡ length a + length b + length c + length d
length_pieces a b c d = omega (arith, length-append (a ++ b ++ c) d, length-append (a ++ b) c, length-append a b)

pub four_pieces : (a b c d out : List ℕ) (i j k : ℕ) → i ≡ 0 + length a → j ≡ i + length b → k ≡ j + length c → k + length d ≤ length out
    → write_at k d (write_at j c (write_at i b (write_at 0 a out))) ≡ write_at 0 (a ++ b ++ c ++ d) out
four_pieces a b c d out i j k e f g h =
    let m : length (a ++ b) ≡ j = omega (arith, length-append a b) in
    let n : length (a ++ b ++ c) ≡ k = omega (arith, length-append (a ++ b) c) in
    rw (write_at-more 0 i a b out (omega arith) (omega arith), write_at-more 0 j (a ++ b) c out (omega arith) (omega arith))
    (write_at-more 0 k (a ++ b ++ c) d out (omega arith) (omega arith))

-- the four lines have room
pub sizes : (r : Reading)
    → (length (record_line 1 2 r.two) ≤ 80) × (length (record_line 2 2 r.two) ≤ 88) × (length (record_line 3 3 r.three) ≤ 120) × (length (record_line 4 4 r.four) ≤ 152)
unfolding bytes_at words_at
sizes r = (length-record 1 2 r.two, length-record 2 2 r.two, length-record 3 3 r.three, length-record 4 4 r.four)

length_at : (n : ℕ) (e : End) (r : Reading) → length (when_done n (text_at e r) (digit LONG ∷ line_end ∷ [])) ≤ room
unfolding when_done text_at four_records
length_at (suc n) e r = omega arith
length_at zero Failed r = omega arith
length_at zero Whole r =
    omega (
      arith,
      length_pieces (record_line 1 2 r.two) (record_line 2 2 r.two) (record_line 3 3 r.three) (record_line 4 4 r.four),
      sizes r,
    )

pub length-text : (e : End) (r : Reading) → length (text e r) ≤ room
unfolding text
length-text e r = length_at r.number e r

-- which text it is
pub text-four : (e : End) (r : Reading) → (r.number ≡ 0 → ⊥) → text e r ≡ digit LONG ∷ line_end ∷ []
unfolding text
text-four e r h = not_done r.number _ _ h

pub text_at_lem : (e : End) (r : Reading) → r.number ≡ 0 → text e r ≡ text_at e r
unfolding text when_done
text_at_lem e r h = ap (λ (n : ℕ). when_done n (text_at e r) (digit LONG ∷ line_end ∷ [])) h

-- and written from place 0 on it is what is printed
pub said : (e : End) (r : Reading) (out b t : List ℕ) (n : ℕ) → room ≤ length out → text e r ≡ t → n ≡ length t → b ≡ write_at 0 t out
    → record { size = n; buffer = b } ≡ printed e r out
unfolding printed
said e r out b t n h i f g =
    rw (le-leb room (length out) h, f, g, ← i, write_at_lem 0 (text e r) out (omega (arith, length-text e r)))

-- what is printed is never more
pub printed-size : (e : End) (r : Reading) (out : List ℕ) → (printed e r out).size ≤ room
unfolding printed
printed-size e r out = by_room (leb room (length out))
  where
    by_room : (b : Bool) → (cond {A = Printed} b (record { size = length (text e r); buffer = overwrite (text e r) out }) (record { size = 0; buffer = out })).size ≤ room
    by_room true = length-text e r
    by_room false = omega arith

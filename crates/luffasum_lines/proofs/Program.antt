-- The whole program, its reads given: the four lines of all that was read, `4` where that passes the limit, nothing where a read failed.
-- Assumes nothing.
use mathlib.Core.Path.{◌≡◌, refl, sym, ap, ◌∙◌}
use mathlib.Core.Bool.{true}
use mathlib.Core.List.{List, [], ◌∷◌, ◌++◌, append_assoc, append-nil}
use Prim.Native.Nat.{ℕ, zero, suc, ◌+◌, ◌*◌, ◌^◌, ◌<◌, ◌≤◌}
use native.Mathlib.Decide.{dec_le}
use native.Mathlib.Nat.{lt_of_lt_of_le}
use native.Mathlib.Omega.{arith}
use lib.ListN.{length, take, length-append}
use lib.Pow.{pow_mono}
use lib.Seq.{take_all}
use Rattle.definition.specs.Luffa.{words_at, bytes_at, limit_at, luffa}
use Rattle.definition.specs.Padding.{whole_bytes}
use Rattle.definition.specs.Buffer.{joined}
use Rattle.definition.specs.Refusal.{LONG, known, when_done}
use Rattle.definition.proofs.Refusals.{not_done}
use Rattle.definition.proofs.BitStrings.{luffa-whole}
use Rattle.definition.proofs.Output.{first28}
use Rattle.hash_definition.specs.Record.{count_of, bytes_fed, well_kept, started, fed, fed_bits, finished}
use Rattle.hash_definition.specs.Lent.{lent_feed_outcome}
use Rattle.hash_definition.specs.Said.{taken}
use Rattle.hash_definition.proofs.Feeding.{kept_of, kept-count, fed_empty, fed-fed, started-sound, kept-sound}
use Rattle.hash_definition.proofs.Ending.{kept-finished}
use Rattle.hash_definition.proofs.WorkingDemand2.{no_bits, lent-fed, lent_feed_long}
use Rattle.luffasum_lines.specs.declared.End.{End}
use Rattle.luffasum_lines.specs.declared.End.TheVariants.{Whole, Failed}
use Rattle.luffasum_lines.specs.Line.{line_end, digit, message_line, four_lines}
use Rattle.luffasum_lines.specs.Text.{Reading, limit, record_line, four_records, text_at, text, started_records, fed_each, fed_records, program}
use Rattle.luffasum_lines.proofs.Held.{length-finished, held, text-four}

-- the records that a message leads to
abbrev records_of : List ℕ → Reading
records_of m = record { number = 0; two = kept_of 2 m; three = kept_of 3 m; four = kept_of 4 m }

code_of : (c : ℕ) (m : List ℕ) → (kept_of c m).code ≡ c
unfolding fed started
code_of c m = refl

no_odd : (c : ℕ) (m : List ℕ) → (kept_of c m).odd ≡ 0
unfolding fed started
no_odd c m = refl

low_of : (c : ℕ) (m : List ℕ) → length m ≤ limit → (kept_of c m).low ≡ length m
unfolding fed started bytes_fed count_of
low_of c m h = omega arith

-- what is within the limit is under Table 1 at every code, so what it leads to is well formed
under : (c n : ℕ) → n ≤ limit → 8 * n < limit_at c
unfolding limit_at
under zero n h = omega arith
under (suc zero) n h = omega arith
under (suc (suc zero)) n h = omega arith
under (suc (suc (suc c))) n h = lt_of_lt_of_le {m = 2 ^ 64} (omega arith) (pow_mono {i = 64} {j = 128} (omega arith))

well : (c : ℕ) (m : List ℕ) → known c ≡ true → length m ≤ limit → well_kept (kept_of c m) ≡ true
well c m e h = (kept-sound c m e (under c (length m) h)).well

fed-on : (c : ℕ) (m p : List ℕ) → known c ≡ true → length m + length p ≤ limit → lent_feed_outcome (kept_of c m) p ≡ taken (kept_of c (m ++ p))
fed-on c m p e h =
    lent-fed (kept_of c m) p (well c m e (omega arith)) (no_odd c m) (rw (kept-count c m, code_of c m) (under c (length m + length p) h))
    ∙ ap taken (fed-fed (started c) m p (started-sound c e).buffer)

-- a read within the limit is taken by each record, and one that passes it is refused by the first
module _ (m p : List ℕ) where
  all_fed_on : length m + length p ≤ limit → fed_records (records_of m) p ≡ records_of (m ++ p)
  unfolding fed_records fed_each when_done known
  all_fed_on h = rw (fed-on 2 m p refl h, fed-on 3 m p refl h, fed-on 4 m p refl h)

  all_past : length m ≤ limit → limit < length m + length p → (fed_records (records_of m) p).number ≡ LONG
  unfolding fed_records fed_each when_done known
  all_past l h =
      rw (lent_feed_long (kept_of 2 m) p 0 (well 2 m refl l) (no_odd 2 m) (no_bits p)
      (rw (kept-count 2 m, code_of 2 m) (unfold limit_at whole_bytes in omega arith)))

-- reads within the limit lead to the text of what they join to
within_text : (m : List ℕ) (ps : List (List ℕ)) (e : End) → length m + length (joined ps) ≤ limit
    → program (records_of m) ps e ≡ text e (records_of (m ++ joined ps))
unfolding program joined
within_text m [] e h = rw (append-nil m)
within_text m (p ∷ ps) e h =
    let l : length m + length p + length (joined ps) ≤ limit = omega (arith, length-append p (joined ps)) in
    rw (all_fed_on m p (omega arith), ← append_assoc m p (joined ps))
    (within_text (m ++ p) ps e (omega (arith, length-append m p)))

-- after a refused read nothing is fed
stopped : (r : Reading) (ps : List (List ℕ)) (e : End) → (r.number ≡ 0 → ⊥) → program r ps e ≡ text e r
unfolding program fed_records
stopped r [] e h = refl
stopped r (p ∷ ps) e h = rw (not_done r.number (fed_each r p) r h) (stopped r ps e h)

-- so reads that pass the limit lead to `4` alone, however the reading ended
past-text : (m : List ℕ) (ps : List (List ℕ)) (e : End) → length m ≤ limit → limit < length m + length (joined ps)
    → program (records_of m) ps e ≡ digit LONG ∷ line_end ∷ []
unfolding program joined
past-text m [] e l h = absurd (omega arith)
past-text m (p ∷ ps) e l h =
    elim (dec_le (length m + length p) limit) [
      | yes t ↦
          rw (all_fed_on m p t)
          (past-text (m ++ p) ps e (omega (arith, length-append m p)) (omega (arith, length-append m p, length-append p (joined ps))))
      | no t ↦
          let r : Reading = fed_records (records_of m) p in
          let n : r.number ≡ 0 → ⊥ = λ z. omega (arith, z, all_past m p l (omega arith)) in
          stopped r ps e n ∙ text-four e r n
    ]

-- the digest, and the line, of a record that a message leads to
digest_of : (c : ℕ) (m : List ℕ) → finished (kept_of c m) ≡ luffa c m
unfolding fed_bits
digest_of c m = kept-finished c m 0 (no_bits m) ∙ luffa-whole c m

message-line : (code c : ℕ) (m : List ℕ) → known c ≡ true → length m ≤ limit → luffa code m ≡ take (bytes_at code) (luffa c m)
    → record_line code c (kept_of c m) ≡ message_line code m
unfolding message_line
message-line code c m e h t =
    rw (held code c (kept_of c m) (well c m e h) (code_of c m), digest_of c m, low_of c m h, t)

-- a digest is its own first bytes
own : (c : ℕ) (m : List ℕ) → luffa c m ≡ take (bytes_at c) (luffa c m)
own c m = sym (take_all (bytes_at c) (luffa c m) (omega (arith, rw (digest_of c m, code_of c m) at (length-finished (kept_of c m)))))

whole : (m : List ℕ) → length m ≤ limit → text Whole (records_of m) ≡ four_lines m
unfolding text text_at when_done four_records four_lines known
whole m h =
    rw (
      message-line 1 2 m refl h (unfold bytes_at words_at in first28 m),
      message-line 2 2 m refl h (own 2 m),
      message-line 3 3 m refl h (own 3 m),
      message-line 4 4 m refl h (own 4 m),
    )

begun : started_records ≡ records_of []
unfolding started_records known
begun = λ i. record { number = 0; two = at 2 refl i; three = at 3 refl i; four = at 4 refl i }
  where
    at : (c : ℕ) → known c ≡ true → started c ≡ kept_of c []
    at c e = sym (fed_empty (started c) (started-sound c e) (unfold started in refl))

-- "reads standard input to its end and prints four lines": for every list of reads within the limit, those of all that was read
pub prints_lines : (reads : List (List ℕ)) → length (joined reads) ≤ limit → program started_records reads Whole ≡ four_lines (joined reads)
prints_lines reads h = rw begun (within_text [] reads Whole (omega arith) ∙ whole (joined reads) h)

-- "a read that would pass the limit prints `4` alone"
pub prints_four : (reads : List (List ℕ)) (e : End) → limit < length (joined reads) → program started_records reads e ≡ 0x34 ∷ 0x0a ∷ []
unfolding digit
prints_four reads e h = rw begun (past-text [] reads e (omega arith) (omega arith))

-- "if a read fails, nothing is printed"
pub prints_nothing : (reads : List (List ℕ)) → length (joined reads) ≤ limit → program started_records reads Failed ≡ []
unfolding text text_at when_done
prints_nothing reads h = rw begun (within_text [] reads Failed (omega arith))

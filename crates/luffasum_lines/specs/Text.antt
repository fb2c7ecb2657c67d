-- What the digest program prints of the records that it fed: document 01, "reads standard input to its end and prints four lines", "A read that
-- would pass the limit prints `4` alone; if a read fails, nothing is printed".
use Rattle.std.specs.Prelude.{ℕ, ◌-◌, ◌^◌, Bool, cond, ◌&&◌, List, [], ◌∷◌, ◌++◌, eqb, leb, length, take}
use Rattle.definition.specs.Luffa.{bytes_at}
use Rattle.definition.specs.Buffer.{overwrite}
use Rattle.definition.specs.Refusal.{LONG, when_done}
use Rattle.refusals.specs.Number.{number_of}
use Rattle.hash_definition.specs.declared.Kept.{Kept}
use Rattle.hash_definition.specs.declared.Lent.{Lent}
use Rattle.hash_definition.specs.Record.{well_kept, started, finished}
use Rattle.hash_definition.specs.Lent.{lent_feed_outcome}
use Rattle.luffasum_lines.specs.declared.End.{End}
use Rattle.luffasum_lines.specs.declared.End.TheVariants.{Whole, Failed}
use Rattle.luffasum_lines.specs.declared.Records.{Records}
use Rattle.luffasum_lines.specs.Line.{line_end, digit, line}

-- "the limit": what is read is digested at every code, and at 1 and 2 a message has fewer than 2^64 bits: "whole bytes, at most 2^61 - 1 of them"
abbrev pub limit : ℕ
limit = 2 ^ 61 - 1

-- what is held at codes 2, 3 and 4 of all that was read, and 0, or the number by which a read was refused
pub record Reading : Type 0 where
  pub number : ℕ
  pub two : Kept
  pub three : Kept
  pub four : Kept

abbrev pub reading_of : Records → Reading
reading_of r = record { number = number_of r.fed; two = r.two; three = r.three; four = r.four }

-- well formed, and held at code c
unfoldable pub held_at : (c : ℕ) → Kept → Bool
held_at c k = well_kept k && eqb k.code c

-- the line at a code, of what is held at code c: its own count, and as much of its digest as the code's has; no line of what isn't held so.
-- The count within the limit is below 2^61, so its low word is all of it.
unfoldable pub record_line : (code c : ℕ) → Kept → List ℕ
record_line code c k = cond (held_at c k) (line code k.low (take (bytes_at code) (finished k))) []

-- "one for each code from 1 to 4"
unfoldable pub four_records : Reading → List ℕ
four_records r = record_line 1 2 r.two ++ record_line 2 2 r.two ++ record_line 3 3 r.three ++ record_line 4 4 r.four

-- the text at each end of the reading that no read brought past the limit
unfoldable pub text_at : End → Reading → List ℕ
text_at Whole r = four_records r
text_at Failed r = []

-- "A read that would pass the limit prints `4` alone", however the reading ended
unfoldable pub text : End → Reading → List ℕ
text e r = when_done r.number (text_at e r) (digit LONG ∷ line_end ∷ [])

-- the text's bytes in front of a buffer, and their number; nothing where the buffer hasn't room for four lines
pub record Printed : Type 0 where
  pub size : ℕ
  pub buffer : List ℕ

-- 2 * (28 + 32 + 48 + 64) digits of digests, and a code, 20 digits, two spaces and an end for each line
abbrev pub room : ℕ
room = 440

unfoldable pub printed : End → Reading → List ℕ → Printed
printed e r out =
    cond (leb room (length out)) (record { size = length (text e r); buffer = overwrite (text e r) out }) (record { size = 0; buffer = out })

-- the records to begin with
unfoldable pub started_records : Reading
started_records = record { number = 0; two = started 2; three = started 3; four = started 4 }

-- what was read, fed to each record; the number is the first that isn't 0
unfoldable pub fed_each : Reading → List ℕ → Reading
fed_each r p =
    let a : Lent = lent_feed_outcome r.two p in
    let b : Lent = lent_feed_outcome r.three p in
    let c : Lent = lent_feed_outcome r.four p in
    record {
      number = when_done a.number (when_done b.number c.number b.number) a.number;
      two = a.kept;
      three = b.kept;
      four = c.kept;
    }

-- after a read that was refused nothing is fed
unfoldable pub fed_records : Reading → List ℕ → Reading
fed_records r p = when_done r.number (fed_each r p) r

-- the whole program: each read fed in turn, then the text at the reading's end
unfoldable pub program : Reading → (reads : List (List ℕ)) → End → List ℕ
program r [] e = text e r
program r (p ∷ ps) e = program (fed_records r p) ps e

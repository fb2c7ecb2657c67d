-- A record as it is read once for both its judging and its use, glanced at where its state isn't needed, and written where it has its length:
-- document 01, "The kept hash record", and document 02, Q-7, "216 bytes".
use Rattle.std.specs.Prelude.{ℕ, ◌%◌, Bool, false, ◌&&◌, List, [], ◌∷◌, ◌++◌, eqb, length, take, drop, replicate}
use Rattle.definition.specs.State.{state_of}
use Rattle.definition.specs.Word.{bytes_of_all}
use Rattle.definition.specs.Refusal.{pick}
use Rattle.octets.specs.Total.{write_at}
use Rattle.hash_definition.specs.declared.Kept.{Kept}
use Rattle.hash_definition.specs.declared.Held.{Held}
use Rattle.hash_definition.specs.Record.{record_length, pending_at, count_at, count_words, all_zero, encode, decode, held_of, pending_count, well_formed}
use Rattle.hash_record.specs.declared.Glanced.{Glanced}

-- "this length" and "these zeros" after code and odd bits: what a record's form says before what it holds
unfoldable pub framed : List ℕ → Bool
framed b = eqb (length b) record_length && all_zero (take 6 (drop 2 b))

-- where it isn't, nothing is read: no code stands there, so that "a record with an unknown code is refused 3" refuses it
unfoldable pub nothing : Kept
nothing = record { code = 0; odd = 0; state = state_of []; pending = replicate 32 0; high = 0; low = 0 }

unfoldable pub reading : List ℕ → Kept
reading b = pick (framed b) (decode b) nothing

-- the whole bytes that wait for a full block; a buffer of another length has room for none more
unfoldable pub waiting_of : List ℕ → ℕ
waiting_of b = pick (eqb (length b) record_length) (pending_count (decode b)) 32

-- the code, what is held beside code and state, and whether the record is well formed
unfoldable pub glance_of : List ℕ → Glanced
glance_of b =
    pick (eqb (length b) record_length)
    (record { code = (decode b).code; held = held_of (decode b); well = well_formed b })
    (record { code = 0; held = held_of nothing; well = false })

-- what is held beside code and state, written where it stands
unfoldable pub held_written : Held → List ℕ → List ℕ
held_written h b =
    write_at count_at (bytes_of_all (count_words h.high ++ count_words h.low))
    (write_at pending_at h.pending (write_at 1 (h.odd % 256 ∷ []) b))

-- what is held, written where there are 216 bytes; else nothing is written
unfoldable pub written : Kept → List ℕ → List ℕ
written k b = pick (eqb (length b) record_length) (encode k) b

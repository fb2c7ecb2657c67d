-- The refusals of the sheet calls, 1, 2 and 5 to 10: document 01, "Refusal numbers"; 14 and 23: document 02, Q-4 and Q-11. They are judged by
-- numbers and by the lengths of the buffers; 11, whether a claim is stale, comes after them.
use Rattle.std.specs.Prelude.{ℕ, ◌+◌, ◌*◌, Bool, false, not, ◌||◌, List, [], ◌∷◌, ◌++◌, leb, ltb, eqb, length}
use Rattle.definition.specs.Luffa.{bytes_at}
use Rattle.definition.specs.Refusal.{Refusal, SHEET, MARKS, PLACE, FULL, SIZE, CLAIM, SET, PLACES, rising, width_refusal, out_refusal}
use Rattle.sheet_definition.specs.Sheet.{World, most, record_bytes, mark_words, q}
use Rattle.sheet_definition.specs.declared.Lengths.{Lengths}

-- what a call over a world is judged by
abbrev pub lengths_of : World → (out : List ℕ) → Lengths
lengths_of w out =
    record { code = w.code; n = w.n; sheet_length = length w.sheet; marks_length = length w.marks; out_length = length out }

-- 5: "n over 1,024 or buffer under 40n bytes"
unfoldable pub sheet_refusal : (n sheet_length : ℕ) → Refusal
sheet_refusal n sheet_length = (SHEET, ltb most n || ltb sheet_length (record_bytes * n))

-- 6: "marks under 40(floor(n/4)+1) words"
unfoldable pub marks_refusal : (n marks_length : ℕ) → Refusal
marks_refusal n marks_length = (MARKS, ltb marks_length (mark_words * (q n + 1)))

-- 7: "change at a place of n or more"; "drop at n = 0" is place 0 of no records
unfoldable pub place_refusal : (n place : ℕ) → Refusal
place_refusal n place = (PLACE, leb n place)

-- and of many changes in one save: "for any place of n or more"
unfoldable pub any_past : (n : ℕ) → (places : List ℕ) → Bool
any_past n [] = false
any_past n (p ∷ ps) = leb n p || any_past n ps

unfoldable pub places_refusal : (n : ℕ) → (places : List ℕ) → Refusal
places_refusal n places = (PLACE, any_past n places)

-- 14: "over 64, or places not rising"; "up to 64 changes in a single save", "places strictly rising"
abbrev pub most_changes : ℕ
most_changes = 64

unfoldable pub set_refusal : (places : List ℕ) → Refusal
set_refusal places = (SET, ltb most_changes (length places) || not (rising places))

-- 8: "append at n = 1,024, or with sheet or marks too small for n+1"
unfoldable pub full_refusal : (n sheet_length marks_length : ℕ) → Refusal
full_refusal n sheet_length marks_length =
    (FULL, eqb n most || ltb sheet_length (record_bytes * (n + 1)) || ltb marks_length (mark_words * (q (n + 1) + 1)))

-- 9: "the new record isn't 40 bytes", and of several "unless the new records are 40 bytes for each place"
unfoldable pub size_refusal : (records records_length : ℕ) → Refusal
size_refusal records records_length = (SIZE, not (eqb records_length (record_bytes * records)))

-- 10: "the claimed digest hasn't exactly the digest's length", which is so many bytes
unfoldable pub claim_refusal : (bytes claim_length : ℕ) → Refusal
claim_refusal bytes claim_length = (CLAIM, not (eqb claim_length bytes))

-- 23: "list shorter than n"
unfoldable pub list_refusal : (n places_length : ℕ) → Refusal
list_refusal n places_length = (PLACES, ltb places_length n)

-- the refusals of each call in their order; every save begins with those of a build
unfoldable pub build_refusals : Lengths → List Refusal
build_refusals l =
    width_refusal l.code
    ∷ out_refusal (bytes_at l.code) l.out_length
    ∷ sheet_refusal l.n l.sheet_length
    ∷ marks_refusal l.n l.marks_length
    ∷ []

unfoldable pub change_refusals : Lengths → (place record_length claim_length : ℕ) → List Refusal
change_refusals l place record_length claim_length =
    build_refusals l ++ place_refusal l.n place ∷ size_refusal 1 record_length ∷ claim_refusal (bytes_at l.code) claim_length ∷ []

unfoldable pub append_refusals : Lengths → (record_length claim_length : ℕ) → List Refusal
append_refusals l record_length claim_length =
    build_refusals l
    ++ full_refusal l.n l.sheet_length l.marks_length ∷ size_refusal 1 record_length ∷ claim_refusal (bytes_at l.code) claim_length ∷ []

unfoldable pub drop_refusals : Lengths → (claim_length : ℕ) → List Refusal
drop_refusals l claim_length = build_refusals l ++ place_refusal l.n 0 ∷ claim_refusal (bytes_at l.code) claim_length ∷ []

-- "14 SET .., after 6; then 7 .., 9 .., 10 and 11 as before."
unfoldable pub batch_refusals : Lengths → (places : List ℕ) → (records_length claim_length : ℕ) → List Refusal
batch_refusals l places records_length claim_length =
    build_refusals l
    ++ set_refusal places
    ∷ places_refusal l.n places
    ∷ size_refusal (length places) records_length
    ∷ claim_refusal (bytes_at l.code) claim_length
    ∷ []

-- "23 PLACES .., after 6; then 10 and 11."
unfoldable pub close_up_refusals : Lengths → (places_length claim_length : ℕ) → List Refusal
close_up_refusals l places_length claim_length =
    build_refusals l ++ list_refusal l.n places_length ∷ claim_refusal (bytes_at l.code) claim_length ∷ []

-- The words in which demand 3 is proved: what stands for a list of records, and what one call does to it. They are document 01's promises, a
-- sentence each.
use Rattle.std.specs.Prelude.{◌≡◌, ◌↔◌, ℕ, suc, ◌+◌, ◌*◌, ◌<◌, ◌≤◌, true, false, List, [], length, get_or, take, drop, replicate}
use Rattle.sheet_definition.specs.declared.Answer.{Answer}
use Rattle.sheet_definition.specs.declared.Found.{Found}
use Rattle.sheet_definition.specs.declared.Found.TheVariants.{Same, Group}
use Rattle.definition.specs.Luffa.{luffa}
use Rattle.definition.specs.Buffer.{Every, overwrite, joined}
use Rattle.definition.specs.Refusal.{First, STALE, STALE_TAIL, first_of, known, rising}
use Rattle.sheet_definition.specs.Sheet.{World, most, record_bytes, group_bytes, mark_words, cut, q, check_rounds}
use Rattle.sheet_definition.specs.Struck.{all_zero, standing, old_places}
use Rattle.sheet_definition.specs.Marks.{held, mark_at, mark_of, state_after, TrueMarks}
use Rattle.sheet_definition.specs.Save.{SheetOutcome, Edit, save_rounds}
use Rattle.sheet_definition.specs.Own.{used, shared, stale}
use Rattle.sheet_definition.specs.SheetCalls.{Call, call, save_of, where_of, closing_up}
use Rattle.sheet_definition.specs.Run.{next, applied}

-- the numbers that answer a stale claim
abbrev pub Stale : (number : ℕ) → Type 0
Stale number = stale number ≡ true

-- "records of 40 bytes"
abbrev pub Forty : List (List ℕ) → Type 0
Forty = Every (λ x. length x ≡ record_bytes)

-- a world stands for a list of records: they are the bytes that it holds, its marks are true, and its buffers have room for them
pub record Stands (w : World) (rs : List (List ℕ)) : Type 0 where
  pub sized : Forty rs
  pub counted : length rs ≡ w.n
  pub holds : held w.n w.sheet ≡ joined rs
  pub marks_true : TrueMarks w
  pub count : w.n ≤ most
  pub sheet-room : record_bytes * w.n ≤ length w.sheet
  pub marks-room : mark_words * (q w.n + 1) ≤ length w.marks

-- the marks from a number on, as they are written: "a written mark has them zero", the words of unused blocks
abbrev pub Written : World → (m : ℕ) → Type 0
Written w m = (k : ℕ) → m ≤ k → k ≤ q w.n → mark_at w.marks k ≡ mark_of (state_after w.code w.sheet k)

-- a sheet whose marks are laid, so that saves may begin: at a known code, with room for both, each mark is the true state as it is written
pub record Laid (w : World) : Type 0 where
  pub known-code : known w.code ≡ true
  pub count : w.n ≤ most
  pub sheet-room : record_bytes * w.n ≤ length w.sheet
  pub marks-room : mark_words * (q w.n + 1) ≤ length w.marks
  pub written : Written w 0

-- "A refusal writes nothing, returns the count it was given"
pub record Untouched (w : World) (out : List ℕ) (o : SheetOutcome) : Type 0 where
  pub count : o.answer.count ≡ w.n
  pub sheet_same : o.sheet ≡ w.sheet
  pub marks_same : o.marks ≡ w.marks
  pub out_same : o.out ≡ out

-- "and reports 0 rounds, except 11, which reports r + 1 + F"
pub record Rounds (a : Answer) (done check : ℕ) : Type 0 where
  pub when_done_lem : a.number ≡ 0 → a.rounds ≡ done
  pub when-stale : Stale a.number → a.rounds ≡ check
  pub none : (a.number ≡ 0 → ⊥) → (Stale a.number → ⊥) → a.rounds ≡ 0

-- "Bytes and words outside those named stay as they were.": the lengths, the bytes before and behind the records that an edit touches, the marks
-- up to the group of the first, and the words behind the marks of both sheets
pub record Stays (w : World) (e : Edit) (out : List ℕ) (o : SheetOutcome) : Type 0 where
  pub sheet-size : length o.sheet ≡ length w.sheet
  pub marks-size : length o.marks ≡ length w.marks
  pub out-size : length o.out ≡ length out
  pub sheet-before : take (record_bytes * e.first) o.sheet ≡ take (record_bytes * e.first) w.sheet
  pub sheet_behind : drop (record_bytes * e.past) o.sheet ≡ drop (record_bytes * e.past) w.sheet
  pub marks-before : take (mark_words * (q e.first + 1)) o.marks ≡ take (mark_words * (q e.first + 1)) w.marks
  pub marks_behind : (m : ℕ) → q w.n ≤ m → q e.count ≤ m → drop (mark_words * (m + 1)) o.marks ≡ drop (mark_words * (m + 1)) w.marks

-- "Drop zeroes the last record's bytes. When r = 0 it zeroes mark q.": the records taken away, and the marks past the last of the sheet left
pub record Freed (w : World) (o : SheetOutcome) : Type 0 where
  pub bytes : (k : ℕ) → o.answer.count ≤ k → k < w.n → take record_bytes (drop (record_bytes * k) o.sheet) ≡ replicate record_bytes 0
  pub words : (m : ℕ) → q o.answer.count < m → m ≤ q w.n → mark_at o.marks m ≡ replicate mark_words 0

-- records none of which is struck
abbrev pub Stand : List (List ℕ) → Type 0
Stand = Every (λ x. all_zero x ≡ false)

-- "writes for each new place the old one": the places rise, one for each record that stands; each is where the record stood, which isn't struck, and
-- none that isn't is left out
pub record OldPlaces (rs : List (List ℕ)) (places : List ℕ) : Type 0 where
  pub rise : rising places ≡ true
  pub one_each : length places ≡ length (standing rs)
  pub stood : (k : ℕ) → k < length places → let p = get_or places k 0 in
      (p < length rs) × (get_or (standing rs) k [] ≡ get_or rs p []) × (all_zero (get_or rs p []) ≡ false)
  pub none_left_out : (p : ℕ) → p < length rs → all_zero (get_or rs p []) ≡ false → (k : ℕ) × (k < length places) × (get_or places k 0 ≡ p)

-- closing up where none is struck: the list is 0 to n - 1, sheet and marks stay, the digest is the claim, and the work is the check again
pub record NoneStruck (w : World) (places claim out : List ℕ) : Type 0 where
  pub list : (k : ℕ) → k < w.n → get_or (old_places 0 (cut w.n w.sheet)) k 0 ≡ k
  pub stays : next w (closing_up places claim out) ≡ w
  pub digest : (call w (closing_up places claim out)).answer.number ≡ 0 → (call w (closing_up places claim out)).out ≡ overwrite claim out
  pub rounds : (call w (closing_up places claim out)).answer.number ≡ 0
      → (call w (closing_up places claim out)).answer.rounds ≡ 2 * check_rounds w.code w.n

-- what one call does to a world that stands for a list of records, whatever its arguments
pub record After (w : World) (c : Call) (rs : List (List ℕ)) : Type 0 where
  -- the list and the marks after it
  pub stands : Stands (next w c) (applied (call w c).answer.number rs c)
  -- accepted: the digest of the list after it is handed out
  pub digest : (call w c).answer.number ≡ 0
      → (call w c).out ≡ overwrite (luffa w.code (joined (applied (call w c).answer.number rs c))) c.out
  -- the marks after that of the first record's group are written, and what was taken away is zeroed
  pub written : (call w c).answer.number ≡ 0 → Written (next w c) (q (save_of w c).edit.first + 1)
  pub freed : (call w c).answer.number ≡ 0 → Freed w (call w c)
  -- whatever the answer, marks that are word for word those of a build are so afterwards
  pub as_built : Written w 0 → Written (next w c) 0
  -- with its other arguments valid it is accepted exactly when its claim is the digest of the list before it, and else answered as stale
  pub accepted : ((call w c).answer.number ≡ 0) ↔ ((first_of (save_of w c).refusals ≡ 0) × (c.claim ≡ luffa w.code (joined rs)))
  pub stale : Stale (call w c).answer.number ↔ ((first_of (save_of w c).refusals ≡ 0) × (c.claim ≡ luffa w.code (joined rs) → ⊥))
  -- the other numbers are given by its arguments, whatever the claim holds
  pub given : (k : ℕ) → (Stale (suc k) → ⊥) → ((call w c).answer.number ≡ suc k) ↔ First (suc k) (save_of w c).refusals
  -- refused: nothing is altered
  pub refused : ((call w c).answer.number ≡ 0 → ⊥) → Untouched w c.out (call w c)
  -- whatever the answer, what it doesn't name is as it was; so are the marks up to the first record's group, and the bytes past the records
  pub stays : Stays w (save_of w c).edit c.out (call w c)
  pub marks_stay : (k : ℕ) → k ≤ q (save_of w c).edit.first → mark_at (call w c).marks k ≡ mark_at w.marks k
  pub past-stays : (e : ℕ) → w.n ≤ e → (call w c).answer.count ≤ e
      → drop (record_bytes * e) (call w c).sheet ≡ drop (record_bytes * e) w.sheet
  -- the rounds are document 01's
  pub rounds : Rounds (call w c).answer (save_rounds w (save_of w c).edit) (check_rounds w.code w.n)

-- marks of two sheets that agree, after one and up to another: "the first w blocks of the marks"
abbrev pub Agree : (code : ℕ) → (held own : List ℕ) → (after to : ℕ) → Type 0
Agree code held own after to = (m : ℕ) → after < m → m ≤ to → used code held m ≡ used code own m

-- what the comparing of k pairs after mark g says: "that all shared marks agree", or "the first pair that differs, mark g+1", and as many pairs as
-- were compared
unfoldable pub Finds : (code : ℕ) → (held own : List ℕ) → (k g : ℕ) → Found → (pairs : ℕ) → Type 0
Finds code held own k g Same pairs = Agree code held own g (g + k) × (pairs ≡ k)
Finds code held own k g (Group h) pairs =
    (g ≤ h) × (h < g + k) × Agree code held own g h × (used code held (h + 1) ≡ used code own (h + 1) → ⊥) × (g + pairs ≡ h + 1)

-- a stale save whose planner brings his own sheet v's marks: a group is named
pub record Names (w v : World) (c : Call) (g : ℕ) : Type 0 where
  pub number : (call w c).answer.number ≡ STALE
  pub pairs : (where_of w c).pairs ≡ g + 1
  pub both-have : (g < q w.n) × (g < q v.n)
  -- the groups before it share their marks
  pub marks-before : Agree w.code w.marks v.marks 0 g
  -- "If both sets of marks are true to their sheets at this code, the records of the named group differ."
  pub records-differ : v.code ≡ w.code → TrueMarks w → TrueMarks v → record_bytes * w.n ≤ length w.sheet → record_bytes * v.n ≤ length v.sheet
      → take group_bytes (drop (group_bytes * g) w.sheet) ≡ take group_bytes (drop (group_bytes * g) v.sheet) → ⊥

-- or none is, as "all shared marks agree"
pub record Tail (w v : World) (c : Call) : Type 0 where
  pub number : (call w c).answer.number ≡ STALE_TAIL
  pub pairs : (where_of w c).pairs ≡ shared w.n v.n
  pub marks_agree : Agree w.code w.marks v.marks 0 (shared w.n v.n)

-- a sheet as it was, and its digest handed out
pub record Restored (code n : ℕ) (sheet out : List ℕ) (o : SheetOutcome) : Type 0 where
  pub sheet_again : o.sheet ≡ sheet
  pub digest_again : o.out ≡ overwrite (luffa code (held n sheet)) out

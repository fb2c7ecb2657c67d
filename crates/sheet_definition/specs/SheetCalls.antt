-- The sheet calls: document 01, "Sheet and marks", and document 02, Q-4, Q-6 and Q-11. Build, and the kinds of save, each by its refusals and its edit.
use Rattle.std.specs.Prelude.{ℕ, ◌+◌, ◌-◌, ◌*◌, Bool, true, false, List, [], ◌∷◌, length, take, drop, replicate}
use Rattle.definition.specs.Start.{start}
use Rattle.definition.specs.Width.{width_at}
use Rattle.definition.specs.Buffer.{overwrite_at, overwrite, joined}
use Rattle.definition.specs.Refusal.{Refusal, STALE, pick, first_of, when_done}
use Rattle.sheet_definition.specs.Sheet.{World, record_bytes, mark_words, q, cut}
use Rattle.sheet_definition.specs.Struck.{standing, old_places, first_struck}
use Rattle.sheet_definition.specs.declared.Lengths.{Lengths}
use Rattle.sheet_definition.specs.Refusals.{lengths_of, build_refusals, change_refusals, append_refusals, drop_refusals, batch_refusals, close_up_refusals}
use Rattle.sheet_definition.specs.Marks.{mark_of, worked}
use Rattle.sheet_definition.specs.Save.{SheetOutcome, refused_with, done_with, Edit, Save, save_outcome}
use Rattle.sheet_definition.specs.declared.Answer.{Answer}
use Rattle.sheet_definition.specs.declared.Where.{Where}
use Rattle.sheet_definition.specs.declared.Located.{Located}
use Rattle.sheet_definition.specs.Own.{Own, with_own, shared, compared, nowhere, stale_as, stale}
use Rattle.sheet_definition.specs.Own.Own.{None, Brought}

-- a world as its parts are lent
abbrev pub lent : (code : ℕ) → (sheet : List ℕ) → (n : ℕ) → (marks : List ℕ) → World
lent code sheet n marks = record { code = code; n = n; sheet = sheet; marks = marks }

-- "mark 0 is the starting variables", and a build works on from it
unfoldable pub build_outcome : (code : ℕ) → (sheet : List ℕ) → (n : ℕ) → (marks out : List ℕ) → SheetOutcome
build_outcome code sheet n marks out =
    let w : World = lent code sheet n marks in
    let number : ℕ = first_of (build_refusals (lengths_of w out)) in
    when_done number
    (done_with n sheet (worked code n sheet (overwrite (mark_of (start (width_at code))) marks) 0) 0 out)
    (refused_with w out number 0)

-- the kinds of save, with what each is handed beside a claim and a buffer for the digest
pub data Kind : Type 0 where
  Change : (place : ℕ) → (record' : List ℕ) → Kind
  Append : (record' : List ℕ) → Kind
  Drop : Kind
  -- many changes: their places, and the new records one after the other
  Batch : (places records' : List ℕ) → Kind
  -- closing up: the list lent for the old places
  CloseUp : (places : List ℕ) → Kind

-- a save may bring the planner's own count and marks
pub record Call : Type 0 where
  pub kind : Kind
  pub claim : List ℕ
  pub own : Own
  pub out : List ℕ

abbrev pub plain : Kind → (claim out : List ℕ) → Call
plain k claim out = record { kind = k; claim = claim; own = None; out = out }

unfoldable pub refusals_of : Lengths → (claim_length : ℕ) → Kind → List Refusal
refusals_of l k (Change place x) = change_refusals l place (length x) k
refusals_of l k (Append x) = append_refusals l (length x) k
refusals_of l k Drop = drop_refusals l k
refusals_of l k (Batch places x) = batch_refusals l places (length x) k
refusals_of l k (CloseUp places) = close_up_refusals l (length places) k

-- one record written at a place
unfoldable pub one_record : World → (place : ℕ) → (record' : List ℕ) → (count : ℕ) → (marks : List ℕ) → Edit
one_record w place x count marks =
    record {
      first = place;
      past = place + 1;
      count = count;
      sheet = overwrite_at (record_bytes * place) x w.sheet;
      marks = marks;
      works = true;
    }

-- "zeroes the old sheet's marks past the new last", from n records to count; of a drop, "When r = 0 it zeroes mark q."
unfoldable pub past_last : (n count : ℕ) → (marks : List ℕ) → List ℕ
past_last n count marks = overwrite_at (mark_words * (q count + 1)) (replicate (mark_words * (q n - q count)) 0) marks

-- a batch: the new records written at their places, the lowest place, that past the highest, and whether there is one; where there is none both
-- are the end of the sheet
unfoldable pub written_at : (places records' sheet : List ℕ) → List ℕ
written_at [] x sheet = sheet
written_at (p ∷ ps) x sheet = written_at ps (drop record_bytes x) (overwrite_at (record_bytes * p) (take record_bytes x) sheet)

unfoldable pub lowest : (n : ℕ) → (places : List ℕ) → ℕ
lowest n [] = n
lowest n (p ∷ ps) = p

unfoldable pub past_highest : (n : ℕ) → (places : List ℕ) → ℕ
past_highest n [] = n
past_highest n (p ∷ ps) = past_highest (p + 1) ps

unfoldable pub some : (places : List ℕ) → Bool
some [] = false
some (p ∷ ps) = true

-- "All are made or none. Work starts at the lowest changed group."; "An empty set only checks the claim"
unfoldable pub many_records : World → (places records' : List ℕ) → Edit
many_records w places x =
    record {
      first = lowest w.n places;
      past = past_highest w.n places;
      count = w.n;
      sheet = written_at places x w.sheet;
      marks = w.marks;
      works = some places;
    }

-- "A save "close up" removes them, keeps the rest in order, zeroes the freed bytes .., zeroes the old sheet's marks past the new last"; "on from the
-- group of the first struck place, or from the last mark if none"
unfoldable pub closed_up : World → Edit
closed_up w =
    let rs : List (List ℕ) = cut w.n w.sheet in
    let count : ℕ = length (standing rs) in
    record {
      first = first_struck rs;
      past = w.n;
      count = count;
      sheet = overwrite_at (record_bytes * count) (replicate (record_bytes * (w.n - count)) 0) (overwrite (joined (standing rs)) w.sheet);
      marks = past_last w.n count w.marks;
      works = true;
    }

-- "Change at place i replaces 40 bytes"; "Append writes record n"; "Drop zeroes the last record's bytes."
unfoldable pub edit_of : World → Kind → Edit
edit_of w (Change place x) = one_record w place x w.n w.marks
edit_of w (Append x) = one_record w w.n x (w.n + 1) w.marks
edit_of w Drop = one_record w (w.n - 1) (replicate record_bytes 0) (w.n - 1) (past_last w.n (w.n - 1) w.marks)
edit_of w (Batch places x) = many_records w places x
edit_of w (CloseUp places) = closed_up w

-- "When it is stale, compare": the marks held with the planner's own, and the number that answers then
abbrev pub comparing : World → Own → Where
comparing w None = nowhere
comparing w (Brought n marks) = compared w.code w.marks marks (shared w.n n) 0

abbrev pub stale_number_of : World → Own → ℕ
stale_number_of w None = STALE
stale_number_of w (Brought n marks) = stale_as (comparing w (Brought n marks)).found

unfoldable pub save_of : World → Call → Save
save_of w c =
    record {
      refusals = with_own w.code c.own (refusals_of (lengths_of w c.out) (length c.claim) c.kind);
      claim = c.claim;
      stale_number = stale_number_of w c.own;
      edit = edit_of w c.kind;
      out = c.out;
    }

unfoldable pub call : World → Call → SheetOutcome
call w c = save_outcome w (save_of w c)

-- where it is stale; "other answers say same and 0 pairs"
unfoldable pub where_of : World → Call → Where
where_of w c = pick (stale (call w c).answer.number) (comparing w c.own) nowhere

-- and by the arguments of each
abbrev pub changing : (place : ℕ) → (record' claim out : List ℕ) → Call
changing place x = plain (Change place x)

abbrev pub change_outcome : (code : ℕ) → (sheet : List ℕ) → (n : ℕ) → (marks : List ℕ) → (place : ℕ) → (record' claim out : List ℕ) → SheetOutcome
change_outcome code sheet n marks place x claim out = call (lent code sheet n marks) (changing place x claim out)

abbrev pub append_outcome : (code : ℕ) → (sheet : List ℕ) → (n : ℕ) → (marks record' claim out : List ℕ) → SheetOutcome
append_outcome code sheet n marks x claim out = call (lent code sheet n marks) (plain (Append x) claim out)

abbrev pub drop_outcome : (code : ℕ) → (sheet : List ℕ) → (n : ℕ) → (marks claim out : List ℕ) → SheetOutcome
drop_outcome code sheet n marks claim out = call (lent code sheet n marks) (plain Drop claim out)

abbrev pub batching : (places records' claim out : List ℕ) → Call
batching places x = plain (Batch places x)

abbrev pub batch_outcome : (code : ℕ) → (sheet : List ℕ) → (n : ℕ) → (marks places records' claim out : List ℕ) → SheetOutcome
batch_outcome code sheet n marks places x claim out = call (lent code sheet n marks) (batching places x claim out)

-- closing up: beside what every save leaves, the list lent for the old places; "writes for each new place the old one" where it is done
pub record CloseUpOutcome : Type 0 where
  pub answer : Answer
  pub sheet : List ℕ
  pub marks : List ℕ
  pub places : List ℕ
  pub out : List ℕ

abbrev pub closing_up : (places claim out : List ℕ) → Call
closing_up places = plain (CloseUp places)

unfoldable pub close_up_outcome : (code : ℕ) → (sheet : List ℕ) → (n : ℕ) → (marks claim places out : List ℕ) → CloseUpOutcome
close_up_outcome code sheet n marks claim places out =
    let o : SheetOutcome = call (lent code sheet n marks) (closing_up places claim out) in
    record {
      answer = o.answer;
      sheet = o.sheet;
      marks = o.marks;
      places = when_done o.answer.number (overwrite (old_places 0 (cut n sheet)) places) places;
      out = o.out;
    }

-- a save that brings the planner's own marks: its answer says where, and the buffers are as they are at the end
pub record OwnOutcome : Type 0 where
  pub answer : Located
  pub sheet : List ℕ
  pub marks : List ℕ
  pub out : List ℕ

unfoldable pub saying : SheetOutcome → Where → OwnOutcome
saying o v =
    record {
      answer = record { number = o.answer.number; count = o.answer.count; rounds = o.answer.rounds; place = v };
      sheet = o.sheet;
      marks = o.marks;
      out = o.out;
    }

unfoldable pub own_outcome : World → Kind → (claim : List ℕ) → (own : ℕ) → (own_marks out : List ℕ) → OwnOutcome
own_outcome w k claim own own_marks out =
    let c : Call = record { kind = k; claim = claim; own = Brought own own_marks; out = out } in
    saying (call w c) (where_of w c)

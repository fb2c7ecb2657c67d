-- Saves made one by one, each with the claim right at its time: changes, beside which a batch is read (document 02, Q-4), and appends.
use Rattle.std.specs.Prelude.{◌≡◌, ℕ, ◌+◌, ◌≤◌, List, [], ◌∷◌, length, take, drop}
use Rattle.sheet_definition.specs.Sheet.{World, record_bytes}
use Rattle.sheet_definition.specs.Save.{checked}
use Rattle.sheet_definition.specs.SheetCalls.{Kind, Call, plain, call, batching}
use Rattle.sheet_definition.specs.SheetCalls.Kind.{Change, Append}
use Rattle.sheet_definition.specs.Run.{next, run, list_after}

-- the changes of a batch
unfoldable pub changes_of : (places records' : List ℕ) → List Kind
changes_of [] x = []
changes_of (p ∷ ps) x = Change p (take record_bytes x) ∷ changes_of ps (drop record_bytes x)

-- records appended one after the other
unfoldable pub appends_of : (records' : List (List ℕ)) → List Kind
appends_of [] = []
appends_of (x ∷ xs) = Append x ∷ appends_of xs

-- what saves that are all done make of a list of records
unfoldable pub list_after_all : List Kind → List (List ℕ) → List (List ℕ)
list_after_all [] rs = rs
list_after_all (k ∷ ks) rs = list_after_all ks (list_after k rs)

-- a save "with the right claim": the digest that the check of the sheet held works out, from true marks or false
unfoldable pub rightly : World → Kind → (out : List ℕ) → Call
rightly w k out = plain k (checked w).digest out

-- "saved one by one", each lent such a buffer for its digest
unfoldable pub one_by_one : World → List Kind → (out : List ℕ) → List Call
one_by_one w [] out = []
one_by_one w (k ∷ ks) out = rightly w k out ∷ one_by_one (next w (rightly w k out)) ks out

-- all are done; the rounds that they take; the buffer of the last
unfoldable pub AllDone : World → List Call → Type 0
AllDone w [] = Unit
AllDone w (c ∷ cs) = ((call w c).answer.number ≡ 0) × AllDone (next w c) cs

unfoldable pub rounds_of_all : World → List Call → ℕ
rounds_of_all w [] = 0
rounds_of_all w (c ∷ cs) = (call w c).answer.rounds + rounds_of_all (next w c) cs

unfoldable pub last_out : World → List Call → (out : List ℕ) → List ℕ
last_out w [] out = out
last_out w (c ∷ cs) out = last_out (next w c) cs (call w c).out

abbrev pub changes_saved : World → (places records' out : List ℕ) → List Call
changes_saved w places x out = one_by_one w (changes_of places x) out

-- a batch beside its changes saved one by one: the same sheet, marks and digest, in no more rounds, and for one change in as many
pub record AsOneByOne (w : World) (places x claim out : List ℕ) : Type 0 where
  pub all_done : AllDone w (changes_saved w places x out)
  pub same_world : run w (changes_saved w places x out) ≡ next w (batching places x claim out)
  pub same_digest : last_out w (changes_saved w places x out) out ≡ (call w (batching places x claim out)).out
  pub no_more_rounds : (call w (batching places x claim out)).answer.rounds ≤ rounds_of_all w (changes_saved w places x out)
  pub as_many_for_one : length places ≡ 1 → (call w (batching places x claim out)).answer.rounds ≡ rounds_of_all w (changes_saved w places x out)

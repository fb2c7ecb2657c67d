-- A save that brings the planner's own marks and count, and where it is stale: document 02, Q-6.
use Rattle.std.specs.Prelude.{ℕ, zero, suc, ◌+◌, ◌*◌, Bool, not, ◌||◌, List, [], ◌∷◌, ◌++◌, ltb, eqb, length}
use Rattle.sheet_definition.specs.declared.Found.{Found}
use Rattle.sheet_definition.specs.declared.Found.TheVariants.{Same, Group}
use Rattle.sheet_definition.specs.declared.Where.{Where}
use Rattle.sheet_definition.specs.declared.Located.{Located}
use Rattle.sheet_definition.specs.declared.LocatedAnswer.{LocatedAnswer}
use Rattle.definition.specs.Start.{start}
use Rattle.definition.specs.Width.{width_at}
use Rattle.definition.specs.Buffer.{same}
use Rattle.definition.specs.Refusal.{Refusal, STALE, OWN, STALE_TAIL, pick}
use Rattle.sheet_definition.specs.Sheet.{most, mark_words, q}
use Rattle.sheet_definition.specs.Marks.{mark_at, state_from, mark_of}

-- "bring the planner's own marks and count"
pub data Own : Type 0 where
  None : Own
  Brought : (n : ℕ) → (marks : List ℕ) → Own

-- "the first w blocks" of mark m: its words, those of unused blocks zero, so that what stands there isn't read
unfoldable pub used : (code : ℕ) → (marks : List ℕ) → (m : ℕ) → List ℕ
used code marks m = mark_of (state_from (width_at code) (mark_at marks m))

-- 15: "count over 1,024, buffer too small by rule 6, or first w blocks of mark 0 not the starting variables"
unfoldable pub own_refusal : (code n : ℕ) → (marks : List ℕ) → Refusal
own_refusal code n marks =
    (OWN, (ltb most n || ltb (length marks) (mark_words * (q n + 1))) || not (same (used code marks 0) (mark_of (start (width_at code)))))

-- "after 10"
abbrev pub with_own : (code : ℕ) → Own → List Refusal → List Refusal
with_own code None rs = rs
with_own code (Brought n marks) rs = rs ++ own_refusal code n marks ∷ []

-- "from mark 1 as far as both sheets have them"
unfoldable pub shared : (n own : ℕ) → ℕ
shared n own = pick (ltb (q n) (q own)) (q n) (q own)

-- "up to the first pair that differs, mark g+1: the answer says same marks shared, or names group g, beside the number of pairs compared": the
-- next k pairs, the first of them that of mark g+1
unfoldable pub one_more : Where → Where
one_more v = record { found = v.found; pairs = v.pairs + 1 }

unfoldable pub compared : (code : ℕ) → (held own : List ℕ) → (k g : ℕ) → Where
compared code held own zero g = record { found = Same; pairs = 0 }
compared code held own (suc k) g =
    one_more (pick (same (used code held (g + 1)) (used code own (g + 1))) (compared code held own k (g + 1)) (record { found = Group g; pairs = 0 }))

-- "other answers say same and 0 pairs"
abbrev pub nowhere : Where
nowhere = record { found = Same; pairs = 0 }

-- "11 then means a named group, and 16 STALE-TAIL that all shared marks agree"
unfoldable pub stale_as : Found → ℕ
stale_as Same = STALE_TAIL
stale_as (Group g) = STALE

-- "Demand 3's stale is 11 or 16."
unfoldable pub stale : (number : ℕ) → Bool
stale number = eqb number STALE || eqb number STALE_TAIL

-- the numbers for C of what was found: which case, and the group
unfoldable pub kind_of : Found → ℕ
kind_of Same = 0
kind_of (Group g) = 1

unfoldable pub group_of : Found → ℕ
group_of Same = 0
group_of (Group g) = g

unfoldable pub located_answer : Located → LocatedAnswer
located_answer l =
    record {
      number = l.number;
      count = l.count;
      rounds = l.rounds;
      kind = kind_of l.place.found;
      group = group_of l.place.found;
      pairs = l.place.pairs;
    }

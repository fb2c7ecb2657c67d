-- The answer of a save that brings the planner's own marks, from the plain call's: document 02, Q-6.
use Rattle.std.specs.Prelude.{ℕ, List, eqb, Result, Ok, Err}
use Rattle.sheet_definition.specs.declared.Answer.{Answer}
use Rattle.sheet_definition.specs.declared.Where.{Where}
use Rattle.sheet_definition.specs.declared.Located.{Located}
use Rattle.definition.specs.Refusal.{DONE, STALE, pick}
use Rattle.refusals.specs.Number.{number}
use Rattle.sheet_definition.specs.Own.{shared, compared, nowhere, stale_as}
use Rattle.sheet_work.specs.declared.Saved.{Saved}
use Rattle.sheet_own.specs.declared.Strayed.{Strayed}

-- from what it leaves, or why it is turned away and where
abbrev pub located_of : (n : ℕ) → Result Saved Strayed → Located
located_of n (Ok s) = record { number = DONE; count = s.count; rounds = s.rounds; place = nowhere }
located_of n (Err s) = record { number = number s.refusal; count = n; rounds = s.rounds; place = s.place }

-- "for such a save 11 then means a named group, and 16 STALE-TAIL that all shared marks agree; .. other answers say same and 0 pairs"
unfoldable pub located : (code n : ℕ) → (marks : List ℕ) → (own : ℕ) → (own_marks : List ℕ) → Answer → Located
located code n marks own own_marks a =
    let at : Where = compared code marks own_marks (shared n own) 0 in
    pick (eqb a.number STALE)
    (record { number = stale_as at.found; count = a.count; rounds = a.rounds; place = at })
    (record { number = a.number; count = a.count; rounds = a.rounds; place = nowhere })

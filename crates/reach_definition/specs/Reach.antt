-- Which records are marked, and the outcome of a call: document 02, Q-10.
use Rattle.std.specs.Prelude.{ℕ, zero, suc, Bool, not, ◌&&◌, ◌||◌, List, [], ◌∷◌, ◌++◌, map, ltb, eqb, length, drop}
use Rattle.definition.specs.Refusal.{Refusal, DONE, HOPS, UNSOUND, WELL, REACH, pick, first_of, when_done}
use Rattle.sheet_definition.specs.Refusals.{sheet_refusal}
use Rattle.plan_definition.specs.declared.Link.{Link}
use Rattle.plan_definition.specs.declared.Well.{Well}
use Rattle.plan_definition.specs.Some.{some}
use Rattle.plan_definition.specs.Well.{wells}
use Rattle.plan_definition.specs.Rules.{producer, injector, used, has_number}
use Rattle.plan_definition.specs.Check.{sound}

-- "A producer reaches the injectors it links; an injector reaches the producers that link it."
unfoldable pub names : (number : ℕ) → Link → Bool
names k l = eqb l.injector k

unfoldable pub links_to : (producer injector : Well) → Bool
links_to p i = producer p && (injector i && some (names i.number) (used p))

unfoldable pub reaches : Well → Well → Bool
reaches v w = links_to v w || links_to w v

-- "a chain of at most that many links joins it, the well itself at 0", from "a named well": joined with a hop fewer, or reached by a record that is
unfoldable pub joined : List Well → (number hops : ℕ) → Well → Bool
joined ws k zero w = has_number k w
joined ws k (suc h) w = joined ws k h w || some (λ v. joined ws k h v && reaches v w) ws

-- "mark each record reached .., one byte a record, 1 or 0"
unfoldable pub marks : List Well → (number hops : ℕ) → List ℕ
marks ws k hops = map (λ w. pick (joined ws k hops w) 1 0) ws

-- "Refusals: 5, then 19 HOPS (over 3), 20 UNSOUND (Q-1 faults the sheet), 21 WELL (number absent), 22 REACH (buffer shorter than n)." A length
-- stands for the buffer
unfoldable pub reach_refusals : (sheet : List ℕ) → (n number hops reached : ℕ) → List Refusal
reach_refusals sheet n k hops reached =
    sheet_refusal n (length sheet)
    ∷ (HOPS, ltb 3 hops)
    ∷ (UNSOUND, not (sound (wells n sheet)))
    ∷ (WELL, not (some (has_number k) (wells n sheet)))
    ∷ (REACH, ltb reached n)
    ∷ []

pub record ReachOutcome : Type 0 where
  pub number : ℕ
  pub reached : List ℕ

-- "Bytes after the n-th stay."
unfoldable pub reach_outcome : (sheet : List ℕ) → (n number hops : ℕ) → (reached : List ℕ) → ReachOutcome
reach_outcome sheet n k hops reached =
    let number : ℕ = first_of (reach_refusals sheet n k hops (length reached)) in
    when_done number (record { number = DONE; reached = marks (wells n sheet) k hops ++ drop n reached })
    (record { number = number; reached = reached })

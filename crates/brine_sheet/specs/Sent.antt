-- What is sent to the places of a sheet, where a table has the place of each well at its number: the page's sums by place instead of by number.
use Rattle.std.specs.Prelude.{ℕ, ◌+◌, ◌*◌, ◌^◌, ◌<◌, ◌≤◌, ◌≡◌, List, [], ◌∷◌, eqb, length, get_or}
use Rattle.definition.specs.Refusal.{pick}
use Rattle.plan_definition.specs.declared.Link.{Link}
use Rattle.plan_definition.specs.declared.Well.{Well}
use Rattle.plan_definition.specs.Some.{Among}
use Rattle.plan_definition.specs.Rules.{producer, used}

-- each link leads to a place below n
unfoldable pub Named : (places : List ℕ) → (n : ℕ) → List Link → Type 0
Named t n ls = (l : Link) → Among l ls → get_or t l.injector 0 < n

-- so do all links of the producers among some wells, which have four links at most
unfoldable pub AllNamed : (places : List ℕ) → (n : ℕ) → List Well → Type 0
AllNamed t n ws = (w : Well) → Among w ws → w.kind ≡ 1 → (w.count ≤ 4) × Named t n (used w)

-- what links at a rate bring to a place
unfoldable pub brought_to : (places : List ℕ) → (rate : ℕ) → List Link → (place : ℕ) → ℕ
brought_to t rate [] q = 0
brought_to t rate (l ∷ ls) q = pick (eqb (get_or t l.injector 0) q) (rate * l.share) 0 + brought_to t rate ls q

-- and what the producers among some wells send there
unfoldable pub sent_to : (places : List ℕ) → List Well → (place : ℕ) → ℕ
sent_to t [] q = 0
sent_to t (w ∷ ws) q = pick (producer w) (brought_to t w.rate (used w) q) 0 + sent_to t ws q

-- a list with so much more at each place; and one that can take so much more, each sum still 64 bits wide
unfoldable pub Added : (more : ℕ → ℕ) → (before after : List ℕ) → Type 0
Added f x y = (q : ℕ) → get_or y q 0 ≡ get_or x q 0 + f q

unfoldable pub Takes : (more : ℕ → ℕ) → List ℕ → Type 0
Takes f x = (q : ℕ) → q < length x → get_or x q 0 + f q < 2 ^ 64

-- What joins two wells: document 02, Q-10. It is said of the records alone, apart from any search.
use Rattle.std.specs.Prelude.{ℕ, suc, ◌≤◌, ◌≡◌, List}
use Rattle.plan_definition.specs.declared.Link.{Link}
use Rattle.plan_definition.specs.declared.Well.{Well}
use Rattle.plan_definition.specs.Some.{Among}
use Rattle.plan_definition.specs.Rules.{used}

-- a producer links an injector: a link that it uses has the injector's number
unfoldable pub LinksTo : (producer injector : Well) → Type 0
LinksTo p i = (p.kind ≡ 1) × (i.kind ≡ 2) × ((l : Link) × Among l (used p) × (l.injector ≡ i.number))

-- "A producer reaches the injectors it links; an injector reaches the producers that link it."
pub data Reaches (v w : Well) : Type 0 where
  links : LinksTo v w → Reaches v w
  linked : LinksTo w v → Reaches v w

-- a chain of so many links from a well to a record, "the well itself at 0"
pub data Chain (ws : List Well) (from : Well) : (links : ℕ) → Well → Type 0 where
  itself : Chain ws from 0 from
  on : {k : ℕ} {v w : Well} → Chain ws from k v → Reaches v w → Among w ws → Chain ws from (suc k) w

-- "a chain of at most that many links joins it"
pub record Joined (ws : List Well) (hops : ℕ) (from w : Well) : Type 0 where
  pub links : ℕ
  pub at_most : links ≤ hops
  pub chain : Chain ws from links w

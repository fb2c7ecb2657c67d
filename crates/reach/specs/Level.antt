-- What holds of a search between two hops.
use Rattle.std.specs.Prelude.{ℕ, suc, ◌+◌, ◌*◌, ◌<◌, ◌≤◌, ◌≡◌, ◌↔◌, ◌⊎◌, Bool, true, false, List, Option, None, Some, length, get_or}
use Rattle.plan_definition.specs.declared.Well.{Well}
use Rattle.plan_definition.specs.Some.{some, Among}
use Rattle.plan_definition.specs.Well.{wells}
use Rattle.plan_definition.specs.Rules.{struck, has_number}
use Rattle.plan_definition.specs.Sound.{Sound}
use Rattle.plan_record.specs.Total.{well_in}
use Rattle.plan_numbers.specs.Numbers.{has}
use Rattle.plan.specs.Sets.{count_of, wells_of}
use Rattle.reach_definition.specs.Chain.{Joined}

-- records that are searched: each has its byte, and they make sense
pub record Searched (records : List ℕ) (n : ℕ) : Type 0 where
  pub room : 40 * n ≤ length records
  pub sound : Sound (wells n records)

-- where the well of a number stands among records, if there is one
pub record FoundAt (records : List ℕ) (number place : ℕ) : Type 0 where
  pub within : place < count_of records
  pub there : some (has_number number) (wells_of records) ≡ true
  pub stands-there : struck (well_in records place) ≡ false
  pub number-there : (well_in records place).number ≡ number

abbrev pub Found : (records : List ℕ) → (number : ℕ) → Option ℕ → Type 0
Found records k None = some (has_number k) (wells_of records) ≡ false
Found records k (Some place) = FoundAt records k place

-- a producer that so many hops join to a well, and that an injector of a number is
abbrev pub JoinedProducer : List Well → (hops : ℕ) → (from w : Well) → Type 0
JoinedProducer ws hops from w = (w.kind ≡ 1) × Joined ws hops from w

abbrev pub JoinedInjector : List Well → (hops : ℕ) → (from : Well) → (number : ℕ) → Type 0
JoinedInjector ws hops from k = (w : Well) × Among w ws × (w.number ≡ k) × (w.kind ≡ 2) × Joined ws hops from w

-- so many hops from a well the producers that are joined to it are marked, and the set has the injectors that are
pub record Level (ws : List Well) (from : Well) (hops : ℕ) (reached : List ℕ) (taken : ℕ → Bool) : Type 0 where
  pub bits : (w : Well) → Among w ws → (get_or reached w.place 0 ≡ 0) ⊎ (get_or reached w.place 0 ≡ 1)
  pub producers : (w : Well) → Among w ws → (get_or reached w.place 0 ≡ 1) ↔ JoinedProducer ws hops from w
  pub injectors : (k : ℕ) → (taken k ≡ true) ↔ JoinedInjector ws hops from k

-- one hop more joins no further well of a kind
abbrev pub Settled : (kind : ℕ) → List Well → (from : Well) → (hops : ℕ) → Type 0
Settled kind ws from hops = (w : Well) → Among w ws → w.kind ≡ kind → Joined ws (suc hops) from w → Joined ws hops from w

-- so many hops further, where the first is from wells of a kind to the others
unfoldable pub Onward : (kind : ℕ) → List Well → (hops : ℕ) → (reached taken reached' taken' : List ℕ) → Type 0
Onward kind ws hops r t r' t' =
    (from : Well) (h : ℕ) → Among from ws → Level ws from h r (has t) → Settled kind ws from h → Level ws from (h + hops) r' (has t')

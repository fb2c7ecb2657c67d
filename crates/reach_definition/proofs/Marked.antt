-- What a mark says. A record is marked exactly when a chain of at most so many links joins it to the well, so a struck one never is; more hops never
-- unmark one; and joined is mutual.
-- Assumes nothing.
use mathlib.Core.Path.{◌≡◌, refl, sym, ◌∙◌}
use mathlib.Core.Logic.Iff
use mathlib.Core.Logic.{◌↔◌}
use mathlib.Core.Bool.{Bool, true, false, true≢false}
use mathlib.Core.List.{List}
use Prim.Native.Nat.{ℕ, ◌*◌, ◌<◌, ◌≤◌}
use native.Mathlib.Omega.{arith}
use lib.ListN.{length, get_or, take, drop, get_or-append}
use Rattle.definition.specs.Refusal.{pick}
use Rattle.sheet_definition.specs.Struck.{all_zero}
use Rattle.plan_definition.specs.declared.Well.{Well}
use Rattle.plan_definition.specs.Some.{Among}
use Rattle.plan_definition.specs.Well.{wells}
use Rattle.plan_definition.specs.Rules.{struck}
use Rattle.plan_definition.specs.Sound.{Sound}
use Rattle.plan_definition.proofs.Struck.{struck_by_bytes}
use Rattle.plan_definition.proofs.Places.{well_at, wells_at}
use Rattle.plan_definition.proofs.Listed.{each_at, number_fits}
use Rattle.reach_definition.specs.Chain.{Joined}
use Rattle.reach_definition.specs.Reach.{joined, marks, reach_outcome}
use Rattle.reach_definition.proofs.Chains.{end-stands, joined_back, joined_more}
use Rattle.reach_definition.proofs.Tests.{joined_exactly}
use Rattle.reach_definition.proofs.One.{one_well}
use Rattle.reach_definition.proofs.Outcomes.{length-marks, given, done}
use Rattle.reach_definition.proofs.Refused.{none_refused}

-- a bit that a test picks
abbrev bit : Bool → ℕ
bit b = pick b 1 0

one_or_zero : (b : Bool) → (bit b ≡ 1) ↔ (b ≡ true)
unfolding pick
one_or_zero true = (λ e. refl, λ e. refl)
one_or_zero false = (λ e. absurd (omega (arith, e)), λ e. cc)

zero_or_one : (b : Bool) → (bit b ≡ 0) ↔ (bit b ≡ 1 → ⊥)
unfolding pick
zero_or_one true = (λ e. absurd (omega (arith, e)), λ f. absurd (f refl))
zero_or_one false = (λ e f. omega (arith, f), λ f. refl)

-- the byte that a call leaves at a place
abbrev pub byte_after : (sheet : List ℕ) → (n number hops : ℕ) → (reached : List ℕ) → (place : ℕ) → ℕ
byte_after sheet n k hops reached i = get_or (reach_outcome sheet n k hops reached).reached i 0

-- the well that a call names
pub record Named (sheet : List ℕ) (n number : ℕ) : Type 0 where
  pub well : Well
  pub in_sheet : Among well (wells n sheet)
  pub stands : struck well ≡ false
  pub its_number : well.number ≡ number

module _ (sheet : List ℕ) (n k hops : ℕ) (reached : List ℕ) (e : given sheet n k hops reached ≡ 0) where
  keeps : Sound (wells n sheet)
  keeps = ((none_refused sheet n k hops (length reached)).0 e).1.1.0

  -- there is one
  pub named_well : Named sheet n k
  named_well =
      let s = ((none_refused sheet n k hops (length reached)).0 e).1.1.1.0 in
      record { well = s.0; in_sheet = s.1; stands = s.2.0; its_number = s.2.1 }

  -- and no other
  pub no_other : (a b : Named sheet n k) → a.well ≡ b.well
  no_other a b = one_well n sheet keeps a.well b.well a.in_sheet b.in_sheet b.stands (a.its_number ∙ sym b.its_number)

  module _ (i : ℕ) (h : i < n) where
    byte_at : byte_after sheet n k hops reached i ≡ pick (joined (wells n sheet) k hops (well_at i sheet)) 1 0
    unfolding marks
    byte_at =
        rw (done sheet n k hops reached e)
        (get_or-append (marks (wells n sheet) k hops) (drop n reached) 0 i (omega (arith, length-marks n sheet k hops, h))
        ∙ each_at n sheet (λ w. pick (joined (wells n sheet) k hops w) 1 0) 0 i h)

    -- "A record is marked exactly when a chain of at most that many links joins it"
    pub marked_exactly : (from : Named sheet n k) → (byte_after sheet n k hops reached i ≡ 1) ↔ Joined (wells n sheet) hops from.well (well_at i sheet)
    marked_exactly from =
        let ws = wells n sheet in
        let only : (w : Well) → Among w ws → w.number ≡ k → w ≡ from.well =
        λ w m f. one_well n sheet keeps w from.well m from.in_sheet from.stands (f ∙ sym from.its_number) in
        Iff.trans (rw byte_at (one_or_zero _))
        (joined_exactly ws k from.well from.in_sheet from.stands from.its_number only hops (well_at i sheet) ((wells_at n sheet (well_at i sheet)).1 (i, h, refl)))

    -- "1 or 0"
    pub unmarked_exactly : (byte_after sheet n k hops reached i ≡ 0) ↔ (byte_after sheet n k hops reached i ≡ 1 → ⊥)
    unmarked_exactly = rw byte_at (zero_or_one (joined (wells n sheet) k hops (well_at i sheet)))

    -- "is never marked"
    pub struck_unmarked : all_zero (take 40 (drop (40 * i) sheet)) ≡ true → byte_after sheet n k hops reached i ≡ 0
    struck_unmarked z =
        unmarked_exactly.1 (λ b.
        true≢false (sym (struck_by_bytes i _ ∙ z) ∙ end-stands named_well.stands ((marked_exactly named_well).0 b).chain))

-- a number that isn't two bytes is none of a sheet's, however its low bytes read
pub number-whole : (sheet : List ℕ) (n k : ℕ) → ((i : ℕ) → get_or sheet i 0 < 256) → 65536 ≤ k → Named sheet n k → ⊥
number-whole sheet n k bytes l from =
    let at = (wells_at n sheet from.well).0 from.in_sheet in
    omega (arith, number_fits sheet bytes at.0, rw at.2 at from.its_number, l)

-- "More hops never unmark one": what is marked at g hops is at h
pub more_hops : (sheet : List ℕ) (n k g h : ℕ) (reached : List ℕ) → g ≤ h → h ≤ 3 → given sheet n k g reached ≡ 0 → (i : ℕ) → i < n
    → byte_after sheet n k g reached i ≡ 1 → byte_after sheet n k h reached i ≡ 1
more_hops sheet n k g h reached l m e i b d =
    let from = named_well sheet n k g reached e in
    (marked_exactly sheet n k h reached (accepted e m) i b from).1 (joined_more l ((marked_exactly sheet n k g reached e i b from).0 d))
  where
    accepted : given sheet n k g reached ≡ 0 → h ≤ 3 → given sheet n k h reached ≡ 0
    accepted e m = let s = (none_refused sheet n k g (length reached)).0 e in (none_refused sheet n k h (length reached)).1 (s.0, (m, s.1.1))

-- Joined is mutual: a record that a well marks in so many hops marks it back in as many
pub both_ways : (sheet : List ℕ) (n hops : ℕ) (reached : List ℕ) (i j : ℕ) → i < n → j < n → given sheet n (well_at i sheet).number hops reached ≡ 0
    → byte_after sheet n (well_at i sheet).number hops reached j ≡ 1
    → (given sheet n (well_at j sheet).number hops reached ≡ 0) × (byte_after sheet n (well_at j sheet).number hops reached i ≡ 1)
both_ways sheet n hops reached i j h l e d =
    let a = well_at i sheet in
    let b = well_at j sheet in
    let s = (none_refused sheet n a.number hops (length reached)).0 e in
    let from = named_well sheet n a.number hops reached e in
    let itself : a ≡ from.well =
    one_well n sheet s.1.1.0 a from.well ((wells_at n sheet a).1 (i, h, refl)) from.in_sheet from.stands (sym from.its_number) in
    let chain = (marked_exactly sheet n a.number hops reached e j l from).0 d in
    let to : Named sheet n b.number =
    record { well = b; in_sheet = (wells_at n sheet b).1 (j, l, refl); stands = end-stands from.stands chain.chain; its_number = refl } in
    let accepted : given sheet n b.number hops reached ≡ 0 =
    (none_refused sheet n b.number hops (length reached)).1 (s.0, (s.1.0, (s.1.1.0, ((b, to.in_sheet, (to.stands, refl)), s.1.1.1.1)))) in
    (accepted, (marked_exactly sheet n b.number hops reached accepted i h to).1 (rw itself (joined_back from.in_sheet chain)))

-- What the search for the first fault finds: none exactly where every record makes sense, and else the lowest faulty place with the first
-- rule broken there.
-- Assumes nothing.
use mathlib.Core.Path.{◌≡◌, refl, sym, ◌∙◌}
use mathlib.Core.Logic.Iff
use mathlib.Core.Logic.{◌↔◌}
use mathlib.Core.Bool.{Bool, true, false}
use mathlib.Core.List.{List, [], ◌∷◌}
use Prim.Native.Nat.{ℕ, zero, suc, ◌<◌, ◌≤◌}
use native.Mathlib.Nat.{le_refl}
use native.Mathlib.Omega.{arith}
use Rattle.definition.specs.Refusal.{Refusal, First, pick, first_of}
use Rattle.definition.specs.Buffer.{Every}
use Rattle.definition.proofs.Refusals.{of_first, first_given, given_first, none_exactly}
use Rattle.plan_definition.specs.declared.Well.{Well}
use Rattle.plan_definition.specs.declared.Rule.{Rule}
use Rattle.plan_definition.specs.declared.Rule.TheVariants.{Number, Kind, LinkCount, Rate, Links, Shares, UnusedLinks, Repeat}
use Rattle.plan_definition.specs.declared.Verdict.{Verdict}
use Rattle.plan_definition.specs.declared.Verdict.TheVariants.{Sound, Fault}
use Rattle.plan_definition.specs.Some.{Among}
use Rattle.plan_definition.specs.Some.Among.{here, later}
use Rattle.plan_definition.specs.Well.{well_of, wells_from}
use Rattle.plan_definition.specs.Rules.{struck, rule_number, rules_by, rules_at}
use Rattle.plan_definition.specs.Sound.{MakesSense}
use Rattle.plan_definition.specs.Check.{rule_of, found_at, first_fault}
use Rattle.plan_definition.proofs.Some.{none_among, among-cons}
use Rattle.plan_definition.proofs.Ranked.{keeps}

-- a rule's number isn't 0, and the rule is had back from it
pub rule-number : (r : Rule) → (0 < rule_number r) × (rule_of (rule_number r) ≡ r)
unfolding rule_of
rule-number Number = (omega arith, refl)
rule-number Kind = (omega arith, refl)
rule-number LinkCount = (omega arith, refl)
rule-number Rate = (omega arith, refl)
rule-number Links = (omega arith, refl)
rule-number Shares = (omega arith, refl)
rule-number UnusedLinks = (omega arith, refl)
rule-number Repeat = (omega arith, refl)

pub rule-back : (r : Rule) → rule_of (rule_number r) ≡ r
rule-back r = (rule-number r).1

-- a number that isn't 0 is a fault
pub found : (k place : ℕ) (rest : Verdict) → 0 < k → found_at k place rest ≡ Fault (rule_of k) place
unfolding found_at
found zero place rest h = absurd (omega arith)
found (suc k) place rest h = refl

-- the wells from a place on stand at places that rise
abbrev pub Rising : List Well → Type 0
Rising [] = Unit
Rising (w ∷ ws) = ((v : Well) → Among v ws → w.place < v.place) × Rising ws

from : (i : ℕ) (xs : List (List ℕ)) (v : Well) → Among v (wells_from i xs) → i ≤ v.place
unfolding wells_from well_of
from i [] v m = absurd (none_among m)
from i (x ∷ xs) v m = among-cons (λ v. i ≤ v.place) (le_refl i) (λ v m. let h = from (suc i) xs v m in omega arith) v m

pub rising : (i : ℕ) (xs : List (List ℕ)) → Rising (wells_from i xs)
unfolding wells_from well_of
rising i [] = tt
rising i (x ∷ xs) = (from (suc i) xs, rising (suc i) xs)

-- of some wells of a sheet, the lowest faulty place with the first rule broken there
pub record FaultAmong (all ws : List Well) (rule : Rule) (place : ℕ) : Type 0 where
  pub well : Well
  pub among : Among well ws
  pub at : well.place ≡ place
  pub first_broken : First (rule_number rule) (rules_at all well)
  pub before : (v : Well) → Among v ws → v.place < place → MakesSense all v

abbrev pub FirstFault : List Well → Rule → (place : ℕ) → Type 0
FirstFault ws = FaultAmong ws ws

-- what holds of every number of a list holds of those of none
exempt : (P : ℕ → Type 0) (b : Bool) (rs : List Refusal) → Every (λ r. P r.0) rs → Every (λ r. P r.0) (pick b [] rs)
unfolding pick
exempt P true rs h = tt
exempt P false rs h = h

module _ (all : List Well) where
  -- 0 stands for a record that makes sense, any other number for a rule
  no_fault : (w : Well) → (first_of (rules_at all w) ≡ 0) ↔ MakesSense all w
  unfolding rules_at rules_by
  no_fault w = Iff.trans (none_exactly (rules_at all w) (exempt (λ k. 0 < k) (struck w) _ (omega arith))) (keeps all w)

  number-back : (w : Well) {k : ℕ} → First k (rules_at all w) → rule_number (rule_of k) ≡ k
  unfolding rules_at rules_by rule_of
  number-back w f = of_first (λ k. rule_number (rule_of k) ≡ k) f (exempt (λ k. rule_number (rule_of k) ≡ k) (struck w) _ (search))

  -- sound exactly when every record makes sense
  pub none_faulty : (ws : List Well) → (first_fault all ws ≡ Sound) ↔ ((w : Well) → Among w ws → MakesSense all w)
  unfolding first_fault found_at
  none_faulty [] = (λ e w m. absurd (none_among m), λ h. refl)
  none_faulty (w ∷ ws) = go (first_of (rules_at all w)) refl (none_faulty ws)
    where
      go : (k : ℕ) → first_of (rules_at all w) ≡ k → (first_fault all ws ≡ Sound) ↔ ((v : Well) → Among v ws → MakesSense all v)
          → (found_at k w.place (first_fault all ws) ≡ Sound) ↔ ((v : Well) → Among v (w ∷ ws) → MakesSense all v)
      go zero e i = (λ f. among-cons (MakesSense all) ((no_fault w).0 e) (i.0 f), λ h. i.1 (λ v m. h v (later m)))
      go (suc k) e i = (λ f. let z : ◌≡◌ {A = ℕ} 0 1 = cc in absurd (omega arith), λ h. absurd (omega (arith, (no_fault w).1 (h w here))))

  -- a fault exactly when it is the first: at a record that makes sense as among those after it, else at the well itself
  module _ (rule : Rule) (place : ℕ) (w : Well) (ws : List Well) where
    passed : MakesSense all w → FaultAmong all ws rule place ↔ FaultAmong all (w ∷ ws) rule place
    passed h = (
      λ s. record {
        well = s.well;
        among = later s.among;
        at = s.at;
        first_broken = s.first_broken;
        before = among-cons (λ v. v.place < place → MakesSense all v) (λ l. h) s.before;
      },
      λ s. record {
        well = s.well;
        among = among-cons (λ v. First (rule_number rule) (rules_at all v) → Among v ws) (λ f. absurd (clash f)) (λ v m f. m)
            s.well s.among s.first_broken;
        at = s.at;
        first_broken = s.first_broken;
        before = λ v m. s.before v (later m);
      },
    )
      where
        clash : First (rule_number rule) (rules_at all w) → ⊥
        clash f = omega (arith, first_given f, (no_fault w).1 h, (rule-number rule).0)

    stopped : ((v : Well) → Among v ws → w.place < v.place) → {k : ℕ} → first_of (rules_at all w) ≡ suc k
        → (Fault (rule_of (suc k)) w.place ≡ Fault rule place) ↔ FaultAmong all (w ∷ ws) rule place
    stopped r {k} e = (there, λ s. back s s.well s.among s.at s.first_broken)
      where
        there : Fault (rule_of (suc k)) w.place ≡ Fault rule place → FaultAmong all (w ∷ ws) rule place
        there f =
            let a : rule_of (suc k) ≡ rule = cc in
            let p : w.place ≡ place = cc in
            let b = given_first (rules_at all w) e in
            record {
              well = w;
              among = here;
              at = p;
              first_broken = rw (← a, number-back w b) b;
              before = among-cons (λ v. v.place < place → MakesSense all v) (λ h. absurd (omega arith)) (λ v m h. absurd (omega (arith, r v m)));
            }

        back : FaultAmong all (w ∷ ws) rule place → (v : Well) → Among v (w ∷ ws) → v.place ≡ place
            → First (rule_number rule) (rules_at all v) → Fault (rule_of (suc k)) w.place ≡ Fault rule place
        back s =
            among-cons
            (λ v. v.place ≡ place → First (rule_number rule) (rules_at all v) → Fault (rule_of (suc k)) w.place ≡ Fault rule place)
            (λ p f. rw (sym e ∙ first_given f, rule-back rule, p))
            (λ v m p f. absurd (omega (arith, e, (no_fault w).1 (s.before w here (omega (arith, r v m))))))

  pub first_faulty : (rule : Rule) (place : ℕ) (ws : List Well) → Rising ws
      → (first_fault all ws ≡ Fault rule place) ↔ FaultAmong all ws rule place
  unfolding first_fault found_at
  first_faulty rule place [] r = (λ e. let z : ◌≡◌ {A = ℕ} 0 1 = cc in absurd (omega arith), λ s. absurd (none_among s.among))
  first_faulty rule place (w ∷ ws) r = go (first_of (rules_at all w)) refl (first_faulty rule place ws r.1)
    where
      go : (k : ℕ) → first_of (rules_at all w) ≡ k → (first_fault all ws ≡ Fault rule place) ↔ FaultAmong all ws rule place
          → (found_at k w.place (first_fault all ws) ≡ Fault rule place) ↔ FaultAmong all (w ∷ ws) rule place
      go zero e i = Iff.trans i (passed rule place w ws ((no_fault w).0 e))
      go (suc k) e i = stopped rule place w ws r.0 e

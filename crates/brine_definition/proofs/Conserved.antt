-- The request's theorem: "For every sound sheet the intakes are proved to total 1000 times the producers' rates." Each link names one injector
-- of the sheet, so over all injectors a producer's links bring what they carry.
-- Assumes nothing.
use mathlib.Core.Path.{◌≡◌, refl, sym, ◌∙◌}
use mathlib.Core.Bool.{Bool, true, false}
use mathlib.Core.List.{List, [], ◌∷◌, map}
use Prim.Native.Nat.{ℕ, ◌+◌, ◌*◌, ◌≤◌}
use native.Mathlib.Omega.{arith}
use lib.Dec.{eqb}
use lib.ListN.{length, drop}
use borrow.Author.Tests.{eq-eqb, ne_eqb}
use Rattle.definition.specs.Refusal.{pick}
use Rattle.sheet_definition.specs.Sheet.{cut}
use Rattle.plan_definition.specs.declared.Link.{Link}
use Rattle.plan_definition.specs.declared.Well.{Well}
use Rattle.plan_definition.specs.Some.{Among}
use Rattle.plan_definition.specs.Some.Among.{here, later}
use Rattle.plan_definition.specs.Well.{wells_from, wells}
use Rattle.plan_definition.specs.Rules.{producer, injector, used, total}
use Rattle.plan_definition.specs.Sound.{NamesInjector, MakesSense, KeepsLinks, Sound}
use Rattle.plan_definition.specs.Check.{sound}
use Rattle.plan_definition.proofs.Struck.{once, named_number}
use Rattle.plan_definition.proofs.Faults.{Rising, rising}
use Rattle.plan_definition.proofs.Tested.{sound_tested}
use Rattle.plan_definition.proofs.Listed.{length-wells}
use Rattle.brine_definition.specs.Count.{sum}
use Rattle.brine_definition.specs.Page.{Row, brought, intake_from, row_of, row_when, row_in, rows, produced}
use Rattle.brine_definition.specs.Statement.{batch, page, intakes}
use Rattle.brine_definition.proofs.Sums.{pick-zero, sum_zeros, pick-most, page-intakes}
use Rattle.brine_definition.proofs.Sound.{faulted-intakes}
use Rattle.brine_definition.proofs.Bounds.{carried, producer_keeps, produced-most}

-- what some wells' injectors receive, if one of number k receives f k
abbrev received : List Well → (ℕ → ℕ) → ℕ
received [] f = 0
received (v ∷ vs) f = pick (injector v) (f v.number) 0 + received vs f

-- it is additive
pick-add : (b : Bool) (x y : ℕ) → pick b (x + y) 0 ≡ pick b x 0 + pick b y 0
unfolding pick
pick-add true x y = refl
pick-add false x y = refl

received_add : (vs : List Well) (f g : ℕ → ℕ) → received vs (λ k. f k + g k) ≡ received vs f + received vs g
received_add [] f g = refl
received_add (v ∷ vs) f g = omega (arith, pick-add (injector v) (f v.number) (g v.number), received_add vs f g)

-- where none of them has the number, nothing is received
received_none : (vs : List Well) (f : ℕ → ℕ) → ((v : Well) → Among v vs → f v.number ≡ 0) → received vs f ≡ 0
received_none [] f h = refl
received_none (v ∷ vs) f h = rw (h v here, pick-zero (injector v), received_none vs f (λ u m. h u (later m)))

-- the wells after each have other numbers, or 0, as struck records have
abbrev Distinct : List Well → Type 0
Distinct [] = Unit
Distinct (w ∷ ws) = ((v : Well) → Among v ws → w.number ≡ v.number → (v.number ≡ 0 → ⊥) → ⊥) × Distinct ws

-- so what goes to one injector is received once
abbrev to : (number kilograms : ℕ) → ℕ → ℕ
to j a k = pick (eqb j k) a 0

received_once : (j a : ℕ) → (j ≡ 0 → ⊥) → {u : Well} {vs : List Well} → Distinct vs → Among u vs → u.number ≡ j → u.kind ≡ 2 → received vs (to j a) ≡ a
unfolding injector pick
received_once j a z {u} d (here {l = vs}) e k =
    let none = received_none vs (to j a) (λ v m. rw (ne_eqb j v.number (λ q. d.0 v m (e ∙ q) (λ y. z (q ∙ y))))) in
    rw (eq-eqb j u.number (sym e), eq-eqb u.kind 2 k, none) (omega arith)
received_once j a z {u} d (later {b = v} {l = vs} m) e k =
    rw (ne_eqb j v.number (λ q. d.0 u m (sym q ∙ sym e) (λ y. z (sym e ∙ y))), pick-zero (injector v), received_once j a z d.1 m e k)
    (omega arith)

module _ (ws : List Well) (keeps : Sound ws) (apart : Distinct ws) where
  -- links that name injectors bring them what they carry
  links_bring : (rate : ℕ) (ls : List Link) → ((l : Link) → Among l ls → NamesInjector ws l.injector)
      → received ws (brought rate ls) ≡ rate * total ls
  unfolding brought total NamesInjector
  links_bring rate [] h = received_none ws (λ k. 0) (λ v m. refl) ∙ omega arith
  links_bring rate (l ∷ ls) h =
      let n = h l here in
      received_add ws (to l.injector (rate * l.share)) (brought rate ls)
      ∙ omega (arith, received_once l.injector (rate * l.share) (named_number ws l.injector keeps n) apart n.1 n.2 n.3, links_bring rate ls (λ m a. h m (later a)))

  -- and all producers' bring 1000 times their rates
  producers_bring : (ps : List Well) → ((w : Well) → Among w ps → MakesSense ws w) → received ws (intake_from ps) ≡ 1000 * produced ps
  unfolding intake_from produced KeepsLinks pick
  producers_bring [] h = received_none ws (λ k. 0) (λ v m. refl)
  producers_bring (w ∷ ps) h =
      received_add ws (λ k. pick (producer w) (brought w.rate (used w) k) 0) (intake_from ps)
      ∙ omega (arith, one (producer w) refl, producers_bring ps (λ v m. h v (later m)))
    where
      one : (b : Bool) → producer w ≡ b → received ws (λ k. pick b (brought w.rate (used w) k) 0) ≡ 1000 * pick b w.rate 0
      one true p = let k = producer_keeps (h w here) p in links_bring w.rate (used w) k.links.0 ∙ carried k p
      one false p = received_none ws (λ k. 0) (λ v m. refl)

-- numbers that don't repeat at places that rise
distinct : (all ws : List Well) → ((w : Well) → Among w ws → Among w all) → Rising ws → Sound all → Distinct ws
distinct all [] i r h = tt
distinct all (w ∷ ws) i r h =
    (λ v m. once h (i w here) (i v (later m)) (r.0 v m), distinct all ws (λ v m. i v (later m)) r.1 h)

-- the intakes of a sound sheet are what its injectors receive
pub when-intake : (b : Bool) (r : Row) → (row_when b r).intake ≡ pick b r.intake 0
unfolding row_when pick
when-intake true r = refl
when-intake false r = refl

intakes_received : (ws : List Well) → sound ws ≡ true → sum (intakes (rows ws)) ≡ received ws (intake_from ws)
unfolding rows intakes sum row_of
intakes_received ws e = go ws
  where
    go : (vs : List Well) → sum (map (λ r. r.intake) (map (row_in ws) vs)) ≡ received vs (intake_from ws)
    go [] = refl
    go (v ∷ vs) = rw (e, when-intake (injector v) (row_of ws v), go vs)

-- the theorem, for any records
pub conserved : (xs : List (List ℕ)) → Sound (wells_from 0 xs) → sum (intakes (rows (wells_from 0 xs))) ≡ 1000 * produced (wells_from 0 xs)
unfolding Sound
conserved xs h =
    let ws = wells_from 0 xs in
    intakes_received ws ((sound_tested ws).1 h)
    ∙ producers_bring ws h (distinct ws ws (λ w m. m) (rising 0 xs) h) ws h

-- so of any sheet, of which a faulted one's total nothing
pub sheet-total : (n : ℕ) (sheet : List ℕ)
    → sum (intakes (rows (wells n sheet))) ≡ 1000 * pick (sound (wells n sheet)) (produced (wells n sheet)) 0
unfolding wells pick
sheet-total n sheet = go (sound (wells n sheet)) refl
  where
    go : (b : Bool) → sound (wells n sheet) ≡ b → sum (intakes (rows (wells n sheet))) ≡ 1000 * pick b (produced (wells n sheet)) 0
    go true e = conserved (cut n sheet) ((sound_tested (wells n sheet)).0 e)
    go false e = rw (faulted-intakes (wells n sheet) e) (sum_zeros (length (wells n sheet)))

-- no sheet's total more than 100,000,000 for each record
pub sheet-most : (n : ℕ) (sheet : List ℕ) → sum (intakes (rows (wells n sheet))) ≤ 100000000 * n
sheet-most n sheet =
    let ws = wells n sheet in
    omega (
      arith,
      sheet-total n sheet,
      length-wells n sheet,
      pick-most (sound ws) (produced ws) (100000 * length ws) (λ e.
          produced-most ws ((sound_tested ws).0 e)),
    )

-- and no batch's
pub total-most : (counts sheets : List ℕ) → sum (intakes (page (batch counts sheets))) ≤ 100000000 * sum counts
unfolding batch page intakes sum
total-most [] sheets = omega arith
total-most (n ∷ ns) sheets =
    let rest = drop (40 * n) sheets in
    omega (arith, page-intakes (wells n sheets) (batch ns rest), sheet-most n sheets, total-most ns rest)

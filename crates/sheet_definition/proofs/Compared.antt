-- What the comparing of two sheets' marks finds: the pairs before agree, the named one differs, and as many were compared; and where both are true,
-- the records of the named group differ.
-- Assumes nothing.
use mathlib.Core.Path.{◌≡◌, refl, sym, ap, ◌∙◌}
use mathlib.Core.Bool.{Bool, true, false, false≢true}
use mathlib.Core.List.{List}
use Prim.Native.Nat.{ℕ, zero, suc, ◌+◌, ◌*◌, ◌<◌, ◌≤◌}
use native.Mathlib.Nat.{le_refl}
use native.Mathlib.Decide.{ℕ_discrete}
use native.Mathlib.Omega.{arith}
use lib.ListN.{length, take, drop}
use Rattle.definition.specs.declared.Width.{Width}
use Rattle.definition.specs.Width.{width_at}
use Rattle.definition.specs.Start.{start}
use Rattle.definition.specs.Round.{chain}
use Rattle.definition.specs.Padding.{blocks}
use Rattle.definition.specs.Buffer.{same}
use Rattle.definition.specs.Refusal.{pick}
use Rattle.sheet_definition.specs.declared.Found.{Found}
use Rattle.sheet_definition.specs.declared.Found.TheVariants.{Same, Group}
use Rattle.sheet_definition.specs.Sheet.{World, record_bytes, group_bytes, q}
use Rattle.sheet_definition.specs.Marks.{mark_at, state_from, mark_of, state_after, TrueMark, TrueMarks}
use Rattle.sheet_definition.specs.Own.{used, one_more, compared}
use Rattle.sheet_definition.specs.Said.{Agree, Finds}
use Rattle.sheet_definition.proofs.Writes.{same_refl, same_eq}
use Rattle.sheet_definition.proofs.Marks.{chain_parts, length-state, state_of_mark}

-- a pair more in front, which agrees
pair_more : (code : ℕ) (held own : List ℕ) (k g : ℕ) (f : Found) (pairs : ℕ) → used code held (g + 1) ≡ used code own (g + 1)
    → Finds code held own k (g + 1) f pairs → Finds code held own (suc k) g f (pairs + 1)
unfolding Finds
pair_more code held own k g Same pairs e s = (first, omega (arith, s.1))
  where
    first : Agree code held own g (g + suc k)
    first m a b = elim (ℕ_discrete m (g + 1)) [ yes d ↦ rw d e | no d ↦ s.0 m (omega arith) (omega arith) ]
pair_more code held own k g (Group h) pairs e s = (omega (arith, s.0), omega (arith, s.1), first, s.3, omega (arith, s.4))
  where
    first : Agree code held own g h
    first m a b = elim (ℕ_discrete m (g + 1)) [ yes d ↦ rw d e | no d ↦ s.2 m (omega arith) b ]

pub finds : (code : ℕ) (held own : List ℕ) (k g : ℕ) → let v = compared code held own k g in Finds code held own k g v.found v.pairs
unfolding compared Finds one_more pick
finds code held own zero g = (λ m a b. absurd (omega arith), refl)
finds code held own (suc k) g = go (same (used code held (g + 1)) (used code own (g + 1))) refl (finds code held own k (g + 1))
  where
    go : (b : Bool) → same (used code held (g + 1)) (used code own (g + 1)) ≡ b
        → (let v = compared code held own k (g + 1) in Finds code held own k (g + 1) v.found v.pairs)
        → let v = one_more (pick b (compared code held own k (g + 1)) (record { found = Group g; pairs = 0 })) in Finds code held own (suc k) g v.found v.pairs
    go true e s = pair_more code held own k g (compared code held own k (g + 1)).found (compared code held own k (g + 1)).pairs (same_eq (used code held (g + 1)) (used code own (g + 1)) e) s
    go false e s = (omega arith, omega arith, λ m a b. absurd (omega arith), λ d. false≢true (sym e ∙ rw d (same_refl (used code own (g + 1)))), omega arith)

-- true marks that agree are of one state
agreed : (code g : ℕ) (sheet sheet' marks marks' : List ℕ) → TrueMark code sheet marks g → TrueMark code sheet' marks' g
    → used code marks g ≡ used code marks' g → state_after code sheet g ≡ state_after code sheet' g
unfolding TrueMark used
agreed code g sheet sheet' marks marks' t t' e =
    let w : Width = width_at code in
    sym t
    ∙ sym (state_of_mark w (state_from w (mark_at marks g)) (length-state w (mark_at marks g)))
    ∙ ap (state_from w) e
    ∙ state_of_mark w (state_from w (mark_at marks' g)) (length-state w (mark_at marks' g))
    ∙ t'

-- the state after one group more
next-group : (code g : ℕ) (sheet : List ℕ) → group_bytes * g ≤ length sheet
    → state_after code sheet (g + 1) ≡ chain (width_at code) (state_after code sheet g) (blocks (take group_bytes (drop (group_bytes * g) sheet)))
unfolding state_after
next-group code g sheet l =
    let e : group_bytes * (g + 1) ≡ group_bytes * g + group_bytes = omega arith in
    rw e (sym (chain_parts (width_at code) (start (width_at code)) g group_bytes sheet l))

-- "If both sets of marks are true to their sheets at this code, the records of the named group differ."
pub group-differs : (w v : World) (g : ℕ) → v.code ≡ w.code → TrueMarks w → TrueMarks v → record_bytes * w.n ≤ length w.sheet → record_bytes * v.n ≤ length v.sheet
    → g < q w.n → g < q v.n → Agree w.code w.marks v.marks 0 g → (used w.code w.marks (g + 1) ≡ used w.code v.marks (g + 1) → ⊥)
    → take group_bytes (drop (group_bytes * g) w.sheet) ≡ take group_bytes (drop (group_bytes * g) v.sheet) → ⊥
unfolding TrueMarks TrueMark used q
group-differs w v g c t u l r i j a d e =
    let before : state_after w.code w.sheet g ≡ state_after w.code v.sheet g =
    elim (ℕ_discrete g 0) [
      | yes z ↦ unfold state_after in rw z
      | no z ↦ agreed w.code g w.sheet v.sheet w.marks v.marks (t g (omega arith)) (rw c at (u g (omega arith))) (a g (omega arith) (le_refl g))
    ] in
    let after : state_after w.code w.sheet (g + 1) ≡ state_after w.code v.sheet (g + 1) =
    rw (next-group w.code g w.sheet (omega arith), next-group w.code g v.sheet (omega arith), before, e) in
    d (ap mark_of (t (g + 1) (omega arith) ∙ after ∙ sym (rw c at (u (g + 1) (omega arith)))))

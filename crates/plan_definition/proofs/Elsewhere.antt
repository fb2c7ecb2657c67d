-- The verdict depends on the first 24 bytes of each record, and on which records are struck: the notes of others, and bytes behind the n-th record,
-- don't matter.
-- Assumes nothing.
use mathlib.Core.Path.{◌≡◌, refl, sym, ◌∙◌, fun_ext}
use mathlib.Core.Bool.{Bool, true, not}
use mathlib.Core.List.{List, [], ◌∷◌, map}
use Prim.Native.Nat.{ℕ, ◌+◌, ◌*◌, ◌<◌, ◌≤◌}
use native.Mathlib.Omega.{arith}
use lib.Dec.{ltb}
use lib.ListN.{length, get_or, take, drop, length-map}
use lib.Seq.{get_or-take, get_or-drop}
use borrow.Author.Tests.{ltb-true, le-ltb, not-false}
use Rattle.sheet_definition.specs.Refusals.{sheet_refusal}
use Rattle.sheet_definition.specs.Struck.{all_zero}
use Rattle.plan_definition.specs.declared.Well.{Well}
use Rattle.plan_definition.specs.Some.{some}
use Rattle.plan_definition.specs.Well.{two, four, link_at, well_of, wells}
use Rattle.plan_definition.specs.Rules.{producer, injector, used, unused, breaks_number, breaks_kind, breaks_link_count, breaks_rate, breaks_links, breaks_shares, struck, has_number, breaks_unused_links, breaks_repeat, is_injector_of, is_before, rules_by, rules_at}
use Rattle.plan_definition.specs.Check.{first_fault, check_refusals, verdict}
use Rattle.plan_definition.proofs.Exactly.{alike}
use Rattle.plan_definition.proofs.Struck.{nothing-set, struck_by_bytes}
use Rattle.plan_definition.proofs.Places.{well_at}
use Rattle.plan_definition.proofs.Listed.{length-wells, each_at, column}

-- a well whose note is set exactly where it isn't struck: no rule asks more of the note
abbrev plain : Well → Well
plain w =
    record { place = w.place; number = w.number; kind = w.kind; count = w.count; rate = w.rate; links = w.links; noted = not (struck w) }

plain-struck : (w : Well) → struck (plain w) ≡ struck w
plain-struck w = alike (λ e. not-false _ ((nothing-set (plain w)).0 e).1.1.1.1.1) (λ e.
    let s = (nothing-set w).0 e in
    (nothing-set (plain w)).1 (s.0, (s.1.0, (s.1.1.0, (s.1.1.1.0, (s.1.1.1.1.0, rw e))))))

some-plain : (f : Well → Bool) (ws : List Well) → some f (map plain ws) ≡ some (λ w. f (plain w)) ws
unfolding some
some-plain f [] = refl
some-plain f (w ∷ ws) = rw (some-plain f ws)

plain-injectors : (ws : List Well) → is_injector_of (map plain ws) ≡ is_injector_of ws
unfolding is_injector_of injector
plain-injectors ws = fun_ext (λ k. some-plain _ ws)

plain_fault : (all ws : List Well) → first_fault (map plain all) (map plain ws) ≡ first_fault all ws
unfolding first_fault rules_at rules_by producer injector used unused breaks_number breaks_kind breaks_link_count breaks_rate breaks_links breaks_shares breaks_unused_links breaks_repeat is_before has_number
plain_fault all [] = refl
plain_fault all (w ∷ ws) = simp (plain-injectors, some-plain, plain-struck, plain_fault all ws)

-- such a well is read from the first 24 bytes of its record, and whether all are zero
well_of_lem : (place : ℕ) (x y : List ℕ) → ((j : ℕ) → j < 24 → get_or x j 0 ≡ get_or y j 0) → all_zero x ≡ all_zero y
    → plain (well_of place x) ≡ plain (well_of place y)
unfolding well_of link_at four two
well_of_lem place x y h e = rw (struck_by_bytes place x, struck_by_bytes place y, e) (simp same)
  where
    same : (j : ℕ) → ltb j 24 ≡ true → get_or x j 0 ≡ get_or y j 0
    same j e = h j (ltb-true j 24 e)

module _ (n : ℕ) (s t : List ℕ) (alike : (p j : ℕ) → p < n → j < 24 → get_or s (40 * p + j) 0 ≡ get_or t (40 * p + j) 0)
    (gone : (p : ℕ) → p < n → all_zero (take 40 (drop (40 * p) s)) ≡ all_zero (take 40 (drop (40 * p) t))) where
  -- so they are one at each place where those bytes are
  at_place : (p : ℕ) → p < n → plain (well_at p s) ≡ plain (well_at p t)
  at_place p h =
      well_of_lem p (take 40 (drop (40 * p) s)) (take 40 (drop (40 * p) t))
      (λ j k. read s j (omega arith) ∙ alike p j h k ∙ sym (read t j (omega arith))) (gone p h)
    where
      read : (l : List ℕ) (j : ℕ) → j < 40 → get_or (take 40 (drop (40 * p) l)) j 0 ≡ get_or l (40 * p + j) 0
      read l j k = get_or-take 40 (drop (40 * p) l) j 0 k ∙ get_or-drop (40 * p) l j 0

  same_wells : map plain (wells n s) ≡ map plain (wells n t)
  same_wells =
      column n t plain (plain (well_at 0 t)) (map plain (wells n s)) (length-map (wells n s) plain ∙ length-wells n s)
      (λ q h. each_at n s plain (plain (well_at 0 t)) q h ∙ at_place q h)

  -- two sheets whose records have these bytes in common and are struck alike have one verdict
  pub elsewhere : 40 * n ≤ length s → 40 * n ≤ length t → verdict s n ≡ verdict t n
  unfolding verdict check_refusals sheet_refusal
  elsewhere a b =
      rw (← plain_fault (wells n s) (wells n s), same_wells, plain_fault (wells n t) (wells n t), le-ltb (length s) (40 * n) a, le-ltb (length t) (40 * n) b)

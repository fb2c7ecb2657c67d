-- The walk through a sheet: what stands at mark k, and that looking at it and absorbing the group after it brings the walk to the next.
-- Assumes nothing.
use mathlib.Core.Path.{◌≡◌, refl, sym, ap, ◌∙◌}
use mathlib.Core.Bool.{Bool, true, false, not}
use mathlib.Core.List.{List, [], ◌∷◌, ◌++◌, append-nil}
use Prim.Native.Nat.{ℕ, zero, suc, ◌+◌, ◌-◌, ◌*◌, ◌/◌, ◌^◌, ◌<◌, ◌≤◌}
use native.Mathlib.Omega.{arith}
use lib.ListN.{length, take, drop, length-append, length-drop}
use lib.Seq.{length-take-le}
use Rattle.definition.specs.declared.Counted.{Counted}
use Rattle.definition.specs.declared.Width.{Width}
use Rattle.definition.specs.State.{blocks_in, state_of}
use Rattle.definition.specs.Round.{chain}
use Rattle.definition.specs.Padding.{blocks}
use Rattle.definition.specs.Start.{start}
use Rattle.definition.specs.Width.{width_at}
use Rattle.definition.specs.Counted.{counted_chain}
use Rattle.definition.specs.Buffer.{same}
use Rattle.definition.specs.Refusal.{pick}
use Rattle.definition.proofs.Chain.{counted-state, counted-rounds, blocks_of_chain, length-start}
use Rattle.sheet_definition.specs.Sheet.{World, group_bytes, mark_words, q}
use Rattle.sheet_definition.specs.Marks.{mark_of, state_after}
use Rattle.sheet_definition.proofs.Marks.{chain_parts, length-blocks_to}
use Rattle.mend_definition.specs.Mend.{true_mark, is_wrong, replaced, wrong_of, first_in, saying, mend_rounds, mended}
use Rattle.mend_definition.proofs.Replaced.{replaced_so, not_yet}
use Rattle.mend.specs.declared.Found.{Found}
use Rattle.mend.specs.Look.{other, noted, put}

-- what is found of a list of wrong marks
abbrev pub found_in : List ℕ → Found
found_in ms = record { wrong = length ms; first = first_in ms }

-- at mark k: the true state and five rounds for each group before it, the marks before it looked at
pub record Upto (v : World) (k : ℕ) (c : Counted) (found : Found) (marks : List ℕ) : Type 0 where
  pub state : c.state ≡ state_of (state_after v.code v.sheet k)
  pub rounds : c.rounds ≡ 5 * k
  pub found_so : found ≡ found_in (wrong_of v k)
  pub marks_so : marks ≡ replaced v k

-- there are no more wrong marks than were looked at
pub few : (v : World) (k : ℕ) → length (wrong_of v k) ≤ k
unfolding wrong_of pick
few v zero = omega arith
few v (suc k) = go (few v k) (is_wrong v k)
  where
    go : length (wrong_of v k) ≤ k → (b : Bool) → length (wrong_of v k ++ pick b (k ∷ []) []) ≤ suc k
    go h true = omega (arith, length-append (wrong_of v k) (k ∷ []))
    go h false = omega (arith, length-append (wrong_of v k) [])

-- one more noted is found of the list with it
noted_so : (b : Bool) (m : ℕ) (l : List ℕ) → noted b m (found_in l) ≡ found_in (l ++ pick b (m ∷ []) [])
unfolding noted pick first_in
noted_so false m l = ap found_in (sym (append-nil l))
noted_so true m [] = refl
noted_so true m (i ∷ l) =
    let n : suc (length l) + 1 ≡ suc (length (l ++ m ∷ [])) = omega (arith, length-append l (m ∷ [])) in
    rw n

-- a group is five blocks
five-blocks : (x : List ℕ) → length x ≡ group_bytes → length (blocks x) ≡ 5
unfolding blocks
five-blocks x e = length-blocks_to (length x / 32) x ∙ omega arith

module _ (v : World) (k : ℕ) (c : Counted) (found : Found) (marks : List ℕ) (u : Upto v k c found marks) where
  -- where there is room for it, mark k has other words than the state exactly when it is wrong
  judged_so : mark_words * (k + 1) ≤ length v.marks → other marks k c.state ≡ is_wrong v k
  unfolding other is_wrong true_mark mark_of
  judged_so h =
      rw (u.state, u.marks_so) (ap (λ (l : List ℕ). not (same l (true_mark v k))) (not_yet v k (replaced v k) (replaced_so v k (omega arith))))

  -- so what is noted and written is what the definition says of it
  pub looked : (found' : Found) (marks' : List ℕ) → mark_words * (k + 1) ≤ length v.marks
      → (found' ≡ noted (other marks k c.state) k found) × (marks' ≡ put (other marks k c.state) k c.state marks)
      → (found' ≡ found_in (wrong_of v (suc k))) × (marks' ≡ replaced v (suc k))
  unfolding put wrong_of replaced true_mark mark_of
  looked found' marks' h e = (
    e.0 ∙ rw (judged_so h, u.found_so) (noted_so (is_wrong v k) k (wrong_of v k)),
    e.1 ∙ rw (judged_so h, u.state, u.marks_so),
  )

  -- and the group after it absorbed brings the walk to mark k + 1
  pub absorbed : (d : Counted) (found' : Found) (marks' : List ℕ) → group_bytes * (k + 1) ≤ length v.sheet → k < 2 ^ 32
      → d ≡ counted_chain (width_at v.code) c (blocks (take (group_bytes * k + group_bytes - group_bytes * k) (drop (group_bytes * k) v.sheet)))
      → (found' ≡ found_in (wrong_of v (suc k))) × (marks' ≡ replaced v (suc k))
      → Upto v (suc k) d found' marks'
  unfolding state_after
  absorbed d found' marks' h b e l =
      let w : Width = width_at v.code in
      let x : List ℕ = take group_bytes (drop (group_bytes * k) v.sheet) in
      let f : d ≡ counted_chain w c (blocks x) =
      e ∙ ap (λ (n : ℕ). counted_chain w c (blocks (take n (drop (group_bytes * k) v.sheet)))) {x = group_bytes * k + group_bytes - group_bytes * k} {y = group_bytes} (omega arith) in
      let g : chain w (blocks_in w c.state) (blocks x) ≡ chain w (start w) (blocks (take (group_bytes * suc k) v.sheet)) =
      rw (u.state, blocks_of_chain w (start w) (blocks (take (group_bytes * k) v.sheet)) (length-start w))
      (chain_parts w (start w) k group_bytes v.sheet (omega arith)
      ∙ ap (λ (n : ℕ). chain w (start w) (blocks (take n v.sheet))) {x = group_bytes * k + group_bytes} {y = group_bytes * suc k} (omega arith)) in
      record {
        state = ap (λ (t : Counted). t.state) f ∙ counted-state w c (blocks x) ∙ ap state_of g;
        rounds =
            ap (λ (t : Counted). t.rounds) f
            ∙ counted-rounds w c (blocks x) (omega (arith, u.rounds))
            ∙ omega (arith, u.rounds, five-blocks x (length-take-le group_bytes (drop (group_bytes * k) v.sheet) (omega (arith, length-drop (group_bytes * k) v.sheet))));
        found_so = l.0;
        marks_so = l.1;
      }

  -- at the last mark, looked at, all is as the definition says
  pub ended : (found' : Found) (marks' : List ℕ) → k ≡ q v.n → (found' ≡ found_in (wrong_of v (suc k))) × (marks' ≡ replaced v (suc k))
      → record { answer = record { number = 0; wrong = found'.wrong; first = found'.first; rounds = c.rounds }; sheet = v.sheet; marks = marks' } ≡ mended v
  unfolding saying mend_rounds
  ended found' marks' e l =
      let n : q v.n + 1 ≡ suc k = omega arith in
      let r : c.rounds ≡ 5 * q v.n = omega (arith, u.rounds) in
      rw (n, l.0, l.1, r)

-- Q_j on its way, a block with the generator beside it, which is two words or one number; and four of them side by side: word k of block j stands
-- at 4k + j, t_l at 32 + j and t_r at 36 + j.
use Rattle.std.specs.Prelude.{ℕ, zero, suc, ◌+◌, ◌%◌, ◌^◌, Bool, true, false, List, [], ◌∷◌, set, slice_index, slice_set}
use Rattle.definition.specs.declared.Block.{Block}
use Rattle.definition.specs.declared.Pair.{Pair}
use Rattle.definition.specs.declared.State.{State}
use Rattle.definition.specs.declared.Width.{Width}
use Rattle.definition.specs.declared.Width.TheVariants.{W3, W4, W5}
use Rattle.definition.specs.Constant.{f_l, exchanged, initial}
use Rattle.definition.specs.AppendixB.{halves_of, pseudo_step}
use Rattle.definition.specs.Permutation.{step}
use Rattle.permutation.specs.declared.Going.{Going}

-- Q_j before its first step: c_j,L and c_j,R of B-1, and the block; and with c_j,L || c_j,R as one number
abbrev pub begun : (j : ℕ) → Block → Going Pair
begun j a = record { t = halves_of (initial j); a = a }

abbrev pub begun_alone : (j : ℕ) → Block → Going ℕ
begun_alone j a = record { t = initial j; a = a }

-- one step: two applications of the generator, each of which gives a constant in its t_r
unfoldable pub go_on : {G : Type 0} → (turned : G → G) → (right : G → ℕ) → Going G → Going G
go_on {G} turned right g =
    let t1 : G = turned g.t in
    let t2 : G = turned t1 in
    record { t = t2; a = step (record { left = right t1; right = right t2 }) g.a }

-- with the generator in two words, and in one number
abbrev pub go_on_pair : Going Pair → Going Pair
go_on_pair = go_on pseudo_step (λ (t : Pair). t.right)

abbrev pub go_on_alone : Going ℕ → Going ℕ
go_on_alone = go_on (λ (t : ℕ). exchanged (f_l t)) (λ (t : ℕ). t % 2 ^ 32)

-- the first i steps
unfoldable pub after : (i : ℕ) → Going Pair → Going Pair
after zero g = g
after (suc i) g = go_on_pair (after i g)

-- the j-th of four
abbrev pub lane : ℕ → List ℕ → Going Pair
lane j v =
    record {
      t = record { left = slice_index v (32 + j); right = slice_index v (36 + j) };
      a =
          record {
            a0 = slice_index v j;
            a1 = slice_index v (4 + j);
            a2 = slice_index v (8 + j);
            a3 = slice_index v (12 + j);
            a4 = slice_index v (16 + j);
            a5 = slice_index v (20 + j);
            a6 = slice_index v (24 + j);
            a7 = slice_index v (28 + j);
          };
    }

-- the j-th put in its lane
abbrev pub put_lane : ℕ → List ℕ → Going Pair → List ℕ
put_lane j v g =
    set
    (set
    (set
    (set
    (set
    (set
    (slice_set (slice_set (slice_set (slice_set v j g.a.a0) (4 + j) g.a.a1) (8 + j) g.a.a2) (12 + j) g.a.a3)
    (16 + j)
    g.a.a4)
    (20 + j)
    g.a.a5)
    (24 + j)
    g.a.a6)
    (28 + j)
    g.a.a7)
    (32 + j)
    g.t.left)
    (36 + j)
    g.t.right

-- the lanes of four
unfoldable pub lanes_of : (p q r s : Going Pair) → List ℕ
lanes_of p q r s =
    let a : Block = p.a in
    let b : Block = q.a in
    let c : Block = r.a in
    let d : Block = s.a in
    a.a0 ∷ b.a0 ∷ c.a0 ∷ d.a0
    ∷ a.a1 ∷ b.a1 ∷ c.a1 ∷ d.a1
    ∷ a.a2 ∷ b.a2 ∷ c.a2 ∷ d.a2
    ∷ a.a3 ∷ b.a3 ∷ c.a3 ∷ d.a3
    ∷ a.a4 ∷ b.a4 ∷ c.a4 ∷ d.a4
    ∷ a.a5 ∷ b.a5 ∷ c.a5 ∷ d.a5
    ∷ a.a6 ∷ b.a6 ∷ c.a6 ∷ d.a6
    ∷ a.a7 ∷ b.a7 ∷ c.a7 ∷ d.a7
    ∷ p.t.left ∷ q.t.left ∷ r.t.left ∷ s.t.left
    ∷ p.t.right ∷ q.t.right ∷ r.t.right ∷ s.t.right
    ∷ []

-- one step on each of the four
unfoldable pub stepped : List ℕ → List ℕ
stepped v = lanes_of (go_on_pair (lane 0 v)) (go_on_pair (lane 1 v)) (go_on_pair (lane 2 v)) (go_on_pair (lane 3 v))

-- one step of a fifth, where there is one, and the first i steps
abbrev pub step_fifth : Bool → Going ℕ → Going ℕ
step_fifth true g = go_on_alone g
step_fifth false g = g

unfoldable pub fifth_after : ℕ → Bool → Going ℕ → Going ℕ
fifth_after zero fifth g = g
fifth_after (suc i) fifth g = step_fifth fifth (fifth_after i fifth g)

-- the first i steps on five blocks
unfoldable pub all_after : ℕ → Bool → State → State
all_after i fifth t =
    record {
      h0 = (after i (begun 0 t.h0)).a;
      h1 = (after i (begun 1 t.h1)).a;
      h2 = (after i (begun 2 t.h2)).a;
      h3 = (after i (begun 3 t.h3)).a;
      h4 = (fifth_after i fifth (begun_alone 4 t.h4)).a;
    }

abbrev pub has_fifth : Width → Bool
has_fifth W3 = false
has_fifth W4 = false
has_fifth W5 = true

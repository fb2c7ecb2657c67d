-- S, MixWord, AddConstant, the tweak, the step and Q_j are each undone, either way round, on words of 32 bits.
-- Assumes nothing.
use mathlib.Core.Path.{◌≡◌, refl, sym, ap, ◌∙◌}
use mathlib.Core.Bool.{Bool}
use mathlib.Core.List.{List, [], ◌∷◌}
use Prim.Native.Nat.{ℕ, ◌+◌, ◌-◌, ◌*◌, ◌^◌, ◌<◌, ◌≤◌}
use native.Mathlib.Omega.{arith}
use lib.Bits.{bit_xor, xor_lt}
use lib.Dec.{T, eqb, eqb→eq}
use lib.ListN.{get_or}
use Rattle.definition.specs.declared.Block.{Block}
use Rattle.definition.specs.declared.Crumb.{Crumb}
use Rattle.definition.specs.declared.Pair.{Pair}
use Rattle.definition.specs.Buffer.{Every}
use Rattle.definition.specs.Word.{bit, from_bits, rotl}
use Rattle.definition.specs.SubCrumb.{S, sbox_input, sub_word, sub_crumb}
use Rattle.definition.specs.MixWord.{mix_word}
use Rattle.definition.specs.Constant.{constants}
use Rattle.definition.specs.Permutation.{tweak, on_halves, on_pairs, sub_crumbs, mix_words, add_constant, step, steps, permute}
use Rattle.definition.proofs.Bits.{bit_lt, bits_at, bit_of_bits, own_bits, from_bits-lt, from_bits-cong}
use Rattle.definition.proofs.Bounds.{Words, PairWords, rotl_lt, sub_words, pairs-words, add_words, step_words, constants-words}
use Rattle.definition.proofs.Cases.{every_bits, at_bits, at_below}
use Rattle.back_definition.specs.Step.{SBack, word_by, crumb_by, sub_crumb_back, mix_word_back, sub_crumbs_back, mix_words_back, step_back, steps_back, tweak_back, permute_back}
use Rattle.back_definition.proofs.Words.{xor-back, rotl-back}

-- at one bit: the second table at what the first gives has bit k of the input
input_of : List ℕ → ℕ
input_of bs = get_or bs 3 0 * 8 + get_or bs 2 0 * 4 + get_or bs 1 0 * 2 + get_or bs 0 0

undoes : (first second : ℕ → ℕ) → (k : ℕ) → List ℕ → Bool
undoes first second k bs =
    let n : ℕ = first (input_of bs) in
    eqb (bit k (second (bit 3 n * 8 + bit 2 n * 4 + bit 1 n * 2 + bit 0 n))) (get_or bs k 0)

-- SubCrumb by two tables one after the other, at each bit by its sixteen cases
module _ (first second : ℕ → ℕ) (a0 a1 a2 a3 : ℕ) where
  -- bit l of the first's word i
  given : (i l : ℕ) → l < 32 → bit l (word_by first i a0 a1 a2 a3) ≡ bit i (first (sbox_input a0 a1 a2 a3 l))
  unfolding word_by
  given i l h = bit_of_bits 32 l (λ l. bit i (first (sbox_input a0 a1 a2 a3 l))) (λ l. bit_lt i _) h

  -- and what the second makes of them
  second_word : (k : ℕ) → ℕ
  second_word k = word_by second k (word_by first 0 a0 a1 a2 a3) (word_by first 1 a0 a1 a2 a3) (word_by first 2 a0 a1 a2 a3) (word_by first 3 a0 a1 a2 a3)

  word_back : (k : ℕ) → T (every_bits 4 (undoes first second k)) → second_word k ≡ from_bits 32 (λ l. get_or (bit l a0 ∷ bit l a1 ∷ bit l a2 ∷ bit l a3 ∷ []) k 0)
  unfolding second_word
  word_back k t = unfold word_by in from_bits-cong 32 _ _ at_bit
    where
      at_bit : (l : ℕ) → l < 32
          → bit k (second (sbox_input (word_by first 0 a0 a1 a2 a3) (word_by first 1 a0 a1 a2 a3) (word_by first 2 a0 a1 a2 a3) (word_by first 3 a0 a1 a2 a3) l))
          ≡ get_or (bit l a0 ∷ bit l a1 ∷ bit l a2 ∷ bit l a3 ∷ []) k 0
      at_bit l h =
          unfold sbox_input in rw (given 0 l h, given 1 l h, given 2 l h, given 3 l h)
          (unfold undoes input_of in eqb→eq _ _ (at_bits (undoes first second k) t (bits_at l (a0 ∷ a1 ∷ a2 ∷ a3 ∷ []))))

  crumb_back : a0 < 2 ^ 32 → a1 < 2 ^ 32 → a2 < 2 ^ 32 → a3 < 2 ^ 32 → ((k : ℕ) → k < 4 → T (every_bits 4 (undoes first second k)))
      → (let x : Crumb = crumb_by first a0 a1 a2 a3 in crumb_by second x.x0 x.x1 x.x2 x.x3) ≡ record { x0 = a0; x1 = a1; x2 = a2; x3 = a3 }
  unfolding crumb_by second_word
  crumb_back h0 h1 h2 h3 t =
      λ i.
      record {
        x0 = (word_back 0 (t 0 (omega arith)) ∙ own_bits a0 h0) i;
        x1 = (word_back 1 (t 1 (omega arith)) ∙ own_bits a1 h1) i;
        x2 = (word_back 2 (t 2 (omega arith)) ∙ own_bits a2 h2) i;
        x3 = (word_back 3 (t 3 (omega arith)) ∙ own_bits a3 h3) i;
      }

-- "S .. undone": the two tables undo each other
pub S-back : (n : ℕ) → n < 16 → SBack (S n) ≡ n
unfolding SBack S
S-back n h = eqb→eq _ _ (at_below 16 (λ n. eqb (SBack (S n)) n) tt n h)

pub S_forth : (n : ℕ) → n < 16 → S (SBack n) ≡ n
unfolding SBack S
S_forth n h = eqb→eq _ _ (at_below 16 (λ n. eqb (S (SBack n)) n) tt n h)

-- and so SubCrumb at each bit
tests_back : (k : ℕ) → k < 4 → T (every_bits 4 (undoes S SBack k))
unfolding undoes input_of S SBack bit
tests_back k h = at_below 4 (λ k. every_bits 4 (undoes S SBack k)) tt k h

tests_forth : (k : ℕ) → k < 4 → T (every_bits 4 (undoes SBack S k))
unfolding undoes input_of S SBack bit
tests_forth k h = at_below 4 (λ k. every_bits 4 (undoes SBack S k)) tt k h

module _ (a0 a1 a2 a3 : ℕ) (h0 : a0 < 2 ^ 32) (h1 : a1 < 2 ^ 32) (h2 : a2 < 2 ^ 32) (h3 : a3 < 2 ^ 32) where
  pub sub_crumb-back : (let x : Crumb = sub_crumb a0 a1 a2 a3 in sub_crumb_back x.x0 x.x1 x.x2 x.x3) ≡ record { x0 = a0; x1 = a1; x2 = a2; x3 = a3 }
  unfolding sub_crumb_back sub_crumb sub_word
  sub_crumb-back = unfold crumb_by word_by in crumb_back S SBack a0 a1 a2 a3 h0 h1 h2 h3 tests_back

  pub sub_crumb-forth : (let x : Crumb = sub_crumb_back a0 a1 a2 a3 in sub_crumb x.x0 x.x1 x.x2 x.x3) ≡ record { x0 = a0; x1 = a1; x2 = a2; x3 = a3 }
  unfolding sub_crumb_back sub_crumb sub_word
  sub_crumb-forth = unfold crumb_by word_by in crumb_back SBack S a0 a1 a2 a3 h0 h1 h2 h3 tests_forth

-- MixWord
module _ (x y : ℕ) (hx : x < 2 ^ 32) (hy : y < 2 ^ 32) where
  pub mix_word-back : (let z : Pair = mix_word x y in mix_word_back z.left z.right) ≡ record { left = x; right = y }
  unfolding mix_word mix_word_back
  mix_word-back =
      let y4 : ℕ = bit_xor y x in
      let k4 : y4 < 2 ^ 32 = xor_lt 32 y x hy hx in
      let y0 : ℕ = bit_xor (rotl 2 x) y4 in
      let k0 : y0 < 2 ^ 32 = xor_lt 32 (rotl 2 x) y4 (rotl_lt 2 x hx) k4 in
      let z4 : ℕ = bit_xor (rotl 14 y4) y0 in
      let l4 : z4 < 2 ^ 32 = xor_lt 32 (rotl 14 y4) y0 (rotl_lt 14 y4 k4) k0 in
      rw (
        rotl-back 1 z4 (omega arith) l4,
        xor-back (rotl 10 y0) z4,
        rotl-back 10 y0 (omega arith) k0,
        xor-back (rotl 14 y4) y0,
        rotl-back 14 y4 (omega arith) k4,
        xor-back (rotl 2 x) y4,
        rotl-back 2 x (omega arith) hx,
        xor-back y x,
      )

  pub mix_word-forth : (let z : Pair = mix_word_back x y in mix_word z.left z.right) ≡ record { left = x; right = y }
  unfolding mix_word mix_word_back
  mix_word-forth =
      let z4 : ℕ = rotl 31 y in
      let l4 : z4 < 2 ^ 32 = rotl_lt 31 y hy in
      let y0 : ℕ = rotl 22 (bit_xor x z4) in
      let k : bit_xor x z4 < 2 ^ 32 = xor_lt 32 x z4 hx l4 in
      let k0 : y0 < 2 ^ 32 = rotl_lt 22 _ k in
      let y4 : ℕ = rotl 18 (bit_xor z4 y0) in
      let l : bit_xor z4 y0 < 2 ^ 32 = xor_lt 32 z4 y0 l4 k0 in
      let k4 : y4 < 2 ^ 32 = rotl_lt 18 _ l in
      rw (
        xor-back y4 (rotl 30 (bit_xor y0 y4)),
        rotl-back 30 (bit_xor y0 y4) (omega arith) (xor_lt 32 y0 y4 k0 k4),
        xor-back y0 y4,
        rotl-back 18 (bit_xor z4 y0) (omega arith) l,
        xor-back z4 y0,
        rotl-back 22 (bit_xor x z4) (omega arith) k,
        xor-back x z4,
        rotl-back 31 y (omega arith) hy,
      )

-- both halves of a block, and its four pairs, where one is undone
halves_back : (f g : (a0 a1 a2 a3 : ℕ) → Crumb)
    → ((a0 a1 a2 a3 : ℕ) → a0 < 2 ^ 32 → a1 < 2 ^ 32 → a2 < 2 ^ 32 → a3 < 2 ^ 32
    → (let x : Crumb = f a0 a1 a2 a3 in g x.x0 x.x1 x.x2 x.x3) ≡ record { x0 = a0; x1 = a1; x2 = a2; x3 = a3 })
    → (b : Block) → Words b → on_halves g (on_halves f b) ≡ b
unfolding on_halves
halves_back f g e b h =
    let p = e b.a0 b.a1 b.a2 b.a3 h.w0 h.w1 h.w2 h.w3 in
    let q = e b.a5 b.a6 b.a7 b.a4 h.w5 h.w6 h.w7 h.w4 in
    λ i. record { a0 = (p i).x0; a1 = (p i).x1; a2 = (p i).x2; a3 = (p i).x3; a4 = (q i).x3; a5 = (q i).x0; a6 = (q i).x1; a7 = (q i).x2 }

pairs-back : (f g : (left right : ℕ) → Pair)
    → ((x y : ℕ) → x < 2 ^ 32 → y < 2 ^ 32 → (let z : Pair = f x y in g z.left z.right) ≡ record { left = x; right = y })
    → (b : Block) → Words b → on_pairs g (on_pairs f b) ≡ b
unfolding on_pairs
pairs-back f g e b h =
    let p0 = e b.a0 b.a4 h.w0 h.w4 in
    let p1 = e b.a1 b.a5 h.w1 h.w5 in
    let p2 = e b.a2 b.a6 h.w2 h.w6 in
    let p3 = e b.a3 b.a7 h.w3 h.w7 in
    λ i.
    record {
      a0 = (p0 i).left;
      a1 = (p1 i).left;
      a2 = (p2 i).left;
      a3 = (p3 i).left;
      a4 = (p0 i).right;
      a5 = (p1 i).right;
      a6 = (p2 i).right;
      a7 = (p3 i).right;
    }

pub sub_crumbs-back : (a : Block) → Words a → sub_crumbs_back (sub_crumbs a) ≡ a
unfolding sub_crumbs sub_crumbs_back on_halves
sub_crumbs-back = halves_back sub_crumb sub_crumb_back sub_crumb-back

pub sub_crumbs-forth : (a : Block) → Words a → sub_crumbs (sub_crumbs_back a) ≡ a
unfolding sub_crumbs sub_crumbs_back on_halves
sub_crumbs-forth = halves_back sub_crumb_back sub_crumb sub_crumb-forth

pub mix_words-back : (x : Block) → Words x → mix_words_back (mix_words x) ≡ x
unfolding mix_words mix_words_back on_pairs
mix_words-back = pairs-back mix_word mix_word_back mix_word-back

pub mix_words-forth : (x : Block) → Words x → mix_words (mix_words_back x) ≡ x
unfolding mix_words mix_words_back on_pairs
mix_words-forth = pairs-back mix_word_back mix_word mix_word-forth

-- constants
pub add_constant-back : (c : Pair) (y : Block) → add_constant c (add_constant c y) ≡ y
unfolding add_constant
add_constant-back c y = rw (xor-back y.a0 c.left, xor-back y.a4 c.right)

-- words stay words on the way back
pub sub_back-words : (a : Block) → Words (sub_crumbs_back a)
unfolding sub_crumbs_back on_halves sub_crumb_back crumb_by word_by
sub_back-words a = search given_lt
  where
    given_lt : (k a0 a1 a2 a3 : ℕ) → from_bits 32 (λ l. bit k (SBack (sbox_input a0 a1 a2 a3 l))) < 2 ^ 32
    given_lt k a0 a1 a2 a3 = from_bits-lt 32 _ (λ l. bit_lt k (SBack (sbox_input a0 a1 a2 a3 l)))

mix_back-words : (x y : ℕ) → x < 2 ^ 32 → y < 2 ^ 32 → PairWords (mix_word_back x y)
unfolding mix_word_back
mix_back-words x y hx hy =
    let z4 : ℕ = rotl 31 y in
    let l4 : z4 < 2 ^ 32 = rotl_lt 31 y hy in
    let y0 : ℕ = rotl 22 (bit_xor x z4) in
    let k0 : y0 < 2 ^ 32 = rotl_lt 22 _ (xor_lt 32 x z4 hx l4) in
    let y4 : ℕ = rotl 18 (bit_xor z4 y0) in
    let k4 : y4 < 2 ^ 32 = rotl_lt 18 _ (xor_lt 32 z4 y0 l4 k0) in
    let x0 : ℕ = rotl 30 (bit_xor y0 y4) in
    let h0 : x0 < 2 ^ 32 = rotl_lt 30 _ (xor_lt 32 y0 y4 k0 k4) in
    record { left_word = h0; right_word = xor_lt 32 y4 x0 k4 h0 }

mixed_back-words : (x : Block) → Words x → Words (mix_words_back x)
unfolding mix_words_back
mixed_back-words = pairs-words mix_word_back mix_back-words

steps_back-words : (cs : List Pair) (b : Block) → Words b → Words (steps_back cs b)
unfolding steps_back step_back
steps_back-words [] b h = h
steps_back-words (c ∷ cs) b h = sub_back-words _

-- the step
pub step_back_lem : (c : Pair) (a : Block) → Words a → step_back c (step c a) ≡ a
unfolding step step_back
step_back_lem c a h = rw (add_constant-back c (mix_words (sub_crumbs a)), mix_words-back (sub_crumbs a) (sub_words a)) (sub_crumbs-back a h)

pub step_forth : (c : Pair) (b : Block) → PairWords c → Words b → step c (step_back c b) ≡ b
unfolding step step_back
step_forth c b k h =
    let w : Words (add_constant c b) = add_words c b k h in
    rw (sub_crumbs-forth (mix_words_back (add_constant c b)) (mixed_back-words _ w), mix_words-forth (add_constant c b) w) (add_constant-back c b)

-- steps, the last undone first
pub steps_back_lem : (cs : List Pair) (a : Block) → Every PairWords cs → Words a → steps_back cs (steps cs a) ≡ a
unfolding steps steps_back
steps_back_lem [] a k h = refl
steps_back_lem (c ∷ cs) a k h = ap (step_back c) (steps_back_lem cs (step c a) k.1 (step_words c a k.0)) ∙ step_back_lem c a h

pub steps_forth : (cs : List Pair) (b : Block) → Every PairWords cs → Words b → steps cs (steps_back cs b) ≡ b
unfolding steps steps_back
steps_forth [] b k h = refl
steps_forth (c ∷ cs) b k h = ap (steps cs) (step_forth c (steps_back cs b) k.0 (steps_back-words cs b h)) ∙ steps_forth cs b k.1 h

-- the tweak
tweak-words : (j : ℕ) (b : Block) → Words b → Words (tweak j b)
unfolding tweak
tweak-words j b h =
    omega (arith, h, rotl_lt j b.a4 h.w4, rotl_lt j b.a5 h.w5, rotl_lt j b.a6 h.w6, rotl_lt j b.a7 h.w7)

pub tweak-back : (j : ℕ) (b : Block) → j ≤ 32 → Words b → tweak_back j (tweak j b) ≡ b
unfolding tweak_back tweak
tweak-back j b l h =
    rw (rotl-back j b.a4 l h.w4, rotl-back j b.a5 l h.w5, rotl-back j b.a6 l h.w6, rotl-back j b.a7 l h.w7)

pub tweak_forth : (j : ℕ) (b : Block) → j ≤ 32 → Words b → tweak j (tweak_back j b) ≡ b
tweak_forth j b l h =
    let e : 32 - (32 - j) ≡ j = omega arith in
    ap (λ (n : ℕ). tweak n (tweak_back j b)) (sym e) ∙ unfold tweak_back in (unfold tweak_back in tweak-back (32 - j) b (omega arith) h)

-- Q_j
pub permute-back : (j : ℕ) (b : Block) → j < 5 → Words b → permute_back j (permute j b) ≡ b
unfolding permute permute_back
permute-back j b l h =
    ap (tweak_back j) (steps_back_lem (constants j) (tweak j b) (constants-words j l) (tweak-words j b h)) ∙ tweak-back j b (omega arith) h

pub permute_back-words : (j : ℕ) (b : Block) → Words b → Words (permute_back j b)
unfolding permute_back tweak_back
permute_back-words j b h = tweak-words (32 - j) _ (steps_back-words (constants j) b h)

pub permute_forth : (j : ℕ) (b : Block) → j < 5 → Words b → permute j (permute_back j b) ≡ b
unfolding permute permute_back
permute_forth j b l h =
    ap (steps (constants j)) (tweak_forth j (steps_back (constants j) b) (omega arith) (steps_back-words (constants j) b h))
    ∙ steps_forth (constants j) b (constants-words j l) h

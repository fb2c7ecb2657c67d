-- The permutation Q_j: section 4.1 of the source, with SubCrumb's two halves of 4.2, AddConstant of 4.4 and the tweaks of 4.5.
use Rattle.std.specs.Prelude.{ℕ, List, [], ◌∷◌}
use Rattle.std.specs.Int.Bits.{bit_xor}
use Rattle.definition.specs.declared.Block.{Block}
use Rattle.definition.specs.declared.Crumb.{Crumb}
use Rattle.definition.specs.declared.Pair.{Pair}
use Rattle.definition.specs.Word.{rotl}
use Rattle.definition.specs.SubCrumb.{sub_crumb}
use Rattle.definition.specs.MixWord.{mix_word}
use Rattle.definition.specs.Constant.{constants}

-- 4.5: words 4 to 7 of block j rotated left by j
unfoldable pub tweak : ℕ → Block → Block
tweak j b =
    record {
      a0 = b.a0;
      a1 = b.a1;
      a2 = b.a2;
      a3 = b.a3;
      a4 = rotl j b.a4;
      a5 = rotl j b.a5;
      a6 = rotl j b.a6;
      a7 = rotl j b.a7;
    }

-- 4.1 and 4.2: what is done to four words, done to both halves of a block: a0, a1, a2, a3, and a5, a6, a7, a4
unfoldable pub on_halves : ((a0 a1 a2 a3 : ℕ) → Crumb) → Block → Block
on_halves f a =
    let x : Crumb = f a.a0 a.a1 a.a2 a.a3 in
    let y : Crumb = f a.a5 a.a6 a.a7 a.a4 in
    record {
      a0 = x.x0;
      a1 = x.x1;
      a2 = x.x2;
      a3 = x.x3;
      a4 = y.x3;
      a5 = y.x0;
      a6 = y.x1;
      a7 = y.x2;
    }

-- 4.1 and 4.2: SubCrumb(a0, a1, a2, a3); SubCrumb(a5, a6, a7, a4)
unfoldable pub sub_crumbs : Block → Block
sub_crumbs = on_halves sub_crumb

-- 4.1: what is done to two words, done to a_k and a_k+4 for k from 0 to 3
unfoldable pub on_pairs : ((x0 x4 : ℕ) → Pair) → Block → Block
on_pairs f x =
    let y0 : Pair = f x.a0 x.a4 in
    let y1 : Pair = f x.a1 x.a5 in
    let y2 : Pair = f x.a2 x.a6 in
    let y3 : Pair = f x.a3 x.a7 in
    record {
      a0 = y0.left;
      a1 = y1.left;
      a2 = y2.left;
      a3 = y3.left;
      a4 = y0.right;
      a5 = y1.right;
      a6 = y2.right;
      a7 = y3.right;
    }

-- 4.1: MixWord(a_k, a_k+4) for k from 0 to 3
unfoldable pub mix_words : Block → Block
mix_words = on_pairs mix_word

-- 4.4: AddConstant, into words 0 and 4
unfoldable pub add_constant : Pair → Block → Block
add_constant c y =
    record {
      a0 = bit_xor y.a0 c.left;
      a1 = y.a1;
      a2 = y.a2;
      a3 = y.a3;
      a4 = bit_xor y.a4 c.right;
      a5 = y.a5;
      a6 = y.a6;
      a7 = y.a7;
    }

-- 4.1: the step function
unfoldable pub step : Pair → Block → Block
step c a = add_constant c (mix_words (sub_crumbs a))

-- 4.1: a step for each pair of constants in turn
unfoldable pub steps : List Pair → Block → Block
steps [] a = a
steps (c ∷ cs) a = steps cs (step c a)

-- 4.1: Q_j, the tweak once and then eight steps
unfoldable pub permute : ℕ → Block → Block
permute j b = steps (constants j) (tweak j b)

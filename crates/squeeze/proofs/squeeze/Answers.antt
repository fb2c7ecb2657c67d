-- `squeeze::squeeze` meets its contract. The loop's invariant: k blank rounds are run, and their words are out, as many as are wanted.
-- Assumes nothing.
use mathlib.Core.Path.{◌≡◌, sym, ap, ◌∙◌}
use mathlib.Core.List.{[]}
use Prim.Native.Nat.{ℕ, suc, ◌+◌, ◌/◌, min}
use native.Mathlib.Numerals.{add-one}
use native.Mathlib.Omega.{arith}
use lib.ListN.{length, replicate}
use lib.Seq.{take_all}
use Rattle.definition.specs.declared.Counted.{Counted}
use Rattle.definition.specs.Block.{xor_all, words_of}
use Rattle.definition.specs.Padding.{blocks}
use Rattle.definition.specs.State.{five}
use Rattle.definition.specs.Word.{bytes_of_all}
use Rattle.definition.specs.Final.{outputs, final_rounds, final}
use Rattle.definition.specs.Counted.{counted_chain}
use Rattle.definition.proofs.Buffer.{overwrite_at-none}
use Rattle.squeeze.proofs.Words.{blanks, blanks_more, put_more}
use Rattle.squeeze.proofs.squeeze.Goals as goal

pub loop-k-init : goal.loop-k-init
unfolding blanks counted_chain outputs bytes_of_all
loop-k-init c =
    record {
      rounds = rw c.used.ensures;
      words = rw (take_all {A = ℕ} c.min-n.result [] (omega arith)) (sym (overwrite_at-none 0 _));
    }

pub loop-k-preserved : goal.loop-k-preserved
loop-k-preserved c =
    let a = c.args in
    let l = c.loop-k in
    let d : c.absorb-d.result ≡ blanks a.w a.c (suc l.k) =
    c.absorb-d.ensures ∙ ap (λ (e : Counted). counted_chain a.w e (blocks (replicate 32 0))) l.invariant.rounds ∙ blanks_more a.w a.c l.k in
    let z = c.output-z.ensures ∙ ap (λ (e : Counted). words_of (xor_all (five e.state))) d in
    record {
      rounds = rw (add-one l.k) d;
      words = rw (add-one l.k)
          ((rw c.min.ensures at c.put_words.ensures) ∙ put_more a.w a.c l.k c.min-n.result _ l.out a.out.now z (omega arith) (omega arith) l.invariant.words);
    }

pub returns : goal.returns
unfolding blanks final final_rounds
returns c =
    let a = c.args in
    let l = c.loop-k in
    let n : c.min-n.result ≡ min a.words (length a.out.now / 4) = c.min-n.ensures in
    let k : l.k ≡ (min a.words (length a.out.now / 4) + 7) / 8 = omega arith in
    record {
      value = rw k at l.invariant.rounds;
      out_after = rw (n, k) at l.invariant.words;
    }

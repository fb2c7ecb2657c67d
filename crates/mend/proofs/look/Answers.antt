-- `mend::look` meets its contract: the mark as it was, or written and noted.
-- Assumes nothing.
use mathlib.Core.Path.{◌≡◌, refl, sym, ap, ap₂, ◌∙◌}
use mathlib.Core.Bool.{Bool, true, false, not}
use mathlib.Core.List.{List}
use Prim.Native.Nat.{ℕ, ◌+◌, ◌-◌, ◌*◌}
use native.Mathlib.Omega.{arith}
use lib.ListN.{take, drop}
use Rattle.definition.specs.declared.State.{State}
use Rattle.definition.specs.Block.{words_of_all}
use Rattle.definition.specs.State.{five}
use Rattle.definition.specs.Buffer.{same}
use Rattle.definition.specs.Refusal.{pick}
use Rattle.sheet_definition.specs.Marks.{mark_at}
use Rattle.sheet_marks.proofs.Total.{written_at}
use Rattle.mend.specs.Look.{other, noted, put}
use Rattle.mend.proofs.look.Goals as goal

-- mark m as it lies in the marks
in_place : (m : ℕ) (marks : List ℕ) → take (40 * m + 40 - 40 * m) (drop (40 * m) marks) ≡ mark_at marks m
unfolding mark_at
in_place m marks = ap (λ (n : ℕ). take n (drop (40 * m) marks)) {x = 40 * m + 40 - 40 * m} {y = 40} (omega arith)

-- which says whether the mark has other words
said : (m : ℕ) (marks : List ℕ) (s : State) {d : Bool} {words : List ℕ} → d ≡ not (same (take (40 * m + 40 - 40 * m) (drop (40 * m) marks)) words)
    → words ≡ words_of_all (five s) → d ≡ other marks m s
unfolding other
said m marks s e w = e ∙ ap not (ap₂ same (in_place m marks) w)

pub returns-then-not-differs : goal.returns-then-not-differs
unfolding noted put pick
returns-then-not-differs c =
    let a = c.args in
    let t : other _ _ _ ≡ false = sym (said a.m a.marks.now a.s c.differs.ensures c.words-words.ensures) ∙ c.if-not-differs.true in
    record {
      value = rw t refl;
      marks_after = rw t refl;
    }

pub returns : goal.returns
unfolding noted put pick
returns c =
    let a = c.args in
    let t : other _ _ _ ≡ true = sym (said a.m a.marks.now a.s c.differs.ensures c.words-words.ensures) ∙ c.if-not-differs.false in
    record {
      value = rw (t, c.or.ensures) refl;
      marks_after = rw t (c.write.ensures ∙ written_at a.marks.now a.m (omega arith) a.s);
    }

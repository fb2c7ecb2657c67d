-- `sheet_marks::read` meets its contract: five blocks where they lie, the last two where w uses them.
-- Assumes nothing.
use mathlib.Core.Path.{refl, ◌≡◌, ap, ◌∙◌}
use Prim.Native.Nat.{ℕ, ◌+◌, ◌*◌, ◌/◌, ◌≤◌}
use native.Mathlib.Omega.{arith}
use borrow.Author.Tests.{lt-leb}
use mathlib.Core.Bool.{true}
use mathlib.Core.List.{List, []}
use lib.ListN.{length, get_or}
use Rattle.std.specs.Simd.{first_chunks}
use Rattle.definition.specs.State.{state_of}
use Rattle.sheet_definition.specs.Marks.{mark_at}
use Rattle.sheet_marks.specs.Total.{when_used, state_when, state_at}
use Rattle.sheet_marks.proofs.Total.{found, found_at}
use Rattle.sheet_marks.proofs.Chunks.{chunk_at, block_at}
use Rattle.sheet_marks.proofs.read.Goals as goal

pub returns-in_default : goal.returns-in_default
unfolding state_at state_when state_of
returns-in_default c =
    let a = c.args in
    let h : length a.marks.now / 40 ≤ a.m = omega (arith, c.as_chunks.ensures.front_len, c.in_default.ensures.lookup.3) in
    rw (lt-leb (40 * (a.m + 1)) (length a.marks.now) (omega arith)) refl

pub returns : goal.returns
unfolding found mark_at when_used
returns c =
    let a = c.args in
    let marks = a.marks.now in
    let t = c.in-Some.mark.now in
    let h = c.in-Some.ensures.lookup.3 in
    let e : t ≡ mark_at marks a.m =
    h.1 [] ∙ ap (λ (l : List (List ℕ)). get_or l a.m []) c.as_chunks.ensures.front ∙ chunk_at 40 (length marks / 40) a.m marks [] (omega arith) in
    let n : length t ≡ 40 = omega arith in
    let f : c.as_chunks-2.result.0.now ≡ first_chunks 8 5 t = rw n at c.as_chunks-2.ensures.front in
    ◌∙◌ {b = found a.w t}
    (λ i. record {
      h0 = (c.block.ensures ∙ ap (when_used true) (block_at 0 t _ f (omega arith))) i;
      h1 = (c.block-2.ensures ∙ ap (when_used true) (block_at 1 t _ f (omega arith))) i;
      h2 = (c.block-3.ensures ∙ ap (when_used true) (block_at 2 t _ f (omega arith))) i;
      h3 = ((rw c.count-k.ensures at c.block-4.ensures) ∙ ap (when_used _) (block_at 3 t _ f (omega arith))) i;
      h4 = ((rw c.count-k.ensures at c.block-5.ensures) ∙ ap (when_used _) (block_at 4 t _ f (omega arith))) i;
    })
    (ap (found a.w) e ∙ found_at marks a.m (omega arith) a.w)

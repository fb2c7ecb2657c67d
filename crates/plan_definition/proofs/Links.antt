-- Going through links from one to another, link by link: at the end none are left, and some of those left pass where the next does or some after it.
-- And the links of a default.
-- Assumes nothing.
use mathlib.Core.Path.{◌≡◌, sym, ap, ◌∙◌}
use mathlib.Core.Bool.{Bool, ◌||◌}
use mathlib.Core.List.{List, []}
use Prim.Native.Nat.{ℕ, suc, ◌<◌, ◌≤◌}
use native.Mathlib.Omega.{arith}
use lib.ListN.{length, get_or, replicate}
use lib.Seq.{slice, slice_empty, slice-cons}
use Rattle.std.specs.Array.{AllOfLen}
use Rattle.std.proofs.lemmas.List.{ext_get_or, get_or-replicate}
use Rattle.plan_definition.specs.declared.Link.{Link}
use Rattle.plan_definition.specs.Some.{some}
use Rattle.plan_definition.specs.Well.{no_link}

-- at the end none are left
pub none_left : {A : Type 0} (f : List Link → A) (k t : ℕ) (ls : List Link) → k ≡ t → f [] ≡ f (slice k t ls)
none_left f k t ls e = rw e (ap f (sym (slice_empty t ls)))

pub some_left : (f : Link → Bool) (k t : ℕ) (ls : List Link) → k < t → t ≤ length ls
    → some f (slice k t ls) ≡ f (get_or ls k no_link) || some f (slice (suc k) t ls)
unfolding some
some_left f k t ls h g = ap (some f) (slice-cons k t ls no_link h g)

-- the links of a default are four of zeros
pub no_links : (ls : List Link) → AllOfLen (λ l. (l.injector ≡ 0) × (l.share ≡ 0)) ls 4 → ls ≡ replicate 4 no_link
no_links ls h =
    ext_get_or no_link ls (replicate 4 no_link) h.long (λ i g.
    let e = h.at i no_link (omega arith) in
    (λ j. record { injector = e.0 j; share = e.1 j }) ∙ sym (get_or-replicate 4 i no_link no_link (omega arith)))

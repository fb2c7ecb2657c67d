-- `rounds::last::absorb_padded` meets its contract: the closing byte is set after what was copied, and the zeros that are left follow it.
-- Assumes nothing.
use Rattle.std.proofs.Common.{◌≡◌, ℕ, suc, ◌-◌, ◌<◌, List, ◌++◌, length, set, drop, replicate, refl, mod-eq_of_lt, arith, length-append}
use Rattle.std.proofs.lemmas.List.{drop-replicate}
use lib.Seq.{set_at}
use Rattle.definition.specs.Padding.{padding}
use Rattle.definition.proofs.Padding.{blocks_one, length-padding}
use Rattle.rounds.proofs.last.absorb_padded.Goals as goal

closed : (p t : List ℕ) (byte : ℕ) → length t < 32 → p ≡ t → set (p ++ drop (length t) (replicate 32 0)) (length t) byte ≡ t ++ padding byte (length t)
unfolding padding
closed p t byte h e =
    let m : 32 - length t ≡ suc (31 - length t) = omega arith in
    rw (e, drop-replicate {X = ℕ} (length t) 32 0, m, mod-eq_of_lt h) (set_at t 0 (replicate (31 - length t) 0) byte (length t) refl)

whole : (t : List ℕ) (byte : ℕ) → length t < 32 → length (t ++ padding byte (length t)) ≡ 32
whole t byte h = omega (arith, length-append t (padding byte (length t)), length-padding byte (length t))

pub returns : goal.returns
returns c =
    let a = c.args in
    let t = a.t.now in
    let h : length t < 32 = omega arith in
    rw (closed _ t a.closing h c.copy_from_slice.ensures.after, blocks_one (t ++ padding a.closing (length t)) (whole t a.closing h)) at c.absorb.ensures

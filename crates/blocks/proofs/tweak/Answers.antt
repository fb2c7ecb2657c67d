-- `blocks::tweak` meets its contract: the library's rotation is 4.5's, which goes all the way around at 32.
-- Assumes nothing.
use Rattle.std.proofs.Common.{◌≡◌, ℕ, zero, suc, ◌≤◌, ◌<◌, ◌^◌, ◌-◌, ⊎_elim, sym, ◌∙◌, eq-or-lt_of_le, mod-eq_of_lt, mul-one, div-one, rules, arith}
use Rattle.std.specs.Int.Bits.{or_self}
use native.Mathlib.Nat.{mul-mod_left, div-eq_of_lt}
use lib.Bits.{or_zero_l, or_zero_r}
use Rattle.std.specs.Int.{w32, rotate_left}
use Rattle.definition.specs.Word.{rotl}
use Rattle.definition.specs.Permutation.{tweak as tweak_of}
use Rattle.blocks.proofs.tweak.Goals as goal

-- by 0 the library gives the word twice, as it does at 32
still : (a : ℕ) → a < 2 ^ 32 → rotate_left w32 a 0 ≡ a
still a h = rw (mul-one, mod-eq_of_lt h, div-one) (or_self a)

rotated : (j a : ℕ) → j ≤ 32 → a < 2 ^ 32 → rotate_left w32 a j ≡ rotl j a
unfolding rotl
rotated zero a h k = still a k ∙ sym (rw (mul-one, mod-eq_of_lt k, div-eq_of_lt k) (or_zero_r a))
rotated (suc j) a h k = ⊎_elim around within (eq-or-lt_of_le h)
  where
    around : suc j ≡ 32 → rotate_left w32 a (suc j) ≡ rotl (suc j) a
    around e = rw e (still a k ∙ sym (rw (mul-mod_left a (2 ^ 32), div-one) (or_zero_l a)))

    within : suc j < 32 → rotate_left w32 a (suc j) ≡ rotl (suc j) a
    within l =
        let m : 32 - suc j < 32 = omega arith in
        rw (mod-eq_of_lt l, mod-eq_of_lt m)

pub returns : goal.returns
unfolding tweak_of
returns c =
    let b = c.args.b in
    let turn : (a : ℕ) → a < 2 ^ 32 → rotate_left w32 a c.args.j ≡ rotl c.args.j a = λ a h. rotated c.args.j a c.requires h in
    rw (c.rotate_left.ensures, c.rotate_left-2.ensures, c.rotate_left-3.ensures, c.rotate_left-4.ensures, turn b.a4 (search rules), turn b.a5 (search rules), turn b.a6 (search rules), turn b.a7 (search rules))

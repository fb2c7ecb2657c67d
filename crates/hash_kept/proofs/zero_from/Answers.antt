-- `hash_kept::zero_from` meets its contract: the block that is read has the bytes from the place on, and zeros.
-- Assumes nothing.
use Rattle.std.proofs.Common.{◌≡◌, ℕ, ◌-◌, List, ◌++◌, length, drop, replicate, ◌∙◌, zero-add, arith, length-append, length-drop, take_all, rules}
use Rattle.definition.specs.Buffer.{overwrite_at}
use Rattle.octets.specs.Total.{write_at}
use Rattle.octets.proofs.Total.{write_at_lem}
use Rattle.hash_kept.proofs.Zeros.{tail_zero}
use Rattle.hash_kept.proofs.zero_from.Goals as goal

-- what is put into a buffer of 64 zeros has 32 zeros after it
put : (p : List ℕ) → length p ≡ 32 → write_at 0 p (replicate 64 0) ≡ p ++ replicate 32 0
put p e = write_at_lem 0 p (replicate 64 0) (omega arith) ∙ unfold overwrite_at in rw (zero-add (length p), e)

pub returns : goal.returns
returns c =
    let a = c.args in
    let n : length a.p ≡ 32 = search rules in
    let q = c.put_bytes.ensures ∙ put a.p n in
    c.zero_block.ensures
    ∙ rw (c.full_block.ensures, q, take_all (64 - a.at) (drop a.at (a.p ++ replicate 32 0)) (omega (arith, length-drop a.at (a.p ++ replicate 32 0), length-append a.p (replicate 32 0))))
    (tail_zero a.p a.at 32 n (omega arith))

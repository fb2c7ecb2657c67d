-- Any two outcomes that the statement of a call on messages, records or lent working states allows are equal.
-- Assumes nothing.
use mathlib.Core.List.{List}
use Prim.Native.Nat.{ℕ}
use Rattle.definition.proofs.Determined.{Determined, determined}
use Rattle.hash_definition.specs.declared.Kept.{Kept}
use Rattle.hash_definition.specs.Calls.{digest_bits_outcome, start_outcome, feed_bits_outcome, finish_outcome}
use Rattle.hash_definition.specs.Lent.{lent_start_outcome, lent_feed_bits_outcome, lent_finish_outcome}
use Rattle.hash_definition.specs.Output.{output_bits_outcome, finish_output_outcome, lent_finish_output_outcome}

pub digest_determined : (code : ℕ) (message : List ℕ) (odd : ℕ) (out : List ℕ) → Determined (digest_bits_outcome code message odd out)
digest_determined code message odd out = determined (digest_bits_outcome code message odd out)

pub start_determined : (code : ℕ) (buffer : List ℕ) → Determined (start_outcome code buffer)
start_determined code buffer = determined (start_outcome code buffer)

pub feed_determined : (b piece : List ℕ) (odd : ℕ) → Determined (feed_bits_outcome b piece odd)
feed_determined b piece odd = determined (feed_bits_outcome b piece odd)

pub finish_determined : (b out : List ℕ) → Determined (finish_outcome b out)
finish_determined b out = determined (finish_outcome b out)

pub lent_start_determined : (code : ℕ) (k : Kept) → Determined (lent_start_outcome code k)
lent_start_determined code k = determined (lent_start_outcome code k)

pub lent_feed_determined : (k : Kept) (piece : List ℕ) (odd : ℕ) → Determined (lent_feed_bits_outcome k piece odd)
lent_feed_determined k piece odd = determined (lent_feed_bits_outcome k piece odd)

pub lent_finish_determined : (k : Kept) (out : List ℕ) → Determined (lent_finish_outcome k out)
lent_finish_determined k out = determined (lent_finish_outcome k out)

pub output_determined : (code words : ℕ) (message : List ℕ) (odd : ℕ) (out : List ℕ) → Determined (output_bits_outcome code words message odd out)
output_determined code words message odd out = determined (output_bits_outcome code words message odd out)

pub finish_output_determined : (b : List ℕ) (words : ℕ) (out : List ℕ) → Determined (finish_output_outcome b words out)
finish_output_determined b words out = determined (finish_output_outcome b words out)

pub lent_finish_output_determined : (k : Kept) (words : ℕ) (out : List ℕ) → Determined (lent_finish_output_outcome k words out)
lent_finish_output_determined k words out = determined (lent_finish_output_outcome k words out)

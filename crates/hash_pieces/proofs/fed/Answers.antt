-- `hash_pieces::fed` meets its contract: whole bytes complete the pending block and go on from their middle.
-- Assumes nothing.
use Rattle.std.proofs.Common.{◌≡◌, ◌-◌, ◌*◌, ◌/◌, ◌%◌, length, drop, replicate, arith, length-drop, rules}
use Rattle.definition.specs.Padding.{rest}
use Rattle.octets.specs.Total.{write_at}
use Rattle.definition.proofs.Chain.{counted-state}
use Rattle.octets.proofs.Parts.{part_rest}
use Rattle.octets.proofs.Total.{write_at_lem}
use Rattle.hash_definition.proofs.Ending.{low_pending}
use Rattle.hash_pieces.proofs.Pieces.{completes}
use Rattle.hash_pieces.proofs.fed.Goals as goal

-- an array has its length
pending : (s : goal.After-pasted) → length s.args.k.pending ≡ 32
pending s = search rules

pub completed-requires : goal.completed-requires
completed-requires c = (omega arith, c.split_at.ensures.front_len)

pub returns : goal.returns
unfolding rest
returns c =
    let k = c.args.k in
    let piece = c.args.piece.now in
    let from = (32 - k.low % 32) % 32 in
    let t = drop from piece in
    -- the rest of the piece stands over zeros
    let z : c.pasted.result ≡ write_at 0 _ (replicate 32 0) = c.pasted.ensures in
    rw (
      z,
      c.counted-high.ensures,
      c.absorb-d.ensures,
      c.width-w.ensures,
      c.split_at.ensures.back,
      part_rest (length t / 32 * 32) t,
      write_at_lem 0 (drop (length t / 32 * 32) t) (replicate 32 0) (omega (arith, length-drop (length t / 32 * 32) t)),
      counted-state,
    )
    (completes k piece (k.low % 32) (low_pending k) (pending c) c.requires.1 c.requires.2 c.completed.result (rw (c.width-w.ensures, c.split_at.ensures.front) at c.completed.ensures))

-- `luffasum_lines::feed` meets its contract: each record is fed, and the first that refuses is handed on.
-- Assumes nothing.
use Rattle.std.proofs.Common.{sym, ◌∙◌}
use Rattle.definition.specs.Refusal.{when_done}
use Rattle.definition.proofs.Refusals.{not_done}
use Rattle.luffasum_lines.specs.Text.{fed_each, fed_records}
use Rattle.luffasum_lines.proofs.Held.{refused, accepted}
use Rattle.luffasum_lines.proofs.feed.Goals as goal

pub returns-then-is_err : goal.returns-then-is_err
unfolding fed_records
returns-then-is_err c = sym (not_done _ _ _ (refused _ (sym c.is_err.ensures.value ∙ c.if-is_err.true)))

pub returns : goal.returns
unfolding fed_records fed_each when_done
returns c =
    rw (accepted c.args.r.now.fed (sym c.is_err.ensures.value ∙ c.if-is_err.false), ← c.feed-two.ensures, ← c.feed-three.ensures, ← c.feed-four.ensures, c.in_turn-r.ensures, c.in_turn.ensures)

-- `luffasum_lines::print` meets its contract: at each end of the reading the text that the definition has for it.
-- Assumes nothing.
use mathlib.Core.Path.{refl, sym, ap, ◌∙◌}
use borrow.Author.Tests.{lt-leb}
use Rattle.octets.proofs.Total.{write_none}
use Rattle.luffasum_lines.specs.declared.End.{End}
use Rattle.luffasum_lines.specs.Line.{digit}
use Rattle.luffasum_lines.specs.Text.{reading_of, text_at, room, printed}
use Rattle.luffasum_lines.proofs.Held.{refused, accepted, text-four, text_at_lem, said}
use Rattle.luffasum_lines.proofs.print.Goals as goal

pub returns-then-out-lt-ROOM : goal.returns-then-out-lt-ROOM
unfolding printed
returns-then-out-lt-ROOM c = rw (lt-leb room _ c.if-out-lt-ROOM.true)

-- a read was refused
pub returns-then-is_err : goal.returns-then-is_err
unfolding digit
returns-then-is_err c =
    said _ _ _ _ _ _ c.if-out-lt-ROOM.false (text-four _ _ (refused _ (sym c.is_err.ensures.value ∙ c.if-is_err.true))) refl c.put_bytes.ensures

-- none was
pub returns-in-Whole : goal.returns-in-Whole
unfolding text_at
returns-in-Whole c =
    let r = reading_of c.args.r.now in
    said _ _ _ _ _ _ c.if-out-lt-ROOM.false
    (text_at_lem _ r (accepted _ (sym c.is_err.ensures.value ∙ c.if-is_err.false)) ∙ ap (λ (x : End). text_at x r) c.in-Whole.is) c.put_lines.ensures.0 c.put_lines.ensures.1

pub returns-in-Failed : goal.returns-in-Failed
unfolding text_at
returns-in-Failed c =
    let r = reading_of c.args.r.now in
    let h = c.if-out-lt-ROOM.false in
    said _ _ _ _ _ _ h (text_at_lem _ r (accepted _ (sym c.is_err.ensures.value ∙ c.if-is_err.false)) ∙ ap (λ (x : End). text_at x r) c.in-Failed.is) refl
    (sym (write_none 0 _))

-- `hash::feed_short` meets its contract: the record is judged at a glance, and what the piece alters is written where it lies.
-- Assumes nothing.
use Rattle.std.proofs.Common.{◌≡◌, ℕ, ◌<◌, get_or, sym, refl, ap, ◌∙◌, arith}
use Rattle.refusals.proofs.Judged.{handed_on, isnt_done}
use Rattle.hash_definition.specs.declared.Held.{Held}
use Rattle.hash_definition.specs.Calls.{feed_bits_outcome}
use Rattle.hash_definition.specs.Said.{done}
use Rattle.hash_definition.proofs.Refused.{refused, accepted}
use Rattle.hash_record.specs.declared.Glanced.{Glanced}
use Rattle.hash_record.specs.Reading.{held_written}
use Rattle.hash.proofs.ShortFeed.{glanced, by_form, by_piece, passed, fed_in_place}
use Rattle.hash.proofs.feed_short.Goals as goal

pub returns-in_err-when : goal.returns-in_err-when
unfolding feed_bits_outcome
returns-in_err-when c =
    let a = c.args in
    let r = c.from_residual.ensures.1 in
    refused _ (by_form a.«record».now a.piece.now a.odd c.requires _ _ c.glance-g.ensures r c.in_err-when.ensures) _ _ (isnt_done _ _ r)

pub returns-in_err-piece : goal.returns-in_err-piece
unfolding feed_bits_outcome
returns-in_err-piece c =
    let a = c.args in
    let r = c.from_residual-in_err-piece.ensures.1 in
    let f = by_piece a.«record».now a.piece.now a.odd c.requires c.glance-g.ensures c.in_ok-when.ensures c.in_err-piece.ensures in
    refused _ (handed_on _ _ r ∙ f) _ _ (isnt_done _ _ r)

bytes : (s : goal.After-slice_known-2-1) (i : ℕ) → get_or s.args.«record».now i 0 < 256
bytes s i = omega (arith, s.slice_known-1.given i)

pub returns : goal.returns
unfolding feed_bits_outcome
returns c =
    let a = c.args in
    let b = a.«record».now in
    let n = by_piece b a.piece.now a.odd c.requires c.glance-g.ensures c.in_ok-when.ensures c.in_ok-piece.ensures in
    let t = passed b a.piece.now a.odd c.requires (bytes c) (sym n) in
    let h : c.glance-g.result.held ≡ _ = ap (λ (x : Glanced). x.held) (c.glance-g.ensures ∙ glanced b a.piece.now a.odd c.requires) in
    ap done
    (c.put_held.ensures
    ∙ ap (λ (x : Held). held_written x b) (rw h at (c.short_fed.ensures t.ends.1))
    ∙ fed_in_place b a.piece.now a.odd c.requires (bytes c) (sym n))
    ∙ accepted _ n _ _ refl

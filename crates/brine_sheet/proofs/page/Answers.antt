-- `brine_sheet::page` meets its contract: a sound sheet's figures, or the zeros that every row of another is.
-- Assumes nothing.
use mathlib.Core.Path.{◌≡◌, refl, sym, ap, ◌∙◌}
use mathlib.Core.Bool.{false}
use mathlib.Core.List.{[]}
use Rattle.std.proofs.lemmas.List.{nil_from_length}
use Rattle.definition.specs.Refusal.{pick}
use Rattle.sheet_definition.specs.Sheet.{cut}
use native.Mathlib.Omega.{arith}
use borrow.Author.Rules.{rules}
use lib.ListN.{length, length-replicate, replicate}
use lib.IntN.{pos}
use Rattle.plan_definition.specs.Well.{wells_from, wells}
use Rattle.plan_definition.specs.Check.{says_sound, first_fault, sound}
use Rattle.plan_definition.proofs.Listed.{length-wells}
use Rattle.plan_definition.proofs.Tested.{says}
use Rattle.brine_definition.specs.declared.Statement.{Statement}
use Rattle.brine_definition.specs.Count.{count, sum}
use Rattle.brine_definition.specs.Page.{rows}
use Rattle.brine_definition.specs.Statement.{intakes, spares, page, statement_of}
use Rattle.plan_places.specs.Places.{placed}
use Rattle.brine_definition.proofs.Sound.{faulted-intakes, faulted-spares}
use Rattle.plan.specs.Sets.{count_of}
use Rattle.brine_sheet.specs.Table.{placed_if}
use Rattle.brine_sheet.proofs.Rows.{no_figures}
use Rattle.brine_sheet.proofs.Alone.{faulted-alone}
use Rattle.brine_sheet.proofs.page.Goals as goal

-- the statement of one sound sheet without figures
one_sound : (d : Statement) → (d.number ≡ 0) × ((d.sound ≡ 0) × ((d.faulted ≡ 0) × ((d.intake ≡ 0) × (d.overloaded ≡ 0))))
    → ◌≡◌ {A = Statement} record { number = d.number; sound = 1; faulted = d.faulted; intake = d.intake; overloaded = d.overloaded }
    record { number = 0; sound = 1; faulted = 0; intake = 0; overloaded = 0 }
one_sound d z = ap (λ (d : Statement). record { number = d.number; sound = 1; faulted = d.faulted; intake = d.intake; overloaded = d.overloaded }) (no_figures d z)

-- an empty sheet is sound and has no rows
pub returns-then-is_empty : goal.returns-then-is_empty
unfolding placed_if placed sound says_sound first_fault wells wells_from cut statement_of count page rows intakes spares sum pick
returns-then-is_empty c =
    let a = c.args in
    let none : a.records.now ≡ [] = nil_from_length _ (search rules) in
    let intake : a.intake.now ≡ [] = nil_from_length _ (c.requires.1 ∙ rw none refl) in
    let spare : a.spare.now ≡ [] = nil_from_length _ (c.requires.2 ∙ rw none refl) in
    rw (none, intake, spare) ((one_sound c.default.result c.default.ensures, refl, refl), refl)

pub sound_sheet-requires : goal.sound_sheet-requires
sound_sheet-requires c =
    let intake : c.fill.new.self ≡ replicate (count_of c.args.records.now) 0 = search rules in
    let spare : c.fill-2.new.self ≡ replicate (count_of c.args.records.now) (pos 0) = search rules in
    let e = sym (c.says_sound.ensures ∙ says _ _ _ c.requires.0 (omega arith) c.check.ensures) ∙ c.if-says_sound.true in
    (c.requires.0, e, intake, ap length spare ∙ length-replicate (count_of c.args.records.now) (pos 0))

pub returns-then-says_sound : goal.returns-then-says_sound
unfolding placed_if
returns-then-says_sound c =
    let e = c.sound_sheet.ensures in
    (e.0, rw (sym (c.says_sound.ensures ∙ says _ _ _ c.requires.0 (omega arith) c.check.ensures) ∙ c.if-says_sound.true) e.1)

pub returns : goal.returns
unfolding placed_if
returns c =
    let a = c.args in
    let ws = wells (count_of a.records.now) a.records.now in
    let f : sound ws ≡ false = sym (c.says_sound.ensures ∙ says _ _ _ c.requires.0 (omega arith) c.check.ensures) ∙ c.if-says_sound.false in
    let long = length-wells (count_of a.records.now) a.records.now in
    let intake : c.fill.new.self ≡ replicate (count_of a.records.now) 0 = search rules in
    let spare : c.fill-2.new.self ≡ replicate (count_of a.records.now) (pos 0) = search rules in
    ((ap (λ (d : Statement). record { number = d.number; sound = d.sound; faulted = 1; intake = d.intake; overloaded = d.overloaded }) (no_figures c.default-2.result c.default-2.ensures) ∙ faulted-alone ws f, intake ∙ rw (faulted-intakes ws f, long), spare ∙ rw (faulted-spares ws f, long)), rw f)

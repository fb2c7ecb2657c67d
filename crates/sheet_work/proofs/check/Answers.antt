-- `sheet_work::check` meets its contract: the claim against the digest that the work leaves in front of a buffer.
-- Assumes nothing.
use mathlib.Core.Path.{◌≡◌, ◌∙◌}
use lib.Seq.{take-length}
use lib.Dec.{eqb}
use Rattle.std.specs.List.{starts_with}
use native.Mathlib.Nat.{zero-add}
use native.Mathlib.Omega.{arith}
use Rattle.definition.specs.Luffa.{bytes_at}
use Rattle.definition.specs.Refusal.{pick, first_of, when_done}
use Rattle.definition.proofs.Codes.{words_le}
use Rattle.sheet_definition.specs.Sheet.{World, q}
use Rattle.sheet_definition.specs.Save.{checked, stale_claim}
use Rattle.sheet_definition.proofs.Writes.{check_leaves}
use Rattle.sheet_work.specs.Admission.{admission}
use Rattle.sheet_work.proofs.Claims.{others}
use Rattle.sheet_work.proofs.check.Goals as goal

pub work_on-rounds-requires : goal.work_on-rounds-requires
unfolding q bytes_at
work_on-rounds-requires c =
    (c.requires.0, c.requires.1, c.requires.2, omega arith, omega arith, omega (arith, words_le c.args.code))

pub returns-then-starts_with : goal.returns-then-starts_with
unfolding admission when_done first_of pick checked stale_claim q
returns-then-starts_with c =
    let a = c.args in
    let w : World = record { code = a.code; n = a.n; sheet = a.sheet.now; marks = a.marks.now } in
    let e = c.work_on-rounds.ensures in
    let begins : c.starts_with.result ≡ starts_with eqb c.work_on-rounds.new.out a.claim.now = grind (arith, take-length a.claim.now, c.starts_with.ensures.value) in
    let d = others a.code a.n _ a.sheet.now a.marks.now a.claim.now _ _ c.requires.3 e.out_after begins in record {
      value = rw (d, c.if-starts_with.true, e.value, zero-add (checked w).rounds);
      marks_unchanged = e.marks_after ∙ check_leaves a.code a.n a.sheet.now a.marks.now;
    }

pub returns : goal.returns
unfolding admission when_done first_of pick checked stale_claim q
returns c =
    let a = c.args in
    let w : World = record { code = a.code; n = a.n; sheet = a.sheet.now; marks = a.marks.now } in
    let e = c.work_on-rounds.ensures in
    let begins : c.starts_with.result ≡ starts_with eqb c.work_on-rounds.new.out a.claim.now = grind (arith, take-length a.claim.now, c.starts_with.ensures.value) in
    let d = others a.code a.n _ a.sheet.now a.marks.now a.claim.now _ _ c.requires.3 e.out_after begins in record {
      value = rw (d, c.if-starts_with.false, e.value, zero-add (checked w).rounds);
      marks_unchanged = e.marks_after ∙ check_leaves a.code a.n a.sheet.now a.marks.now;
    }

-- A planner at another desk is told a group: the hypotheses can be met, with marks that are true to two sheets of four records that differ.
-- Assumes nothing.
use mathlib.Core.Path.{◌≡◌, refl, sym, ap, ◌∙◌}
use mathlib.Core.Bool.{false, false≢true}
use mathlib.Core.List.{List}
use Prim.Native.Nat.{ℕ}
use native.Mathlib.Omega.{arith}
use lib.ListN.{take, drop, replicate}
use Rattle.definition.specs.Buffer.{same}
use Rattle.sheet_definition.specs.Sheet.{World, group_bytes, cut}
use Rattle.sheet_definition.specs.Own.{used}
use Rattle.sheet_definition.specs.SheetCalls.{build_outcome}
use Rattle.sheet_definition.specs.Run.{left}
use Rattle.sheet_definition.specs.Said.{Stands}
use Rattle.sheet_definition.proofs.Computed.{everything}
use Rattle.sheet_definition.proofs.Writes.{same_refl}
use Rattle.sheet_definition.proofs.Build.{build_laid}
use Rattle.sheet_definition.proofs.Demand3.{stands_laid}
use Rattle.sheet_definition.proofs.Compared.{group-differs}
use Rattle.sheet_definition.proofs.Instances.{blank}

-- four records of such bytes, built
abbrev pub four_of : (byte : ℕ) → World
four_of byte = left 2 (build_outcome 2 (replicate 160 byte) 4 (replicate 80 0) blank)

built : (byte : ℕ) → (build_outcome 2 (replicate 160 byte) 4 (replicate 80 0) blank).answer.number ≡ 0
unfolding everything
built byte = refl

stands : (byte : ℕ) → Stands (four_of byte) (cut 4 (replicate 160 byte))
unfolding everything
stands byte = stands_laid (four_of byte) (build_laid 2 (replicate 160 byte) 4 (replicate 80 0) blank (built byte))

-- their marks 1 differ, as is computed
marks-differ : same (used 2 (four_of 0).marks 1) (used 2 (four_of 1).marks 1) ≡ false
unfolding everything used
marks-differ = refl

pub records-differ : take group_bytes (drop 0 (four_of 0).sheet) ≡ take group_bytes (drop 0 (four_of 1).sheet) → ⊥
unfolding everything
records-differ =
    group-differs (four_of 0) (four_of 1) 0 refl (stands 0).marks_true (stands 1).marks_true (stands 0).sheet-room (stands 1).sheet-room (omega arith) (omega arith)
    (λ m a b. absurd (omega arith)) (λ e. false≢true (sym marks-differ ∙ ap (λ (l : List ℕ). same l (used 2 (four_of 1).marks 1)) e ∙ same_refl (used 2 (four_of 1).marks 1)))

-- The hypotheses of mending's theorems can be met: a sheet of three records whose mark was spoiled is mended, a planner saves, and a second mend finds
-- none wrong; and one whose mark is true has a word set in an unused block.
-- Assumes nothing.
use mathlib.Core.Path.{◌≡◌, refl}
use mathlib.Core.List.{List, [], ◌∷◌}
use Prim.Native.Nat.{ℕ, zero, suc}
use native.Mathlib.Omega.{arith}
use lib.ListN.{replicate, set}
use Rattle.definition.specs.Luffa.{words_at, bytes_at, luffa}
use Rattle.definition.specs.Buffer.{joined}
use Rattle.definition.specs.Refusal.{first_of}
use Rattle.sheet_definition.specs.Sheet.{World, cut}
use Rattle.sheet_definition.specs.Marks.{TrueMark, TrueMarks}
use Rattle.sheet_definition.specs.SheetCalls.{build_outcome, Call, save_of, call, changing, lent}
use Rattle.sheet_definition.specs.Run.{run, records}
use Rattle.sheet_definition.specs.Said.{Stands}
use Rattle.mend_definition.specs.Mend.{saying, mend}
use Rattle.mend_definition.specs.Said.{Says, opening_number, opened}
use Rattle.mend_definition.specs.Said.Opening.{Build, Mend}
use Rattle.mend_definition.proofs.Computed.{everything}
use Rattle.mend_definition.proofs.Outcomes.{says_of_build}
use Rattle.mend_definition.proofs.Opened.{demand3_opened, none_after_run, stands-mended}

abbrev pub blank : List ℕ
blank = replicate 32 0

abbrev pub zeros : List ℕ
zeros = replicate 40 0

-- a sheet of three records of zeros at code 2, with a mark of sevens
abbrev pub spoiled : World
spoiled = lent 2 (replicate 120 0) 3 (replicate 40 7)

-- it is mended, and a build of it is accepted too: mend-laid, mend-rounds, opened-laid, demand3-opened
pub mend-accepted : opening_number spoiled Mend ≡ 0
unfolding everything
mend-accepted = refl

pub build-accepted : opening_number spoiled (Build blank) ≡ 0
unfolding everything
build-accepted = refl

-- there is room for a digest of it: number-as-build, mend-as-build, says-of-build
pub said_of_it : Says spoiled (build_outcome 2 (replicate 120 0) 3 (replicate 40 7) blank).marks (mend spoiled).answer
unfolding opening_number bytes_at words_at
said_of_it = says_of_build spoiled blank (omega arith) mend-accepted

-- a planner who opens it so saves with the digest of the sheet, and it is taken
abbrev pub saved : Call
saved = changing 1 (replicate 40 1) (luffa 2 (joined (zeros ∷ zeros ∷ zeros ∷ []))) blank

valid : first_of (save_of (opened spoiled Mend) saved).refusals ≡ 0
unfolding everything
valid = refl

pub taken : (call (opened spoiled Mend) saved).answer.number ≡ 0
unfolding run records cut opened
taken = (demand3_opened spoiled Mend mend-accepted [] saved).accepted.1 (valid, refl)

-- the marks after it are those of a build, so that a mend finds none wrong: none-after-run
pub none_wrong : (mend (run (opened spoiled Mend) (saved ∷ []))).answer.wrong ≡ 0
unfolding saying
none_wrong = rw (none_after_run spoiled Mend mend-accepted (saved ∷ []))

-- a mark that is true, with a word set in an unused block: stands-mended
abbrev pub unused : World
unused = lent 2 (replicate 120 0) 3 (set (opened spoiled Mend).marks 24 1)

unused_true : TrueMarks unused
unfolding everything TrueMarks TrueMark
unused_true zero h = refl
unused_true (suc m) h = absurd (omega arith)

unused-stands : Stands unused (zeros ∷ zeros ∷ zeros ∷ [])
unfolding everything joined
unused-stands =
    record {
      sized = (refl, (refl, (refl, tt)));
      counted = refl;
      holds = refl;
      marks_true = unused_true;
      count = omega arith;
      sheet-room = omega arith;
      marks-room = omega arith;
    }

unused-accepted : (mend unused).answer.number ≡ 0
unfolding everything
unused-accepted = refl

pub unused-mended : Stands (opened unused Mend) (zeros ∷ zeros ∷ zeros ∷ [])
unused-mended = stands-mended unused (zeros ∷ zeros ∷ zeros ∷ []) unused-stands unused-accepted

-- A refusal's number is that of documents 01 and 02: the variants stand in their order, from 1 on.
-- Assumes nothing.
use mathlib.Core.Path.{◌≡◌, refl}
use Prim.Native.Nat.{◌+◌}
use denote.Enum.Declared.{tag_of}
use Rattle.refusals.specs.declared.Refusal.{Refusal}
use Rattle.refusals.specs.declared.Refusal.TheVariants.{Width, Out, Record, Long, Sheet, Marks, Place, Full, Size, Claim, Stale, Words, Batch, Set, Own, StaleTail, Odd, Back, Hops, Unsound, Well, Reach, Places, Columns, Lists}
use Rattle.refusals.specs.contracts.Refusal.{the_type}
use Rattle.refusals.specs.Number.{number}
use Rattle.refusals.proofs.U32FromRefusal.from.Goals as goal

numbered : (r : Refusal) → tag_of the_type r + 1 ≡ number r
numbered Width = refl
numbered Out = refl
numbered Record = refl
numbered Long = refl
numbered Sheet = refl
numbered Marks = refl
numbered Place = refl
numbered Full = refl
numbered Size = refl
numbered Claim = refl
numbered Stale = refl
numbered Words = refl
numbered Batch = refl
numbered Set = refl
numbered Own = refl
numbered StaleTail = refl
numbered Odd = refl
numbered Back = refl
numbered Hops = refl
numbered Unsound = refl
numbered Well = refl
numbered Reach = refl
numbered Places = refl
numbered Columns = refl
numbered Lists = refl

pub returns : goal.returns
returns c = numbered c.args.r

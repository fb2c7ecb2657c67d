-- A rule's number is this paper's: the variants stand in the request's order, from 1 on.
-- Assumes nothing.
use mathlib.Core.Path.{◌≡◌, refl}
use Prim.Native.Nat.{◌+◌}
use denote.Enum.Declared.{tag_of}
use Rattle.plan_definition.specs.declared.Rule.{Rule}
use Rattle.plan_definition.specs.declared.Rule.TheVariants.{Number, Kind, LinkCount, Rate, Links, Shares, UnusedLinks, Repeat}
use Rattle.plan_definition.specs.contracts.Rule.{the_type}
use Rattle.plan_definition.specs.Rules.{rule_number}
use Rattle.plan_definition.proofs.U64FromRule.from.Goals as goal

numbered : (r : Rule) → tag_of the_type r + 1 ≡ rule_number r
numbered Number = refl
numbered Kind = refl
numbered LinkCount = refl
numbered Rate = refl
numbered Links = refl
numbered Shares = refl
numbered UnusedLinks = refl
numbered Repeat = refl

pub returns : goal.returns
returns c = numbered c.args.rule

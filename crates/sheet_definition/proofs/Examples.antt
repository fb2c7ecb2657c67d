-- Document 01's "Examples at the edges" that are marked [P], as one table under one theorem.
-- Assumes nothing.
use Prim.Native.Nat.{ℕ}
use mathlib.Core.Path.{◌≡◌, refl, ◌∙◌}
use mathlib.Core.List.{List}
use native.Mathlib.Nat.{zero-lt-suc}
use lib.ListN.{length, take, get_or, replicate}
use Rattle.definition.specs.declared.Pair.{Pair}
use Rattle.definition.specs.declared.Width.TheVariants.{W3}
use Rattle.sheet_definition.specs.declared.Answer.{Answer}
use Rattle.definition.specs.SubCrumb.{S}
use Rattle.definition.specs.Field.{double}
use Rattle.definition.specs.MixWord.{mix_word}
use Rattle.definition.specs.Constant.{constants}
use Rattle.definition.specs.Round.{chain}
use Rattle.definition.specs.Padding.{closing, padded, blocks}
use Rattle.definition.specs.Refusal.{first_of, PLACE}
use Rattle.sheet_definition.specs.Sheet.{World, group_bytes, mark_words}
use Rattle.sheet_definition.specs.Refusals.{change_refusals}
use Rattle.sheet_definition.specs.Marks.{mark_at, state_from, mark_of}
use Rattle.sheet_definition.specs.Save.{save_rounds}
use Rattle.sheet_definition.specs.SheetCalls.{Call, save_of, call, changing, change_outcome, append_outcome, drop_outcome, build_outcome, plain}
use Rattle.sheet_definition.specs.SheetCalls.Kind.{Append, Drop}
use Rattle.sheet_definition.proofs.Computed.{everything}
use Rattle.sheet_definition.proofs.Saves.{save-rounds}
use Rattle.sheet_definition.proofs.Edits.{proper}
use Rattle.sheet_definition.proofs.Build.{build-rounds}
use Rattle.sheet_definition.proofs.Sentences.{append-mark, append_others, drop-mark}

-- the pair of no constants, where a list has no entry
abbrev pub no_pair : Pair
no_pair = record { left = 0; right = 0 }

-- the padded blocks of a message of n bytes
abbrev pub blocks_for : ℕ → ℕ
blocks_for n = length (blocks (padded closing (replicate n 0)))

-- a call that is done took so many rounds
abbrev pub Takes : Answer → (rounds : ℕ) → Type 0
Takes a rounds = a.number ≡ 0 → a.rounds ≡ rounds

-- a change at a place of five records at code 2, with all buffers as they should be
abbrev pub change_of_five : (place : ℕ) → ℕ
change_of_five place = first_of (change_refusals (record { code = 2; n = 5; sheet_length = 200; marks_length = 80; out_length = 32 }) place 40 32)

pub record Table : Type 0 where
  pub s_0 : S 0 ≡ 13
  pub s-15 : S 15 ≡ 4
  pub doubling : double (record { a0 = 0; a1 = 0; a2 = 0; a3 = 0; a4 = 0; a5 = 0; a6 = 0; a7 = 1 })
      ≡ record { a0 = 1; a1 = 1; a2 = 0; a3 = 1; a4 = 1; a5 = 0; a6 = 0; a7 = 0 }
  pub mixing : mix_word 1 0 ≡ record { left = 0x00005405; right = 0x0000800a }
  pub constants_0_0 : get_or (constants 0) 0 no_pair ≡ record { left = 0x303994a6; right = 0xe0337818 }
  pub constant_1_5_4 : (get_or (constants 1) 5 no_pair).right ≡ 0xfaa7ae2b
  pub blocks_0 : blocks_for 0 ≡ 1
  pub blocks_31 : blocks_for 31 ≡ 1
  pub blocks_32 : blocks_for 32 ≡ 2
  pub build_0 : (sheet marks out : List ℕ) → Takes (build_outcome 2 sheet 0 marks out).answer 2
  pub build-1 : (sheet marks out : List ℕ) → Takes (build_outcome 2 sheet 1 marks out).answer 3
  pub build-4 : (sheet marks out : List ℕ) → Takes (build_outcome 2 sheet 4 marks out).answer 7
  pub build_1024 : (sheet marks out : List ℕ) → Takes (build_outcome 4 sheet 1024 marks out).answer 1283
  pub change_5_4 : (sheet marks x claim out : List ℕ) → Takes (change_outcome 2 sheet 5 marks 4 x claim out).answer 6
  pub change_5_0 : (sheet marks x claim out : List ℕ) → Takes (change_outcome 2 sheet 5 marks 0 x claim out).answer 11
  pub change_5_5 : change_of_five 5 ≡ PLACE
  pub change_1024_0 : (sheet marks x claim out : List ℕ) → Takes (change_outcome 4 sheet 1024 marks 0 x claim out).answer 1286
  pub change_1024_1023 : (sheet marks x claim out : List ℕ) → Takes (change_outcome 4 sheet 1024 marks 1023 x claim out).answer 11
  pub append-3 : (sheet marks x claim out : List ℕ) → Takes (append_outcome 2 sheet 3 marks x claim out).answer 12
  -- mark 1 is written, from the state that mark 0 holds, and no other
  pub append_3_mark : (sheet marks x claim out : List ℕ) → (append_outcome 2 sheet 3 marks x claim out).answer.number ≡ 0
      → mark_at (append_outcome 2 sheet 3 marks x claim out).marks 1
      ≡ mark_of (chain W3 (state_from W3 (mark_at marks 0)) (blocks (take group_bytes (append_outcome 2 sheet 3 marks x claim out).sheet)))
  pub append_3_others : (sheet marks x claim out : List ℕ) → (append_outcome 2 sheet 3 marks x claim out).answer.number ≡ 0
      → (m : ℕ) → (m ≡ 1 → ⊥) → mark_at (append_outcome 2 sheet 3 marks x claim out).marks m ≡ mark_at marks m
  pub drop-4 : (sheet marks claim out : List ℕ) → Takes (drop_outcome 2 sheet 4 marks claim out).answer 7
  pub drop_4_mark : (sheet marks claim out : List ℕ) → (drop_outcome 2 sheet 4 marks claim out).answer.number ≡ 0
      → mark_at (drop_outcome 2 sheet 4 marks claim out).marks 1 ≡ replicate mark_words 0

abbrev pub at : (code n : ℕ) → (sheet marks : List ℕ) → World
at code n sheet marks = record { code = code; n = n; sheet = sheet; marks = marks }

-- a save's rounds, computed
pub takes : (w : World) (c : Call) (k : ℕ) → save_rounds w (save_of w c).edit ≡ k → Takes (call w c).answer k
unfolding call
takes w c k h e = (save-rounds w (save_of w c) (proper w c)).when_done_lem e ∙ h

pub examples : Table
unfolding everything
examples =
    record {
      s_0 = refl;
      s-15 = refl;
      doubling = refl;
      mixing = refl;
      constants_0_0 = refl;
      constant_1_5_4 = refl;
      blocks_0 = refl;
      blocks_31 = refl;
      blocks_32 = refl;
      build_0 = λ s m o. (build-rounds 2 s 0 m o).when_done_lem;
      build-1 = λ s m o. (build-rounds 2 s 1 m o).when_done_lem;
      build-4 = λ s m o. (build-rounds 2 s 4 m o).when_done_lem;
      build_1024 = λ s m o. (build-rounds 4 s 1024 m o).when_done_lem;
      change_5_4 = λ s m x c o. takes (at 2 5 s m) (changing 4 x c o) 6 refl;
      change_5_0 = λ s m x c o. takes (at 2 5 s m) (changing 0 x c o) 11 refl;
      change_5_5 = refl;
      change_1024_0 = λ s m x c o. takes (at 4 1024 s m) (changing 0 x c o) 1286 refl;
      change_1024_1023 = λ s m x c o. takes (at 4 1024 s m) (changing 1023 x c o) 11 refl;
      append-3 = λ s m x c o. takes (at 2 3 s m) (plain (Append x) c o) 12 refl;
      append_3_mark = λ s m x c o e. append-mark (at 2 3 s m) x c o e refl;
      append_3_others = λ s m x c o e k h. append_others (at 2 3 s m) x c o e k (λ p. h p.1);
      drop-4 = λ s m c o. takes (at 2 4 s m) (plain Drop c o) 7 refl;
      drop_4_mark = λ s m c o e. drop-mark (at 2 4 s m) c o e (zero-lt-suc 3) refl;
    }

-- The marks of a sheet, and the work from a mark to the end of the sheet: document 01, "Sheet and marks".
use Rattle.std.specs.Prelude.{◌≡◌, ℕ, zero, suc, ◌+◌, ◌-◌, ◌*◌, ◌≤◌, List, [], ◌∷◌, ◌++◌, length, take, drop}
use Rattle.definition.specs.declared.Block.{Block}
use Rattle.definition.specs.declared.Width.{Width}
use Rattle.definition.specs.Round.{chain}
use Rattle.definition.specs.Padding.{closing, padded, blocks}
use Rattle.definition.specs.Width.{block_count, width_at}
use Rattle.definition.specs.Start.{start}
use Rattle.definition.specs.Final.{final_rounds}
use Rattle.definition.specs.State.{five, state_of}
use Rattle.definition.specs.Luffa.{words_at, digest_after}
use Rattle.definition.specs.Buffer.{overwrite_at}
use Rattle.definition.specs.Block.{block_from, words_of_all}
use Rattle.sheet_definition.specs.Sheet.{World, record_bytes, group_bytes, mark_words, q}

-- the bytes of n records
unfoldable pub held : (n : ℕ) → List ℕ → List ℕ
held n sheet = take (record_bytes * n) sheet

-- the words of mark m
unfoldable pub mark_at : List ℕ → ℕ → List ℕ
mark_at marks m = take mark_words (drop (mark_words * m) marks)

-- the state that a mark holds: its first w blocks; the words of unused blocks are not read
unfoldable pub state_from : Width → List ℕ → List Block
state_from w ws =
    take (block_count w)
    (block_from ws
    ∷ block_from (drop 8 ws)
    ∷ block_from (drop 16 ws)
    ∷ block_from (drop 24 ws)
    ∷ block_from (drop 32 ws)
    ∷ [])

-- the words of a mark that holds a state: unused blocks are zero
unfoldable pub mark_of : List Block → List ℕ
mark_of h = words_of_all (five (state_of h))

-- the words of the marks after the next k groups of x, from state h
unfoldable pub marks_after : Width → (k : ℕ) → List Block → List ℕ → List ℕ
marks_after w zero h x = []
marks_after w (suc k) h x =
    let h' : List Block = chain w h (blocks (take group_bytes x)) in
    mark_of h' ++ marks_after w k h' (drop group_bytes x)

-- the rounds that are run for the digest of a message whose last bytes are x: one for each block of the padded bytes, and the final stage's
unfoldable pub rounds_after : (code : ℕ) → List ℕ → ℕ
rounds_after code x = length (blocks (padded closing x)) + final_rounds (words_at code)

-- what working on from mark m to the end of n records leaves: the marks after m rewritten, the digest, and the rounds
pub record Worked : Type 0 where
  pub marks : List ℕ
  pub digest : List ℕ
  pub rounds : ℕ

unfoldable pub worked : (code n : ℕ) → (sheet marks : List ℕ) → (m : ℕ) → Worked
worked code n sheet marks m =
    let w : Width = width_at code in
    let h : List Block = state_from w (mark_at marks m) in
    let x : List ℕ = drop (group_bytes * m) (held n sheet) in
    record {
      marks = overwrite_at (mark_words * (m + 1)) (marks_after w (q n - m) h x) marks;
      digest = digest_after code h x;
      rounds = rounds_after code x;
    }

-- "Mark m is 40 words: the state after the first 5m blocks"
unfoldable pub state_after : (code : ℕ) → (sheet : List ℕ) → (m : ℕ) → List Block
state_after code sheet m = chain (width_at code) (start (width_at code)) (blocks (take (group_bytes * m) sheet))

-- "Marks are true when each holds that state.": marks 0 to q; what else stands in a mark is not read
unfoldable pub TrueMark : (code : ℕ) → (sheet marks : List ℕ) → (m : ℕ) → Type 0
TrueMark code sheet marks m = state_from (width_at code) (mark_at marks m) ≡ state_after code sheet m

unfoldable pub TrueMarks : World → Type 0
TrueMarks w = (m : ℕ) → m ≤ q w.n → TrueMark w.code w.sheet w.marks m

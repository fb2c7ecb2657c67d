-- Work from a true mark gives the digest of the whole sheet, in document 01's rounds, and leaves true marks.
-- Assumes nothing.
use mathlib.Core.Path.{◌≡◌, refl, sym, ap, ◌∙◌}
use mathlib.Core.List.{List, ◌++◌, append_assoc}
use Prim.Native.Nat.{ℕ, zero, suc, ◌+◌, ◌-◌, ◌*◌, ◌/◌, ◌%◌, ◌<◌, ◌≤◌}
use native.Mathlib.Nat.{le_refl}
use native.Mathlib.Decide.{dec_le}
use native.Mathlib.Omega.{arith}
use lib.ListN.{length, take, drop, length-append, length-drop, take-append-drop}
use lib.Seq.{length-take-le, take-take, drop-append-add, take_at, take-add}
use Rattle.definition.specs.declared.Block.{Block}
use Rattle.definition.specs.declared.State.{State}
use Rattle.definition.specs.declared.Width.{Width}
use Rattle.definition.specs.declared.Width.TheVariants.{W3, W4, W5}
use Rattle.definition.specs.Block.{words_of, words_of_all, block_from}
use Rattle.definition.specs.Round.{chain}
use Rattle.definition.specs.Padding.{closing, padding, padded, blocks_to, blocks}
use Rattle.definition.specs.Width.{block_count, width_at}
use Rattle.definition.specs.Start.{start}
use Rattle.definition.specs.State.{five, blocks_in, state_of}
use Rattle.definition.specs.Buffer.{overwrite_at}
use Rattle.definition.specs.Luffa.{digest_after, luffa}
use Rattle.sheet_definition.specs.Sheet.{record_bytes, group_bytes, mark_words, q, N, F, rounds_from}
use Rattle.sheet_definition.specs.Marks.{held, mark_at, state_from, mark_of, marks_after, rounds_after, worked, state_after, TrueMark, TrueMarks}
use Rattle.definition.proofs.Chain.{chain-append, blocks_of_state, length-chain, length-start}
use Rattle.definition.proofs.Padding.{blocks-append, length-padding}
use Rattle.definition.proofs.BitStrings.{digest-bytes, luffa-bytes}
use Rattle.sheet_definition.proofs.Writes.{marks-kept, rewritten}

-- padding after whole blocks
pub padded-append : (n last : ℕ) (y x : List ℕ) → length y ≡ n * 32 → padded last (y ++ x) ≡ y ++ padded last x
unfolding padded padding
padded-append n last y x e =
    let m : length (y ++ x) % 32 ≡ length x % 32 = omega (arith, length-append y x) in
    rw m (append_assoc y x _)

-- whole blocks of a string, and then blocks of what follows them
pub chain_parts : (w : Width) (h : List Block) (k n : ℕ) (x : List ℕ) → group_bytes * k ≤ length x
    → chain w (chain w h (blocks (take (group_bytes * k) x))) (blocks (take n (drop (group_bytes * k) x))) ≡ chain w h (blocks (take (group_bytes * k + n) x))
chain_parts w h k n x l =
    let e : length (take (group_bytes * k) x) ≡ 5 * k * 32 = length-take-le (group_bytes * k) x l ∙ omega arith in
    rw (take-add (group_bytes * k) n x, blocks-append (5 * k) (take (group_bytes * k) x) (take n (drop (group_bytes * k) x)) e, chain-append)

-- the digest after some groups, from the state before them
pub digest_parts : (code k : ℕ) (h : List Block) (x : List ℕ) → group_bytes * k ≤ length x
    → digest_after code (chain (width_at code) h (blocks (take (group_bytes * k) x))) (drop (group_bytes * k) x) ≡ digest_after code h x
digest_parts code k h x l =
    let y : List ℕ = take (group_bytes * k) x in
    let z : List ℕ = drop (group_bytes * k) x in
    let e : length y ≡ 5 * k * 32 = length-take-le (group_bytes * k) x l ∙ omega arith in
    let b : blocks (padded closing x) ≡ blocks y ++ blocks (padded closing z) =
    ap (λ (t : List ℕ). blocks (padded closing t)) (sym (take-append-drop (group_bytes * k) x))
    ∙ rw (padded-append (5 * k) closing y z e, blocks-append (5 * k) y (padded closing z) e) in
    rw (digest-bytes code _ z, digest-bytes code h x, b, chain-append)

-- the digest worked from a true mark is Luffa of the whole sheet
pub digest_from_mark : (code n m : ℕ) (sheet marks : List ℕ) → TrueMark code sheet marks m → m ≤ q n → record_bytes * n ≤ length sheet
    → (worked code n sheet marks m).digest ≡ luffa code (held n sheet)
unfolding worked TrueMark state_after held q
digest_from_mark code n m sheet marks t h l =
    let x : List ℕ = take (record_bytes * n) sheet in
    rw (t, ← take-take (group_bytes * m) (record_bytes * n) sheet (omega arith))
    (digest_parts code m (start (width_at code)) x (omega (arith, length-take-le (record_bytes * n) sheet l))
    ∙ digest-bytes code (start (width_at code)) x
    ∙ sym (luffa-bytes code x))

-- the number of blocks of a padded string
pub length-blocks_to : (n : ℕ) (x : List ℕ) → length (blocks_to n x) ≡ n
unfolding blocks_to
length-blocks_to zero x = refl
length-blocks_to (suc n) x = ap suc (length-blocks_to n (drop 32 x))

pub padded-blocks : (last : ℕ) (x : List ℕ) → length (blocks (padded last x)) ≡ length x / 32 + 1
unfolding blocks padded
padded-blocks last x =
    let p : List ℕ = padding last (length x) in
    omega (arith, length-blocks_to (length (x ++ p) / 32) (x ++ p), length-append x p, length-padding last (length x))

-- the rounds worked from mark m are document 01's
pub rounds_from_mark : (code n m : ℕ) (sheet marks : List ℕ) → m ≤ q n → record_bytes * n ≤ length sheet
    → (worked code n sheet marks m).rounds ≡ rounds_from code n m
unfolding worked rounds_after rounds_from held q N F
rounds_from_mark code n m sheet marks h l =
    let x : List ℕ = drop (group_bytes * m) (take (record_bytes * n) sheet) in
    omega (
      arith,
      padded-blocks closing x,
      length-drop (group_bytes * m) (take (record_bytes * n) sheet),
      length-take-le (record_bytes * n) sheet l,
    )

-- a mark's state is that of its used blocks
pub length-state : (w : Width) (ws : List ℕ) → length (state_from w ws) ≡ block_count w
unfolding state_from block_count
length-state W3 ws = refl
length-state W4 ws = refl
length-state W5 ws = refl

-- five blocks as words, read again
read : (w : Width) (s : State) → state_from w (words_of_all (five s)) ≡ blocks_in w s
unfolding state_from block_from words_of_all words_of five blocks_in block_count
read W3 s = refl
read W4 s = refl
read W5 s = refl

-- a mark holds the state that it was written from
pub state_of_mark : (w : Width) (h : List Block) → length h ≡ block_count w → state_from w (mark_of h) ≡ h
unfolding mark_of
state_of_mark w h e = read w (state_of h) ∙ blocks_of_state w h e

pub length-mark : (h : List Block) → length (mark_of h) ≡ mark_words
unfolding mark_of words_of_all five words_of
length-mark h = refl

-- a mark after the place that was written from is what was written there
mark-after : (m j : ℕ) (p l : List ℕ) → mark_words * (m + 1) ≤ length l
    → mark_at (overwrite_at (mark_words * (m + 1)) p l) (m + 1 + j) ≡ mark_at (p ++ drop (mark_words * (m + 1) + length p) l) j
unfolding mark_at overwrite_at
mark-after m j p l h =
    let i : ℕ = mark_words * (m + 1) in
    let e : mark_words * (m + 1 + j) ≡ length (take i l) + mark_words * j = omega (arith, length-take-le i l h) in
    rw (e, append_assoc (take i l) p (drop (i + length p) l), drop-append-add (take i l) (p ++ drop (i + length p) l) (mark_words * j))

-- the marks written on the way hold the states after each group
marks_hold : (w : Width) (k j : ℕ) (h : List Block) (x r : List ℕ) → j < k → group_bytes * k ≤ length x
    → mark_at (marks_after w k h x ++ r) j ≡ mark_of (chain w h (blocks (take (group_bytes * (j + 1)) x)))
unfolding marks_after mark_at
marks_hold w zero j h x r e l = absurd (omega arith)
marks_hold w (suc k) zero h x r e l =
    let h' : List Block = chain w h (blocks (take group_bytes x)) in
    rw (append_assoc (mark_of h') (marks_after w k h' (drop group_bytes x)) r) (take_at (mark_of h') _ mark_words (length-mark h'))
marks_hold w (suc k) (suc j) h x r e l =
    let h' : List Block = chain w h (blocks (take group_bytes x)) in
    let ws : List ℕ = marks_after w k h' (drop group_bytes x) in
    let d : mark_words * suc j ≡ length (mark_of h') + mark_words * j = omega (arith, length-mark h') in
    let f : group_bytes * (suc j + 1) ≡ group_bytes + group_bytes * (j + 1) = omega arith in
    rw (append_assoc (mark_of h') ws r, d, drop-append-add (mark_of h') (ws ++ r) (mark_words * j), f, ← chain_parts w h 1 (group_bytes * (j + 1)) x (omega arith))
    (marks_hold w k j h' (drop group_bytes x) r (omega arith) (omega (arith, length-drop group_bytes x)))

-- work from a mark, true or false, writes the states after each later group from the state that it holds
pub mark-worked : (code n m k : ℕ) (sheet marks : List ℕ) → m < k → k ≤ q n → record_bytes * n ≤ length sheet → mark_words * (q n + 1) ≤ length marks
    → mark_at (worked code n sheet marks m).marks k
    ≡ mark_of (chain (width_at code) (state_from (width_at code) (mark_at marks m)) (blocks (take (group_bytes * (k - m)) (drop (group_bytes * m) (held n sheet)))))
unfolding worked held q
mark-worked code n m k sheet marks h e l r =
    let w : Width = width_at code in
    let j : ℕ = k - m - 1 in
    let x : List ℕ = take (record_bytes * n) sheet in
    let s : List Block = state_from w (mark_at marks m) in
    let a : k ≡ m + 1 + j = omega arith in
    let b : group_bytes * (j + 1) ≡ group_bytes * (k - m) = omega arith in
    ap (mark_at _) a
    ∙ mark-after m j (marks_after w (n / 4 - m) s (drop (group_bytes * m) x)) marks (omega arith)
    ∙ marks_hold w (n / 4 - m) j s (drop (group_bytes * m) x) _ (omega arith) (omega (arith, length-drop (group_bytes * m) x, length-take-le (record_bytes * n) sheet l))
    ∙ rw b

-- from a true one, the state after each later group of the sheet, unused blocks zero
pub mark-written : (code n m k : ℕ) (sheet marks : List ℕ) → TrueMark code sheet marks m → m < k → k ≤ q n → record_bytes * n ≤ length sheet
    → mark_words * (q n + 1) ≤ length marks
    → mark_at (worked code n sheet marks m).marks k ≡ mark_of (state_after code sheet k)
unfolding TrueMark state_after held q
mark-written code n m k sheet marks t h e l r =
    let w : Width = width_at code in
    let x : List ℕ = take (record_bytes * n) sheet in
    let b : group_bytes * m + group_bytes * (k - m) ≡ group_bytes * k = omega arith in
    mark-worked code n m k sheet marks h e l r
    ∙ ap mark_of
    (rw (
      t,
      ← take-take (group_bytes * m) (record_bytes * n) sheet (omega arith),
      chain_parts w (start w) m (group_bytes * (k - m)) x (omega (arith, length-take-le (record_bytes * n) sheet l)),
      b,
      take-take (group_bytes * k) (record_bytes * n) sheet (omega arith),
    ))

-- after work from a mark, with the marks up to it true, all marks of the sheet are true
pub marks_after_work : (code n m : ℕ) (sheet marks : List ℕ)
    → ((k : ℕ) → k ≤ m → TrueMark code sheet marks k)
    → m ≤ q n → record_bytes * n ≤ length sheet → mark_words * (q n + 1) ≤ length marks
    → TrueMarks (record { code = code; n = n; sheet = sheet; marks = (worked code n sheet marks m).marks })
unfolding TrueMarks TrueMark state_after
marks_after_work code n m sheet marks t h l r k e =
    let w : Width = width_at code in
    let b : List Block = blocks (take (group_bytes * k) sheet) in
    elim (dec_le k m) [
      | yes d ↦ ap (state_from w) (marks-kept m k _ marks (rewritten code n m sheet marks h r).before d) ∙ t k d
      | no d ↦ ap (state_from w) (mark-written code n m k sheet marks (t m (le_refl m)) (omega arith) e l r)
          ∙ state_of_mark w (chain w (start w) b) (length-chain w (start w) b (length-start w))
    ]

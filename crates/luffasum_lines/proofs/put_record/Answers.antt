-- `luffasum_lines::put_record` meets its contract: no line where one of the tests fails, else the line of the record's digest.
-- Assumes nothing.
use mathlib.Core.Path.{◌≡◌, sym, ap, ap₂, ◌∙◌}
use mathlib.Core.Bool.{Bool, false, not, ◌||◌}
use mathlib.Core.List.{List, [], ◌∷◌}
use borrow.Author.Tests.{eqb-true, not-false}
use lib.Dec.{eqb}
use Rattle.std.specs.Prelude.{Result, is_err}
use Rattle.definition.specs.Refusal.{first_of}
use Rattle.definition.proofs.Conditions.{either_false}
use Rattle.refusals.specs.declared.Refusal.{Refusal}
use Rattle.refusals.specs.Number.{number_of}
use Rattle.hash_definition.specs.declared.Kept.{Kept}
use Rattle.hash_definition.specs.Lent.{kept_refusal}
use Prim.Native.Nat.{ℕ, ◌+◌, ◌*◌, ◌≤◌}
use native.Mathlib.Omega.{arith}
use lib.ListN.{length, take}
use lib.Seq.{length-take-le}
use Rattle.definition.specs.Luffa.{words_at, bytes_at}
use Rattle.definition.proofs.Codes.{words_le}
use Rattle.hash_definition.specs.Record.{finished}
use Rattle.hash_definition.specs.Calls.{Outcome}
use Rattle.hash_definition.proofs.WorkingDemand2.{lent_finish_done}
use Rattle.octets.specs.Total.{write_at}
use Rattle.octets.proofs.Total.{write_none}
use Rattle.luffasum_lines.proofs.Held.{formed, accepted, no_line, held, front}
use Rattle.luffasum_lines.proofs.put_record.Goals as goal

-- no line leaves the place and the buffer as they were
none : (i : ℕ) (l out : List ℕ) → i ≤ length out → l ≡ [] → (i ≡ i + length l) × (out ≡ write_at i l out)
none i l out h e = rw e (omega arith, sym (write_none i out))

pub returns-then-is_err-k : goal.returns-then-is_err-k
returns-then-is_err-k c =
    none _ _ _ (omega (arith, c.requires.2)) (no_line _ _ _ _ c.form.ensures (rw c.is_err.ensures.value at c.if-is_err-k.true))

-- past the tests it is well formed, and held at the code
kept : (k : Kept) (c : ℕ) (r : Result (Unit {0}) Refusal) {b : Bool} → b ≡ is_err r → number_of r ≡ first_of (kept_refusal k ∷ []) → b || not (eqb k.code c) ≡ false
    → (first_of (kept_refusal k ∷ []) ≡ 0) × (k.code ≡ c)
kept k c r q f e =
    let n = either_false _ _ e in
    (sym f ∙ accepted r (sym q ∙ n.0), eqb-true _ _ (not-false _ n.1))

-- a digest has 64 bytes at most
small : (code : ℕ) → bytes_at code ≤ 64
unfolding bytes_at
small code = omega (arith, words_le code)

pub overflow_mul-n : goal.overflow_mul-n
overflow_mul-n c = omega (arith, c.words-n.ensures, words_le c.from.result)

-- so many bytes as the code's digest has
asked : {n m : ℕ} (code : ℕ) → n ≡ words_at m → m ≡ code → 4 * n ≡ bytes_at code
unfolding bytes_at
asked code e f = ap (λ (n : ℕ). 4 * n) (e ∙ ap words_at f)

-- are in the buffer
within : {n m : ℕ} (code : ℕ) (digest : List ℕ) → n ≡ words_at m → m ≡ code → length digest ≡ 64 → 4 * n ≤ length digest
within code digest e f l = omega (arith, asked code e f, small code, l)

-- and are the front of the digest
shown : (c : goal.After-slice_known-2-1) → take (4 * c.words-n.result) c.finish.new.out ≡ take (bytes_at c.args.code) (finished c.args.k)
shown c =
    let k = c.args.k in
    let d = ap (λ (o : Outcome). o.buffer) (c.finish.ensures ∙ lent_finish_done k _ (formed _ (kept _ _ _ c.is_err.ensures.value c.form.ensures c.if-is_err-k.false).0) (small k.code)) in
    ap₂ (λ (n : ℕ) (l : List ℕ). take n l) (asked c.args.code c.words-n.ensures c.from.ensures) d ∙ front c.args.code c.args.c k (kept _ _ _ c.is_err.ensures.value c.form.ensures c.if-is_err-k.false).1 c.requires.1 _

pub put_line-requires : goal.put_line-requires
put_line-requires c =
    (c.requires.0, omega (arith, length-take-le (4 * c.words-n.result) c.finish.new.out (within c.args.code c.finish.new.out c.words-n.ensures c.from.ensures c.finish.auto.out), asked c.args.code c.words-n.ensures c.from.ensures, c.requires.2))

pub returns : goal.returns
returns c =
    let a = c.args in
    let l = held a.code a.c a.k (formed _ (kept _ _ _ c.is_err.ensures.value c.form.ensures c.if-is_err-k.false).0) (kept _ _ _ c.is_err.ensures.value c.form.ensures c.if-is_err-k.false).1 in
    rw (l, ← shown c) c.put_line.ensures

pub slice_bounds-digest-end : goal.slice_bounds-digest-end
slice_bounds-digest-end c =
    within c.args.code c.finish.new.out c.words-n.ensures c.from.ensures c.finish.auto.out

pub slice_bounds-put_line-end : goal.slice_bounds-put_line-end
slice_bounds-put_line-end c =
    sym (length-take-le _ _ (within c.args.code c.finish.new.out c.words-n.ensures c.from.ensures c.finish.auto.out))

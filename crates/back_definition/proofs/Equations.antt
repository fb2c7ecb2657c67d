-- Appendix E's equations are undone, either way round, over any number of blocks: the message's multiples, a ring of n blocks where a constant
-- undoes 2^n ^ 1, and the spreading of the sum by whether the number of blocks is odd.
-- Assumes nothing.
use mathlib.Core.Path.{◌≡◌, refl, sym, ap, ap₂, ◌∙◌}
use mathlib.Core.List.{List, [], ◌∷◌, map, reverse, reverse_aux}
use Prim.Native.Nat.{ℕ, zero, suc, ◌+◌, ◌^◌, ◌<◌}
use native.Mathlib.Omega.{arith}
use lib.Bits.{bit_xor}
use lib.Dec.{T}
use lib.ListN.{get_or, drop, length, length-map, length-reverse}
use Rattle.definition.specs.declared.Block.{Block}
use Rattle.definition.specs.Block.{◌⊕◌, zero_block}
use Rattle.definition.specs.Word.{bit}
use Rattle.definition.specs.Field.{double, times, times_x, multiple, product}
use Rattle.definition.proofs.Bounds.{Words, AllWords}
use Rattle.definition.proofs.Every.{every_at}
use Rattle.definition.proofs.Field.{times_one}
use Rattle.definition.proofs.Xor.{⊕-assoc, ⊕-comm, ⊕-self, ⊕-zero, ⊕-swap, zero-⊕, double-⊕}
use Rattle.back_definition.specs.Injection.{less_message, ring_sum, from_last, unring, sum_on, total, unspread, third}
use Rattle.back_definition.proofs.Field.{undoes, divided, power, times_ring, times_words, ⊕-words, double-words, zero-words}

pub ⊕-back : (a b : Block) → a ⊕ b ⊕ b ≡ a
⊕-back a b = ⊕-assoc a b b ∙ ap (λ (x : Block). a ⊕ x) (⊕-self b) ∙ ⊕-zero a

pub ⊕-front : (a b : Block) → a ⊕ b ⊕ a ≡ b
⊕-front a b = ap (λ (x : Block). x ⊕ a) (⊕-comm a b) ∙ ⊕-back b a

-- 2^j M for each j
pub less_message-back : (xs : List Block) (m : Block) → less_message (less_message xs m) m ≡ xs
unfolding less_message
less_message-back [] m = refl
less_message-back (x ∷ xs) m = ap₂ (λ (a : Block) (l : List Block). a ∷ l) (⊕-back x m) (less_message-back xs (double m))

-- a ring: 2 η_j ^ η_j-1 for each j, where the last stands before the first
unfoldable pub links : Block → List Block → List Block
links p [] = []
links p (e ∷ es) = (double e ⊕ p) ∷ links e es

unfoldable pub last_of : Block → List Block → Block
last_of e [] = e
last_of e (f ∷ fs) = last_of f fs

unfoldable pub ring : List Block → List Block
ring [] = []
ring (e ∷ es) = links (last_of e es) (e ∷ es)

-- in its sum all but the last is left out
sum-links : (p e : Block) (es : List Block) → ring_sum (links p (e ∷ es)) ≡ p ⊕ power (suc (length es)) (last_of e es)
unfolding ring_sum links last_of power double
sum-links p e [] = ⊕-zero (double e ⊕ p) ∙ ⊕-comm (double e) p
sum-links p e (f ∷ fs) =
    let q : Block = power (suc (length fs)) (last_of f fs) in
    rw (sum-links e f fs, double-⊕ e q)
    (ap (λ (x : Block). x ⊕ (double e ⊕ double q)) (⊕-comm (double e) p)
    ∙ ⊕-assoc p (double e) (double e ⊕ double q)
    ∙ ap (λ (x : Block). p ⊕ x) (sym (⊕-assoc (double e) (double e) (double q)) ∙ ap (λ (x : Block). x ⊕ double q) (⊕-self (double e)) ∙ zero-⊕ (double q)))

-- from the last on, each is found again
found : (e : Block) (es : List Block) → from_last (last_of e es) (links e es) ≡ e ∷ es
unfolding links last_of from_last
found e [] = refl
found e (f ∷ fs) = rw (found f fs) (ap (λ (x : Block). x ∷ f ∷ fs) (⊕-front (double f) e))

-- and what is found from the last on makes such a ring
module _ (last : Block) where
  abbrev head_of : List Block → Block
  head_of ys = get_or (from_last last ys) 0 zero_block

  abbrev tail_of : List Block → List Block
  tail_of ys = drop 1 (from_last last ys)

  split : (ys : List Block) → from_last last ys ≡ head_of ys ∷ tail_of ys
  unfolding from_last
  split [] = refl
  split (y ∷ ys) = refl

  linked : (ys : List Block) → links (head_of ys) (tail_of ys) ≡ ys
  unfolding from_last links
  linked [] = refl
  linked (y ∷ ys) =
      ap (links (y ⊕ double (head_of ys))) (split ys)
      ∙ ap₂ (λ (a : Block) (l : List Block). a ∷ l) (⊕-comm (double (head_of ys)) (y ⊕ double (head_of ys)) ∙ ⊕-back y (double (head_of ys))) (linked ys)

  last_is : (ys : List Block) → last_of (head_of ys) (tail_of ys) ≡ last
  unfolding from_last last_of
  last_is [] = refl
  last_is (y ∷ ys) = ap (last_of (y ⊕ double (head_of ys))) (split ys) ∙ last_is ys

  head_is : (ys : List Block) → head_of ys ≡ ring_sum ys ⊕ power (length ys) last
  unfolding from_last ring_sum power
  head_is [] = sym (zero-⊕ last)
  head_is (y ∷ ys) =
      rw (head_is ys, double-⊕ (ring_sum ys) (power (length ys) last)) (sym (⊕-assoc y (double (ring_sum ys)) (double (power (length ys) last))))

-- words around a ring
last_words : (e : Block) (es : List Block) → AllWords (e ∷ es) → Words (last_of e es)
unfolding last_of
last_words e [] k = k.0
last_words e (f ∷ fs) k = last_words f fs k.1

sum-words : (ys : List Block) → AllWords ys → Words (ring_sum ys)
unfolding ring_sum
sum-words [] k = zero-words
sum-words (y ∷ ys) k = ⊕-words y _ k.0 (double-words _ (sum-words ys k.1))

-- a ring of n blocks undone, where c undoes 2^n ^ 1
module _ (n c : ℕ) (h : n < 8) (t : T (undoes c (bit_xor 1 (2 ^ n)))) (u : T (undoes (bit_xor 1 (2 ^ n)) c)) where
  pub ring_back : (es : List Block) → length es ≡ n → AllWords es → unring c (ring es) ≡ es
  unfolding ring unring links
  ring_back [] e k = refl
  ring_back (f ∷ fs) e k =
      let l : Block = last_of f fs in
      let s : ring_sum (links l (f ∷ fs)) ≡ times (bit_xor 1 (2 ^ n)) l = sum-links l f fs ∙ ap (λ (i : ℕ). l ⊕ power i l) e ∙ sym (times_ring n l h) in
      ap (λ (x : Block). from_last x (links f fs)) (ap (times c) s ∙ divided c (bit_xor 1 (2 ^ n)) t l (last_words f fs k)) ∙ found f fs

  pub ring_forth : (ys : List Block) → length ys ≡ n → AllWords ys → ring (unring c ys) ≡ ys
  unfolding unring ring links ring_sum power
  ring_forth [] e k = refl
  ring_forth (y ∷ ys) e k =
      let s : Block = ring_sum (y ∷ ys) in
      let l : Block = times c s in
      let d : Block = double (ring_sum ys) in
      let hd : Block = head_of l ys in
      let p : Block = power (suc (length ys)) l in
      let around : l ⊕ p ≡ s =
      ap (λ (i : ℕ). l ⊕ power i l) e ∙ sym (times_ring n l h) ∙ divided (bit_xor 1 (2 ^ n)) c u s (sum-words (y ∷ ys) k) in
      let first : double hd ⊕ l ≡ y =
      ap (λ (x : Block). double x ⊕ l) (head_is l ys)
      ∙ ap (λ (x : Block). x ⊕ l) (double-⊕ (ring_sum ys) (power (length ys) l))
      ∙ ⊕-assoc d p l
      ∙ ap (λ (x : Block). d ⊕ x) (⊕-comm p l ∙ around ∙ ⊕-comm y d)
      ∙ sym (⊕-assoc d d y)
      ∙ ap (λ (x : Block). x ⊕ y) (⊕-self d)
      ∙ zero-⊕ y in
      ap ring (split l ys)
      ∙ ap₂ (λ (a : Block) (r : List Block). a ∷ r) (ap (λ (x : Block). double hd ⊕ x) (last_is l ys) ∙ first) (linked l ys)

-- η_j = H_j ^ 2 (H_0 ^ ..): the sum spread over the blocks
unfoldable pub spread : List Block → List Block
spread hs =
    let t : Block = double (total hs) in
    map (λ h. h ⊕ t) hs

-- n times a block
pub times_over : ℕ → Block → Block
times_over zero t = zero_block
times_over (suc n) t = t ⊕ times_over n t

two-over : (n : ℕ) (t : Block) → times_over (suc (suc n)) t ≡ times_over n t
unfolding times_over
two-over n t = sym (⊕-assoc t t (times_over n t)) ∙ ap (λ (x : Block). x ⊕ times_over n t) (⊕-self t) ∙ zero-⊕ (times_over n t)

sum_added : (a c t : Block) (bs : List Block) → sum_on (a ⊕ c) (map (λ b. b ⊕ t) bs) ≡ sum_on a bs ⊕ (c ⊕ times_over (length bs) t)
unfolding sum_on times_over
sum_added a c t [] = ap (λ (x : Block). a ⊕ x) (sym (⊕-zero c))
sum_added a c t (b ∷ bs) =
    ap (λ (x : Block). sum_on x (map (λ b. b ⊕ t) bs)) (⊕-swap a c b t)
    ∙ sum_added (a ⊕ b) (c ⊕ t) t bs
    ∙ ap (λ (x : Block). sum_on (a ⊕ b) bs ⊕ x) (⊕-assoc c t (times_over (length bs) t))

total-added : (t : Block) (bs : List Block) → total (map (λ b. b ⊕ t) bs) ≡ total bs ⊕ times_over (length bs) t
unfolding total times_over
total-added t [] = sym (zero-⊕ zero_block)
total-added t (b ∷ bs) = sum_added b t t bs

map_back : (t : Block) (bs : List Block) → map (λ b. b ⊕ t) (map (λ b. b ⊕ t) bs) ≡ bs
map_back t [] = refl
map_back t (b ∷ bs) = ap₂ (λ (a : Block) (l : List Block). a ∷ l) (⊕-back b t) (map_back t bs)

total-words : (bs : List Block) → AllWords bs → Words (total bs)
unfolding total sum_on
total-words [] k = zero-words
total-words (b ∷ bs) k = on b bs k.0 k.1
  where
    on : (a : Block) (bs : List Block) → Words a → AllWords bs → Words (sum_on a bs)
    on a [] h k = h
    on a (b ∷ bs) h k = on (a ⊕ b) bs (⊕-words a b h k.0) k.1

-- the spreading over n blocks undone by a constant, where the constant undoes what it makes of the sum
pub record Spread (n c : ℕ) : Type 0 where
  pub sum_back : (s : Block) → Words s → times c (s ⊕ times_over n (double s)) ≡ s
  pub sum_forth : (s : Block) → Words s → s ⊕ times_over n (double (times c s)) ≡ times c s

module _ (n c : ℕ) (u : Spread n c) where
  pub spread_back : (hs : List Block) → length hs ≡ n → AllWords hs → unspread c (spread hs) ≡ hs
  unfolding unspread spread
  spread_back hs e k =
      let t : Block = double (total hs) in
      rw (total-added t hs, e, u.sum_back (total hs) (total-words hs k)) (map_back t hs)

  pub spread_forth : (es : List Block) → length es ≡ n → AllWords es → spread (unspread c es) ≡ es
  unfolding unspread spread
  spread_forth es e k =
      let t : Block = double (times c (total es)) in
      rw (total-added t es, e, u.sum_forth (total es) (total-words es k)) (map_back t es)

-- n times a block is zero where n is even, and the block where it is odd
even_over : (k : ℕ) (t : Block) → times_over (k + k) t ≡ zero_block
unfolding times_over
even_over zero t = refl
even_over (suc k) t =
    let e : suc k + suc k ≡ suc (suc (k + k)) = omega arith in
    rw e (two-over (k + k) t ∙ even_over k t)

odd-over : (k : ℕ) (t : Block) → times_over (suc (k + k)) t ≡ t
unfolding times_over
odd-over k t = ap (λ (x : Block). t ⊕ x) (even_over k t) ∙ ⊕-zero t

-- so the sum is undone by 1 / 3 where the number of blocks is odd, and by 1 where it is even
pub odd_spread : (k : ℕ) → Spread (suc (k + k)) third
unfolding undoes product multiple times_x bit power
odd_spread k =
    record {
      sum_back =
          λ s h.
          ap (λ (x : Block). times third (s ⊕ x)) (odd-over k (double s)) ∙ ap (times third) (sym (times_ring 1 s (omega arith))) ∙ divided third 3 tt s h;
      sum_forth =
          λ s h.
          let q : Block = times third s in
          ap (λ (x : Block). s ⊕ x) (odd-over k (double q))
          ∙ ap (λ (x : Block). x ⊕ double q) (sym (divided 3 third tt s h) ∙ times_ring 1 q (omega arith))
          ∙ ⊕-back q (double q);
    }

pub even_spread : (k : ℕ) → Spread (k + k) 1
even_spread k =
    record {
      sum_back = λ s h. times_one _ ∙ ap (λ (x : Block). s ⊕ x) (even_over k (double s)) ∙ ⊕-zero s;
      sum_forth = λ s h. ap (λ (x : Block). s ⊕ x) (even_over k (double (times 1 s))) ∙ ⊕-zero s ∙ sym (times_one s);
    }

-- n blocks of words stay n blocks of words
abbrev pub Rows : (n : ℕ) → List Block → Type 0
Rows n bs = (length bs ≡ n) × AllWords bs

module _ {n : ℕ} where
  pub ring_rows : (es : List Block) → Rows n es → Rows n (ring es)
  unfolding ring links
  ring_rows [] k = k
  ring_rows (e ∷ es) k =
      let r = linked-rows (last_of e es) (e ∷ es) (last_words e es k.1) k.1 in
      (r.0 ∙ k.0, r.1)
    where
      linked-rows : (p : Block) (es : List Block) → Words p → AllWords es → Rows (length es) (links p es)
      linked-rows p [] h k = (refl, tt)
      linked-rows p (e ∷ es) h k =
          let r = linked-rows e es k.0 k.1 in
          (ap suc r.0, (⊕-words _ p (double-words e k.0) h, r.1))

  pub unring-rows : (c : ℕ) (ys : List Block) → Rows n ys → Rows n (unring c ys)
  unfolding unring from_last
  unring-rows c [] k = k
  unring-rows c (y ∷ ys) k =
      let r = from-rows (times c (ring_sum (y ∷ ys))) ys (times_words c _ (sum-words (y ∷ ys) k.1)) k.1.1 in
      (r.0 ∙ k.0, r.1)
    where
      from-rows : (last : Block) (ys : List Block) → Words last → AllWords ys → Rows (suc (length ys)) (from_last last ys)
      from-rows last [] h k = (refl, (h, tt))
      from-rows last (y ∷ ys) h k =
          let r = from-rows last ys h k.1 in
          (ap suc r.0, (⊕-words y _ k.0 (double-words _ (every_at Words (from_last last ys) zero_block zero-words r.1 0)), r.1))

  added-rows : (t : Block) (bs : List Block) → Words t → Rows n bs → Rows n (map (λ b. b ⊕ t) bs)
  added-rows t bs h k = (length-map bs _ ∙ k.0, words bs k.1)
    where
      words : (bs : List Block) → AllWords bs → AllWords (map (λ b. b ⊕ t) bs)
      words [] k = tt
      words (b ∷ bs) k = (⊕-words b t k.0 h, words bs k.1)

  pub spread_rows : (hs : List Block) → Rows n hs → Rows n (spread hs)
  unfolding spread
  spread_rows hs k = added-rows _ hs (double-words _ (total-words hs k.1)) k

  pub unspread-rows : (c : ℕ) (es : List Block) → Rows n es → Rows n (unspread c es)
  unfolding unspread
  unspread-rows c es k = added-rows _ es (double-words _ (times_words c _ (total-words es k.1))) k

  pub reverse-rows : (bs : List Block) → Rows n bs → Rows n (reverse bs)
  reverse-rows bs k = (length-reverse bs ∙ k.0, words bs [] k.1 tt)
    where
      words : (l r : List Block) → AllWords l → AllWords r → AllWords (reverse_aux l r)
      words [] r h k = k
      words (b ∷ l) r h k = words l (b ∷ r) h.1 (h.0, k)

pub message-rows : {n : ℕ} (xs : List Block) (m : Block) → Rows n xs → Words m → Rows n (less_message xs m)
unfolding less_message
message-rows xs m k h = let r = on xs m k.1 h in (r.0 ∙ k.0, r.1)
  where
    on : (xs : List Block) (m : Block) → AllWords xs → Words m → Rows (length xs) (less_message xs m)
    on [] m k h = (refl, tt)
    on (x ∷ xs) m k h =
        let r = on xs (double m) k.1 (double-words m h) in
        (ap suc r.0, (⊕-words x m k.0 h, r.1))

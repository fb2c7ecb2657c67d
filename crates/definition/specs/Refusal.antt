-- Refusals by number: document 01, "Refusal numbers". A call's order of refusals is a list of numbers with their conditions; the answer is
-- the first whose condition holds, and 0 where none does.
use Rattle.std.specs.Prelude.{◌≡◌, ◌↔◌, ℕ, zero, suc, Bool, true, false, not, ◌&&◌, List, [], ◌∷◌, leb, ltb, eqb}

abbrev pub DONE : ℕ
DONE = 0

abbrev pub WIDTH : ℕ
WIDTH = 1

abbrev pub OUT : ℕ
OUT = 2

abbrev pub RECORD : ℕ
RECORD = 3

abbrev pub LONG : ℕ
LONG = 4

abbrev pub SHEET : ℕ
SHEET = 5

abbrev pub MARKS : ℕ
MARKS = 6

abbrev pub PLACE : ℕ
PLACE = 7

abbrev pub FULL : ℕ
FULL = 8

abbrev pub SIZE : ℕ
SIZE = 9

abbrev pub CLAIM : ℕ
CLAIM = 10

abbrev pub STALE : ℕ
STALE = 11

-- and document 02's: of longer output, Q-2, of the brine statement, Q-3, of many changes in one save, Q-4, of a planner's own marks, Q-6, of odd
-- bits, Q-7, of stepping back, Q-9, of who depends on a well, Q-10, of closing up, Q-11, and of columns, Q-12
abbrev pub WORDS : ℕ
WORDS = 12

abbrev pub BATCH : ℕ
BATCH = 13

abbrev pub SET : ℕ
SET = 14

abbrev pub OWN : ℕ
OWN = 15

abbrev pub STALE_TAIL : ℕ
STALE_TAIL = 16

abbrev pub ODD : ℕ
ODD = 17

abbrev pub BACK : ℕ
BACK = 18

abbrev pub HOPS : ℕ
HOPS = 19

abbrev pub UNSOUND : ℕ
UNSOUND = 20

abbrev pub WELL : ℕ
WELL = 21

abbrev pub REACH : ℕ
REACH = 22

abbrev pub PLACES : ℕ
PLACES = 23

abbrev pub COLUMNS : ℕ
COLUMNS = 24

abbrev pub LIST : ℕ
LIST = 25

-- a refusal: its number, and whether its condition holds
abbrev pub Refusal : Type 0
Refusal = ℕ × Bool

unfoldable pub pick {ℓ} : {A : Type ℓ} → Bool → A → A → A
pick true a b = a
pick false a b = b

-- "where several hold, the lowest number is given": the first in the call's order
unfoldable pub first_of : List Refusal → ℕ
first_of [] = DONE
first_of (r ∷ rs) = pick r.1 r.0 (first_of rs)

-- the numbers of a list in its order, and the condition that stands under a number
unfoldable pub numbers_of : List Refusal → List ℕ
numbers_of [] = []
numbers_of (r ∷ rs) = r.0 ∷ numbers_of rs

unfoldable pub condition_of : (number : ℕ) → List Refusal → Bool
condition_of k [] = false
condition_of k (r ∷ rs) = pick (eqb r.0 k) r.1 (condition_of k rs)

-- "the lowest number is given": a list whose numbers rise gives the lowest whose condition holds
unfoldable pub rising : List ℕ → Bool
rising [] = true
rising (m ∷ []) = true
rising (m ∷ n ∷ ns) = ltb m n && rising (n ∷ ns)

-- "given exactly when": its condition holds, and none ranked before it
pub data First (number : ℕ) : List Refusal → Type 0 where
  here : {rs : List Refusal} → First number ((number, true) ∷ rs)
  later : {n : ℕ} {rs : List Refusal} → First number rs → First number ((n, false) ∷ rs)

-- "0, done": no condition holds
pub data NoneHolds : List Refusal → Type 0 where
  none : NoneHolds []
  more : {n : ℕ} {rs : List Refusal} → NoneHolds rs → NoneHolds ((n, false) ∷ rs)

-- an answer judged by a list of refusals in this order is 0 exactly when no condition holds, and another number exactly when its condition is the
-- first that holds
pub record Judged (number : ℕ) (rs : List Refusal) (order : List ℕ) : Type 0 where
  pub in_order : numbers_of rs ≡ order
  pub zero-given : (number ≡ 0) ↔ NoneHolds rs
  pub number-given : (k : ℕ) → (number ≡ suc k) ↔ First (suc k) rs

-- the first where the number is 0, else the second: what a call that is done leaves, and one that is refused
unfoldable pub when_done {ℓ} : {A : Type ℓ} → ℕ → A → A → A
when_done zero a b = a
when_done (suc n) a b = b

-- a code is known when it is 1 to 4
unfoldable pub known : ℕ → Bool
known code = leb 1 code && leb code 4

-- 1: a code argument isn't 1 to 4
unfoldable pub width_refusal : (code : ℕ) → Refusal
width_refusal code = (WIDTH, not (known code))

-- 2: the output buffer is shorter than what is put out, the digest or longer output, which has so many bytes
unfoldable pub out_refusal : (bytes out : ℕ) → Refusal
out_refusal bytes out = (OUT, ltb out bytes)

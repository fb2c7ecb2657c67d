-- The order of each call's refusals is that of document 01, rising, or of document 02; a number is given exactly when it is the first of them whose condition holds,
-- and 0 exactly when none does.
-- Assumes nothing.
use mathlib.Core.Path.{◌≡◌, refl}
use mathlib.Core.Bool.{Bool, true, false}
use mathlib.Core.List.{List, [], ◌∷◌, ◌++◌}
use Prim.Native.Nat.{ℕ}
use native.Mathlib.Omega.{arith}
use Rattle.definition.specs.Refusal.{Refusal, Judged, WIDTH, OUT, SHEET, MARKS, PLACE, FULL, SIZE, CLAIM, STALE, SET, OWN, PLACES, numbers_of, rising}
use Rattle.sheet_definition.specs.Sheet.{World}
use Rattle.sheet_definition.specs.Refusals.{lengths_of, build_refusals}
use Rattle.sheet_definition.specs.Save.{stale_claim}
use Rattle.sheet_definition.specs.Own.{Own, own_refusal}
use Rattle.sheet_definition.specs.Own.Own.{None, Brought}
use Rattle.sheet_definition.specs.SheetCalls.{build_outcome, Kind, Call, stale_number_of, save_of, call}
use Rattle.sheet_definition.specs.SheetCalls.Kind.{Change, Append, Drop, Batch, CloseUp}
use Rattle.definition.proofs.Every.{every_append}
use Rattle.definition.proofs.Refusals.{judged}
use Rattle.sheet_definition.proofs.Outcomes.{stale-answers, number_is}
use Rattle.sheet_definition.proofs.Refused.{built_numbered, judging}
use Rattle.sheet_definition.proofs.Edits.{proper}
use Rattle.sheet_definition.proofs.Build.{build-number}

-- all refusals of a save, the stale claim's last
abbrev pub all_of : World → Call → List Refusal
all_of w c = (save_of w c).refusals ++ ((save_of w c).stale_number, stale_claim w c.claim) ∷ []

-- each call's numbers in their order, up to a stale claim's
unfoldable pub order_of : Kind → List ℕ
order_of (Change place x) = WIDTH ∷ OUT ∷ SHEET ∷ MARKS ∷ PLACE ∷ SIZE ∷ CLAIM ∷ []
order_of (Append x) = WIDTH ∷ OUT ∷ SHEET ∷ MARKS ∷ FULL ∷ SIZE ∷ CLAIM ∷ []
order_of Drop = WIDTH ∷ OUT ∷ SHEET ∷ MARKS ∷ PLACE ∷ CLAIM ∷ []
order_of (Batch places x) = WIDTH ∷ OUT ∷ SHEET ∷ MARKS ∷ SET ∷ PLACE ∷ SIZE ∷ CLAIM ∷ []
order_of (CloseUp places) = WIDTH ∷ OUT ∷ SHEET ∷ MARKS ∷ PLACES ∷ CLAIM ∷ []

-- "15 OWN .., after 10; for such a save 11 .., and 16"
unfoldable pub end_of : World → Own → List ℕ
end_of w None = STALE ∷ []
end_of w (Brought n marks) = OWN ∷ stale_number_of w (Brought n marks) ∷ []

-- "the lowest number is given" of document 01's saves; in a batch 14 comes "after 6", before 7, and in closing up 23
unfoldable pub lowest_given : Kind → Bool
lowest_given (Change place x) = true
lowest_given (Append x) = true
lowest_given Drop = true
lowest_given (Batch places x) = false
lowest_given (CloseUp places) = false

pub order-rising : (k : Kind) → rising (order_of k ++ STALE ∷ []) ≡ lowest_given k
unfolding rising order_of lowest_given
order-rising (Change place x) = refl
order-rising (Append x) = refl
order-rising Drop = refl
order-rising (Batch places x) = refl
order-rising (CloseUp places) = refl

save-order : (w : World) (c : Call) (k : Kind) (o : Own)
    → numbers_of (all_of w (record { kind = k; claim = c.claim; own = o; out = c.out })) ≡ order_of k ++ end_of w o
unfolding judging save_of order_of end_of own_refusal
save-order w c (Change place x) None = refl
save-order w c (Append x) None = refl
save-order w c Drop None = refl
save-order w c (Batch places x) None = refl
save-order w c (CloseUp places) None = refl
save-order w c (Change place x) (Brought n marks) = refl
save-order w c (Append x) (Brought n marks) = refl
save-order w c Drop (Brought n marks) = refl
save-order w c (Batch places x) (Brought n marks) = refl
save-order w c (CloseUp places) (Brought n marks) = refl

-- so each save is judged by its list, and a build by its own
pub save-judged : (w : World) (c : Call) → Judged (call w c).answer.number (all_of w c) (order_of c.kind ++ end_of w c.own)
unfolding call save_of
save-judged w c =
    let p = proper w c in
    rw (← save-order w c c.kind c.own)
    (judged (all_of w c) (every_append _ (save_of w c).refusals _ p.numbered (omega (arith, stale-answers p.answered), tt))
    (number_is w (save_of w c) p.numbered p.earlier p.answered))

pub build-judged : (code : ℕ) (sheet : List ℕ) (n : ℕ) (marks out : List ℕ)
    → Judged (build_outcome code sheet n marks out).answer.number (build_refusals (lengths_of (record { code = code; n = n; sheet = sheet; marks = marks }) out))
    (WIDTH ∷ OUT ∷ SHEET ∷ MARKS ∷ [])
unfolding judging
build-judged code sheet n marks out =
    let l = lengths_of (record { code = code; n = n; sheet = sheet; marks = marks }) out in
    judged (build_refusals l) (built_numbered l) (build-number code sheet n marks out)

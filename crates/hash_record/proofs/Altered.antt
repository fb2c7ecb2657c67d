-- A record is judged and altered as what one reading of it gives: where its frame isn't right that is nothing, which isn't well formed.
-- Assumes nothing.
use mathlib.Core.Path.{◌≡◌, refl}
use mathlib.Core.Bool.{Bool, true, false, not, ◌&&◌}
use mathlib.Core.List.{List, ◌∷◌}
use Prim.Native.Nat.{ℕ, zero, suc}
use lib.Dec.{eqb}
use lib.ListN.{length, take, drop}
use Rattle.definition.specs.Refusal.{Refusal, RECORD, pick, first_of, known, when_done}
use Rattle.hash_definition.specs.declared.Kept.{Kept}
use Rattle.hash_definition.specs.declared.Lent.{Lent}
use Rattle.hash_definition.specs.Record.{record_length, all_zero, well_formed, well_held, well_kept, encode, decode}
use Rattle.hash_definition.specs.Calls.{outcome, record_refusal}
use Rattle.hash_definition.specs.Lent.{lent_outcome, kept_refusal}
use Rattle.hash_record.specs.Reading.{framed, nothing, reading, written}

-- a call that judges what a record holds after 3, and alters it where it is done
module _ (rest : Kept → List Refusal) (after : Kept → Kept) where
  abbrev pub lent_altered : Kept → Lent
  lent_altered k = lent_outcome (kept_refusal k ∷ rest k) (after k) k

  module _ (b : List ℕ) where
    -- what a call that is done writes
    once : (n : ℕ) (x y : Kept) → when_done n (encode (when_done n x y)) b ≡ when_done n (encode x) b
    unfolding when_done
    once zero x y = refl
    once (suc n) x y = refl

    -- by whether the length is right and the reserved bytes are zero
    altered_by : (l z : Bool)
        → (let o : Lent = lent_altered (pick (l && z) (decode b) nothing) in
        record { number = o.number; buffer = when_done o.number (pick l (encode o.kept) b) b })
        ≡ outcome ((RECORD, not (l && z && well_kept (decode b))) ∷ rest (decode b)) (encode (after (decode b))) b
    unfolding pick nothing well_kept well_held known lent_outcome kept_refusal outcome first_of when_done
    altered_by true true = rw once
    altered_by true false = refl
    altered_by false z = refl

    -- the bytes answer what their reading answers, and are written where it is done
    pub altered_read : (o : Lent) → o ≡ lent_altered (reading b)
        → record { number = o.number; buffer = when_done o.number (written o.kept b) b }
        ≡ outcome (record_refusal b ∷ rest (decode b)) (encode (after (decode b))) b
    unfolding reading framed written record_refusal well_formed
    altered_read o e = rw e (altered_by (eqb (length b) record_length) (all_zero (take 6 (drop 2 b))))

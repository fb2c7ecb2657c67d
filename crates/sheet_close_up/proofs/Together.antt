-- Closing up put together from what its parts leave: the records gathered, their room zeroed, the marks past the new last, and the work.
-- Assumes nothing.
use mathlib.Core.Path.{◌≡◌, refl}
use mathlib.Core.List.{List}
use Prim.Native.Nat.{ℕ, zero, suc, ◌+◌, ◌-◌, ◌*◌}
use lib.ListN.{length, replicate}
use Rattle.definition.specs.Buffer.{overwrite_at, overwrite, joined}
use Rattle.definition.specs.Refusal.{pick, when_done}
use Rattle.sheet_definition.specs.Sheet.{World, record_bytes, cut, q}
use Rattle.sheet_definition.specs.Struck.{standing, old_places, first_struck}
use Rattle.sheet_definition.specs.Marks.{worked}
use Rattle.sheet_definition.specs.Save.{refused_with, done_with, checked, reworked, rounds_before}
use Rattle.sheet_definition.specs.SheetCalls.{past_last, closed_up, edit_of, save_of, call, closing_up, close_up_outcome}
use Rattle.sheet_definition.proofs.Outcomes.{accepted}

module _ (w : World) (claim places₀ out₀ : List ℕ) where
  abbrev rs : List (List ℕ)
  rs = cut w.n w.sheet

  -- refused: the list stays
  pub list-stays : (k rounds : ℕ) → (k ≡ 0 → ⊥) → refused_with w out₀ k rounds ≡ call w (closing_up places₀ claim out₀)
      → record { answer = record { number = k; count = w.n; rounds = rounds }; sheet = w.sheet; marks = w.marks; places = places₀; out = out₀ }
      ≡ close_up_outcome w.code w.sheet w.n w.marks claim places₀ out₀
  unfolding close_up_outcome refused_with when_done
  list-stays zero rounds h e = absurd (h refl)
  list-stays (suc k) rounds h e = rw (← e)

  -- done
  pub together : (before rounds first count : ℕ) (sheet₁ sheet₂ marks₁ marks₂ places out : List ℕ)
      → before ≡ (checked w).rounds → first ≡ first_struck rs → count ≡ length (standing rs)
      → sheet₁ ≡ overwrite (joined (standing rs)) w.sheet → places ≡ overwrite (old_places 0 rs) places₀
      → sheet₂ ≡ overwrite_at (record_bytes * count) (replicate (record_bytes * (w.n - count)) 0) sheet₁
      → marks₁ ≡ past_last w.n count w.marks
      → rounds ≡ before + (worked w.code count sheet₂ marks₁ (q first)).rounds
      → marks₂ ≡ (worked w.code count sheet₂ marks₁ (q first)).marks
      → out ≡ overwrite (worked w.code count sheet₂ marks₁ (q first)).digest out₀
      → accepted w (save_of w (closing_up places₀ claim out₀)) ≡ call w (closing_up places₀ claim out₀)
      → record { answer = record { number = 0; count = count; rounds = rounds }; sheet = sheet₂; marks = marks₂; places = places; out = out }
      ≡ close_up_outcome w.code w.sheet w.n w.marks claim places₀ out₀
  unfolding close_up_outcome done_with reworked rounds_before pick when_done save_of edit_of closed_up
  together before rounds first count sheet₁ sheet₂ marks₁ marks₂ places out b f c s p t m r k o a = rw (← a, r, k, o, t, m, s, p, b, f, c)

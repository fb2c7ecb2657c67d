-- Each call's statement is `outcome ≡ f inputs`: its answer and every buffer at the end are determined by what it is given, so any two
-- outcomes that it allows are equal. One law for all calls; each family has its readings.
-- Assumes nothing.
use mathlib.Core.Path.{◌≡◌, sym, ◌∙◌}

-- any two that are the outcome are equal
abbrev pub Determined : {A : Type 0} → A → Type 0
Determined {A} outcome = (a b : A) → a ≡ outcome → b ≡ outcome → a ≡ b

pub determined : {A : Type 0} (outcome : A) → Determined outcome
determined outcome a b p q = p ∙ sym q

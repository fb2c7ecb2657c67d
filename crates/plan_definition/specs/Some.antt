-- Whether some element of a list passes a test; and an element among those of a list.
use Rattle.std.specs.Prelude.{Bool, false, ◌||◌, List, [], ◌∷◌}

module _ {A : Type 0} where
  unfoldable pub some : (A → Bool) → List A → Bool
  some f [] = false
  some f (a ∷ l) = f a || some f l

  pub data Among (a : A) : List A → Type 0 where
    here : {l : List A} → Among a (a ∷ l)
    later : {b : A} {l : List A} → Among a l → Among a (b ∷ l)

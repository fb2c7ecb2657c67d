-- What a sound sheet is: document 02, Q-1. Each rule of the request is a sentence of its own over the wells of the sheet.
use Rattle.std.specs.Prelude.{ℕ, ◌<◌, ◌≤◌, ◌≡◌, ◌↔◌, ◌⊎◌, false, List, [], ◌∷◌, length, get_or}
use Rattle.definition.specs.Refusal.{pick}
use Rattle.plan_definition.specs.declared.Link.{Link}
use Rattle.plan_definition.specs.declared.Well.{Well}
use Rattle.plan_definition.specs.Some.{Among}
use Rattle.plan_definition.specs.Well.{no_link}
use Rattle.plan_definition.specs.declared.Rule.TheVariants.{Number, Kind, LinkCount, Rate, Links, Shares, UnusedLinks, Repeat}
use Rattle.plan_definition.specs.Rules.{used, unused, total, struck, rule_number}

-- "well number (bytes 0-1, not zero)"
unfoldable pub KeepsNumber : Well → Type 0
KeepsNumber w = w.number ≡ 0 → ⊥

-- "kind (byte 2: 1 producer, 2 injector)"
unfoldable pub KeepsKind : Well → Type 0
KeepsKind w = (w.kind ≡ 1) ⊎ (w.kind ≡ 2)

-- "A producer has 0 to 4 links, none exactly when its rate is 0 .. An injector has none."
unfoldable pub KeepsLinkCount : Well → Type 0
KeepsLinkCount w = (w.kind ≡ 1 → (w.count ≤ 4) × ((w.count ≡ 0) ↔ (w.rate ≡ 0))) × (w.kind ≡ 2 → w.count ≡ 0)

-- "rate in tonnes a day (4-7, at most 100,000)"
unfoldable pub KeepsRate : Well → Type 0
KeepsRate w = w.rate ≤ 100000

-- "A link names an injector if some record of the sheet has that number and kind 2."
unfoldable pub NamesInjector : List Well → (number : ℕ) → Type 0
NamesInjector ws k = (v : Well) × Among v ws × (v.number ≡ k) × (v.kind ≡ 2)

-- "the links name different injectors of this sheet"
unfoldable pub KeepsLinks : List Well → Well → Type 0
KeepsLinks ws w =
    ((l : Link) → Among l (used w) → NamesInjector ws l.injector)
    × ((i j : ℕ) → i < j → j < length (used w) → (get_or (used w) i no_link).injector ≡ (get_or (used w) j no_link).injector → ⊥)

-- "else the shares are 1 to 1000 and total 1000": where there are links
unfoldable pub KeepsShares : Well → Type 0
KeepsShares w =
    (w.count ≡ 0 → ⊥)
    → ((l : Link) → Among l (used w) → (1 ≤ l.share) × (l.share ≤ 1000)) × (total (used w) ≡ 1000)

-- "Unused links are zero."
unfoldable pub KeepsUnusedLinks : Well → Type 0
KeepsUnusedLinks w = (l : Link) → Among l (unused w) → (l.injector ≡ 0) × (l.share ≡ 0)

-- "Well numbers don't repeat", which is "the fault of the later place"; a struck record makes no other a repeat
unfoldable pub KeepsRepeat : List Well → Well → Type 0
KeepsRepeat ws w = (v : Well) → Among v ws → v.place < w.place → struck v ≡ false → v.number ≡ w.number → ⊥

-- a well that keeps every rule
pub record Keeps (ws : List Well) (w : Well) : Type 0 where
  pub number : KeepsNumber w
  pub kind : KeepsKind w
  pub link-count : KeepsLinkCount w
  pub rate : KeepsRate w
  pub links : KeepsLinks ws w
  pub shares : KeepsShares w
  pub unused-links : KeepsUnusedLinks w
  pub repeat : KeepsRepeat ws w

-- a record that makes sense: it does, or is "exempt" (Q-11)
abbrev pub MakesSense : List Well → Well → Type 0
MakesSense ws w = struck w ≡ false → Keeps ws w

-- a sound sheet: every record of it makes sense
unfoldable pub Sound : List Well → Type 0
Sound ws = (w : Well) → Among w ws → MakesSense ws w

-- a sentence with its rule's number
abbrev pub Sentence : Type 1
Sentence = ℕ × Type 0

-- the sentence of number k is the first that doesn't hold
pub data FirstFalse (k : ℕ) : List Sentence → Type 1 where
  broken : {A : Type 0} {ss : List Sentence} → (A → ⊥) → FirstFalse k ((k, A) ∷ ss)
  kept : {n : ℕ} {A : Type 0} {ss : List Sentence} → A → FirstFalse k ss → FirstFalse k ((n, A) ∷ ss)

-- the sentences of the rules, in the request's order
unfoldable pub sentences_by : List Well → Well → List Sentence
sentences_by ws w =
    (rule_number Number, KeepsNumber w)
    ∷ (rule_number Kind, KeepsKind w)
    ∷ (rule_number LinkCount, KeepsLinkCount w)
    ∷ (rule_number Rate, KeepsRate w)
    ∷ (rule_number Links, KeepsLinks ws w)
    ∷ (rule_number Shares, KeepsShares w)
    ∷ (rule_number UnusedLinks, KeepsUnusedLinks w)
    ∷ (rule_number Repeat, KeepsRepeat ws w)
    ∷ []

-- and of a record, of which a struck one has none to keep
unfoldable pub sentences_at : List Well → Well → List Sentence
sentences_at ws w = pick (struck w) [] (sentences_by ws w)

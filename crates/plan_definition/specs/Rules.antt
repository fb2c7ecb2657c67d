-- The rules of a sheet that makes sense, as tests: document 02, Q-1. Each says when a well breaks it; `logic_at` has them in the request's order.
use Rattle.std.specs.Prelude.{ℕ, ◌+◌, Option, None, Some, Bool, true, false, not, ◌&&◌, ◌||◌, List, [], ◌∷◌, leb, ltb, eqb, take, drop}
use Rattle.definition.specs.Refusal.{Refusal, pick}
use Rattle.plan_definition.specs.declared.Link.{Link}
use Rattle.plan_definition.specs.declared.Well.{Well}
use Rattle.plan_definition.specs.declared.Rule.{Rule}
use Rattle.plan_definition.specs.declared.Rule.TheVariants.{Number, Kind, LinkCount, Rate, Links, Shares, UnusedLinks, Repeat}
use Rattle.plan_definition.specs.Some.{some}

-- "kind (byte 2: 1 producer, 2 injector)"
unfoldable pub producer : Well → Bool
producer w = eqb w.kind 1

unfoldable pub injector : Well → Bool
injector w = eqb w.kind 2

-- the links that a well uses, the first (link count) of its four, and those that it doesn't: of an injector, which has none, all
unfoldable pub used : Well → List Link
used w = take w.count w.links

unfoldable pub unused : Well → List Link
unused w = drop (pick (injector w) 0 w.count) w.links

-- "well number (bytes 0-1, not zero)"
unfoldable pub breaks_number : Well → Bool
breaks_number w = eqb w.number 0

unfoldable pub breaks_kind : Well → Bool
breaks_kind w = not (producer w || injector w)

-- "A producer has 0 to 4 links, none exactly when its rate is 0 .. An injector has none."
unfoldable pub differ : Bool → Bool → Bool
differ true b = not b
differ false b = b

unfoldable pub breaks_link_count : Well → Bool
breaks_link_count w =
    producer w && (ltb 4 w.count || differ (eqb w.count 0) (eqb w.rate 0))
    || injector w && not (eqb w.count 0)

-- "rate in tonnes a day (4-7, at most 100,000)"
unfoldable pub breaks_rate : Well → Bool
breaks_rate w = ltb 100000 w.rate

-- "the links name different injectors of this sheet": each names one, and none after it names the same
unfoldable pub names_same : Link → Link → Bool
names_same l m = eqb m.injector l.injector

unfoldable pub misnamed : (is_injector : ℕ → Bool) → List Link → Bool
misnamed is_injector [] = false
misnamed is_injector (l ∷ ls) = not (is_injector l.injector) || some (names_same l) ls || misnamed is_injector ls

unfoldable pub breaks_links : (is_injector : ℕ → Bool) → Well → Bool
breaks_links is_injector w = misnamed is_injector (used w)

-- "else the shares are 1 to 1000 and total 1000": where there are links
unfoldable pub no_share : Link → Bool
no_share l = not (leb 1 l.share && leb l.share 1000)

unfoldable pub total : List Link → ℕ
total [] = 0
total (l ∷ ls) = l.share + total ls

unfoldable pub breaks_shares : Well → Bool
breaks_shares w = not (eqb w.count 0) && (some no_share (used w) || not (eqb (total (used w)) 1000))

-- "Unused links are zero."
unfoldable pub not_zero : Link → Bool
not_zero l = not (eqb l.injector 0 && eqb l.share 0)

unfoldable pub breaks_unused_links : Well → Bool
breaks_unused_links w = some not_zero (unused w)

-- "a struck record: all 40 bytes zero" (Q-11)
unfoldable pub struck : Well → Bool
struck w =
    eqb w.number 0
    && (eqb w.kind 0 && (eqb w.count 0 && (eqb w.rate 0 && (not (some not_zero w.links) && not w.noted))))

-- whether a well has a number: "a struck record is no well"
unfoldable pub has_number : (number : ℕ) → Well → Bool
has_number k w = not (struck w) && eqb w.number k

-- "Well numbers don't repeat."
unfoldable pub breaks_repeat : (is_earlier : ℕ → Bool) → Well → Bool
breaks_repeat is_earlier w = is_earlier w.number

-- "A link names an injector if some record of the sheet has that number and kind 2."
unfoldable pub is_injector_of : List Well → (number : ℕ) → Bool
is_injector_of ws k = some (λ v. injector v && eqb v.number k) ws

-- "A repeat is the fault of the later place": whether a place before this one has the number
unfoldable pub is_before : List Well → (place number : ℕ) → Bool
is_before ws p k = some (λ v. ltb v.place p && has_number k v) ws

-- this paper's numbers of the rules
abbrev pub rule_number : Rule → ℕ
rule_number Number = 1
rule_number Kind = 2
rule_number LinkCount = 3
rule_number Rate = 4
rule_number Links = 5
rule_number Shares = 6
rule_number UnusedLinks = 7
rule_number Repeat = 8

-- and of the first that is broken, where none is 0
abbrev pub number_of : Option Rule → ℕ
number_of None = 0
number_of (Some rule) = rule_number rule

-- "in this order: number, kind, link count, rate, links, shares, unused links, repeat", read as refusals are; what a rule must know of the
-- other wells is handed over
unfoldable pub rules_by : (is_injector is_earlier : ℕ → Bool) → Well → List Refusal
rules_by is_injector is_earlier w =
    (rule_number Number, breaks_number w)
    ∷ (rule_number Kind, breaks_kind w)
    ∷ (rule_number LinkCount, breaks_link_count w)
    ∷ (rule_number Rate, breaks_rate w)
    ∷ (rule_number Links, breaks_links is_injector w)
    ∷ (rule_number Shares, breaks_shares w)
    ∷ (rule_number UnusedLinks, breaks_unused_links w)
    ∷ (rule_number Repeat, breaks_repeat is_earlier w)
    ∷ []

-- the rules of a well among the wells of its sheet: "Q-1 admits a struck record: .. exempt from its rules and from the repeat rule" (Q-11)
unfoldable pub rules_at : List Well → Well → List Refusal
rules_at ws w = pick (struck w) [] (rules_by (is_injector_of ws) (is_before ws w.place) w)

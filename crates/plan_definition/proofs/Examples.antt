-- The check of content at the edges of its rules, as one table under one theorem.
-- Assumes nothing.
use Prim.Native.Nat.{ℕ, ◌/◌, ◌%◌}
use mathlib.Core.Path.{◌≡◌}
use mathlib.Core.List.{List, [], ◌∷◌, ◌++◌}
use lib.ListN.{length, take, set, replicate}
use Rattle.definition.specs.Refusal.{SHEET}
use Rattle.definition.specs.Buffer.{joined}
use Rattle.plan_definition.specs.declared.Rule.TheVariants.{Number, Kind, LinkCount, Rate, Links, Shares, UnusedLinks, Repeat}
use Rattle.plan_definition.specs.declared.Verdict.{Verdict}
use Rattle.plan_definition.specs.declared.Verdict.TheVariants.{Refused, Sound, Fault}
use Rattle.plan_definition.specs.Check.{verdict}
use Rattle.plan_definition.proofs.Computed.{everything}

-- a number in two bytes, high byte first, and links in four each
abbrev pub two_bytes : ℕ → List ℕ
two_bytes k = k / 256 ∷ k % 256 ∷ []

abbrev pub link_bytes : List (ℕ × ℕ) → List ℕ
link_bytes [] = []
link_bytes (l ∷ ls) = two_bytes l.0 ++ two_bytes l.1 ++ link_bytes ls

-- a record of 40 bytes: its links are pairs of an injector and a share, those not given are zero, and the note is all ones
abbrev pub well : (number kind count rate : ℕ) → (links : List (ℕ × ℕ)) → List ℕ
well number kind count rate links =
    two_bytes number
    ++ kind ∷ count ∷ two_bytes (rate / 65536)
    ++ two_bytes (rate % 65536)
    ++ take 16 (link_bytes links ++ replicate 16 0)
    ++ replicate 16 1

-- an injector, and a producer of 100 tonnes a day that uses all its links
abbrev pub inj : (number : ℕ) → List ℕ
inj number = well number 2 0 50 []

abbrev pub prod : (number : ℕ) → (links : List (ℕ × ℕ)) → List ℕ
prod number links = well number 1 (length links) 100 links

-- a struck record, and one that lacks it by a byte
abbrev pub gone : List ℕ
gone = replicate 40 0

abbrev pub all_but : (byte : ℕ) → List ℕ
all_but i = set gone i 1

-- the verdict on records, and on one at place 0 before injectors 2 to 5
abbrev pub check : List (List ℕ) → Verdict
check xs = verdict (joined xs) (length xs)

abbrev pub first : List ℕ → Verdict
first x = check (x ∷ inj 2 ∷ inj 3 ∷ inj 4 ∷ inj 5 ∷ [])

abbrev pub quarters : List (ℕ × ℕ)
quarters = (2, 250) ∷ (3, 250) ∷ (4, 250) ∷ (5, 250) ∷ []

pub record Table : Type 0 where
  pub no_records : check [] ≡ Sound
  pub producer_and_injector : check (prod 1 ((2, 1000) ∷ []) ∷ inj 2 ∷ []) ≡ Sound
  pub injector-before : check (inj 2 ∷ prod 1 ((2, 1000) ∷ []) ∷ []) ≡ Sound
  pub forty_zeros : check (gone ∷ []) ≡ Sound
  pub number_0 : first (prod 0 ((2, 1000) ∷ [])) ≡ Fault Number 0
  pub number_65535 : first (prod 65535 ((2, 1000) ∷ [])) ≡ Sound
  pub kind_0 : first (well 1 0 0 0 []) ≡ Fault Kind 0
  pub kind_3 : first (well 1 3 0 0 []) ≡ Fault Kind 0
  pub no_links_no_rate : first (well 1 1 0 0 []) ≡ Sound
  pub no_links_but_rate : first (well 1 1 0 1 []) ≡ Fault LinkCount 0
  pub links_but_no_rate : first (well 1 1 1 0 ((2, 1000) ∷ [])) ≡ Fault LinkCount 0
  pub links-4 : first (well 1 1 4 100 quarters) ≡ Sound
  pub links-5 : first (well 1 1 5 100 quarters) ≡ Fault LinkCount 0
  pub injector_with_link : first (well 1 2 1 50 ((2, 1000) ∷ [])) ≡ Fault LinkCount 0
  pub rate_100000 : first (well 1 1 1 100000 ((2, 1000) ∷ [])) ≡ Sound
  pub rate_100001 : first (well 1 1 1 100001 ((2, 1000) ∷ [])) ≡ Fault Rate 0
  pub injector_rate_100001 : first (well 1 2 0 100001 []) ≡ Fault Rate 0
  pub link_to_none : first (prod 1 ((9, 1000) ∷ [])) ≡ Fault Links 0
  pub link_to_producer : check (prod 1 ((3, 1000) ∷ []) ∷ inj 2 ∷ prod 3 ((2, 1000) ∷ []) ∷ []) ≡ Fault Links 0
  pub link_doubled : first (prod 1 ((2, 500) ∷ (2, 500) ∷ [])) ≡ Fault Links 0
  -- an injector of number 0 is named rightly, and is itself at fault
  pub link_to_number_0 : check (prod 1 ((0, 1000) ∷ []) ∷ inj 0 ∷ []) ≡ Fault Number 1
  pub shares_1_and_999 : first (prod 1 ((2, 1) ∷ (3, 999) ∷ [])) ≡ Sound
  pub shares_0_and_1000 : first (prod 1 ((2, 0) ∷ (3, 1000) ∷ [])) ≡ Fault Shares 0
  pub shares_total_999 : first (prod 1 ((2, 499) ∷ (3, 500) ∷ [])) ≡ Fault Shares 0
  pub shares_total_1001 : first (prod 1 ((2, 501) ∷ (3, 500) ∷ [])) ≡ Fault Shares 0
  pub share_1001 : first (prod 1 ((2, 1001) ∷ [])) ≡ Fault Shares 0
  pub unused-injector : first (well 1 1 1 100 ((2, 1000) ∷ (3, 0) ∷ [])) ≡ Fault UnusedLinks 0
  pub unused-share : first (well 1 1 3 100 ((2, 250) ∷ (3, 250) ∷ (4, 500) ∷ (0, 1) ∷ [])) ≡ Fault UnusedLinks 0
  pub injector_unused_share : first (well 1 2 0 50 ((0, 1) ∷ [])) ≡ Fault UnusedLinks 0
  pub repeat_at_later_place : first (inj 5) ≡ Fault Repeat 4
  pub repeat_across_kinds : check (prod 2 ((2, 1000) ∷ []) ∷ inj 2 ∷ []) ≡ Fault Repeat 1
  -- two rules broken at one place: the first of them
  pub kind_before_rate : first (well 1 3 0 200000 []) ≡ Fault Kind 0
  pub link_count_before_rate : first (well 1 1 0 200000 []) ≡ Fault LinkCount 0
  pub rate_before_links : first (well 1 1 1 200000 ((9, 1000) ∷ [])) ≡ Fault Rate 0
  pub links_before_shares : first (prod 1 ((9, 999) ∷ [])) ≡ Fault Links 0
  pub shares_before_unused_links : first (well 1 1 1 100 ((2, 999) ∷ (3, 1) ∷ [])) ≡ Fault Shares 0
  pub unused_links_before_repeat : check (inj 2 ∷ well 2 2 0 50 ((0, 1) ∷ []) ∷ []) ≡ Fault UnusedLinks 1
  -- two faulty places: the lower of them, even if its rule ranks later
  pub lower_place : check (inj 2 ∷ inj 2 ∷ inj 0 ∷ []) ≡ Fault Repeat 1
  -- struck records are no wells: they break nothing, repeat nothing and are linked by nobody
  pub two-struck : check (gone ∷ gone ∷ []) ≡ Sound
  pub all_struck : check (replicate 9 gone) ≡ Sound
  pub struck_first_and_last : check (gone ∷ prod 1 ((2, 1000) ∷ []) ∷ inj 2 ∷ gone ∷ []) ≡ Sound
  pub struck_between : check (prod 1 ((2, 1000) ∷ []) ∷ gone ∷ gone ∷ inj 2 ∷ []) ≡ Sound
  pub struck_beside_repeat : check (inj 2 ∷ gone ∷ gone ∷ inj 2 ∷ []) ≡ Fault Repeat 3
  pub struck_before_number_0 : check (gone ∷ inj 0 ∷ []) ≡ Fault Number 1
  pub link_to_struck : check (prod 1 ((0, 1000) ∷ []) ∷ gone ∷ []) ≡ Fault Links 0
  -- one byte makes a record that isn't struck: its kind, count, rate, a link or its note
  pub low_number_byte : check (all_but 1 ∷ []) ≡ Fault Kind 0
  pub kind-byte : check (gone ∷ all_but 2 ∷ []) ≡ Fault Number 1
  pub count-byte : check (all_but 3 ∷ []) ≡ Fault Number 0
  pub rate-byte : check (all_but 7 ∷ []) ≡ Fault Number 0
  pub first_link_byte : check (all_but 8 ∷ []) ≡ Fault Number 0
  pub last_link_byte : check (all_but 23 ∷ []) ≡ Fault Number 0
  pub first_note_byte : check (all_but 24 ∷ []) ≡ Fault Number 0
  pub last_note_byte : check (gone ∷ all_but 39 ∷ []) ≡ Fault Number 1
  -- a record past n is none of the sheet
  pub injector_past_n : verdict (joined (prod 1 ((2, 1000) ∷ []) ∷ inj 2 ∷ [])) 1 ≡ Fault Links 0
  pub n_1025 : (sheet : List ℕ) → verdict sheet 1025 ≡ Refused SHEET
  pub bytes_39 : verdict (replicate 39 0) 1 ≡ Refused SHEET

pub content_examples : Table
unfolding everything joined
content_examples = search

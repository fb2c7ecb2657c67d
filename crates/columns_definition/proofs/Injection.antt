-- Column and word forms agree: the matrices of 3.2.1 to 3.2.3 on a dump give the dump of what they give on the words. Once, over w.
-- Assumes nothing.
use mathlib.Core.Path.{◌≡◌, refl, sym, ap, ap₂, ◌∙◌}
use mathlib.Core.List.{List, [], ◌∷◌, ◌++◌, map, map-append}
use Prim.Native.Nat.{ℕ, ◌+◌, ◌*◌, ◌^◌, ◌<◌}
use native.Mathlib.Omega.{arith}
use lib.Bits.{bit_xor}
use lib.ListN.{length, get_or, length-map}
use Rattle.definition.specs.declared.Block.{Block}
use Rattle.definition.specs.declared.Width.{Width}
use Rattle.definition.specs.Block.{zero_block}
use Rattle.definition.specs.Field.{times, element}
use Rattle.definition.specs.Injection.{matrix, row, inject}
use Rattle.definition.specs.Width.{block_count}
use Rattle.definition.proofs.Chain.{length-inject}
use Rattle.definition.proofs.Field.{times-element, element-⊕, element-zero}
use Rattle.columns_definition.specs.Dump.{up_to, column, dump, block_at, undump}
use Rattle.columns_definition.specs.Columns.{row_sum, inject_column, inject_dump}
use Rattle.columns_definition.proofs.Rows.{length-up_to, rows_cong}
use Rattle.columns_definition.proofs.Dumps.{dump-column, dump-place, dump-undump}

-- 3.2: a row times the blocks is, at position l, the row times their elements
row-element : (l : ℕ) (cs : List ℕ) (bs : List Block) → element l (row cs bs) ≡ row_sum cs (map (element l) bs)
unfolding row row_sum
row-element l [] bs = element-zero l
row-element l (c ∷ cs) [] = element-zero l
row-element l (c ∷ cs) (b ∷ bs) =
    element-⊕ l (times c b) (row cs bs) ∙ ap₂ bit_xor (times-element l c b) (row-element l cs bs)

-- and so each position of the injection is the injection at that position
pub inject-column : (w : Width) (l : ℕ) (h : List Block) (m : Block) → inject_column w (column l h) (element l m) ≡ column l (inject w h m)
unfolding inject_column inject column
inject-column w l h m = each (matrix w)
  where
    each : (rs : List (List ℕ))
        → map (λ cs. row_sum cs (map (element l) h ++ element l m ∷ [])) rs ≡ map (element l) (map (λ cs. row cs (h ++ m ∷ [])) rs)
    each [] = refl
    each (cs ∷ rs) =
        ap₂ ◌∷◌ (ap (row_sum cs) (sym (map-append (element l) h (m ∷ []))) ∙ sym (row-element l cs (h ++ m ∷ []))) (each rs)

-- a message block's byte l is its element
pub message-place : (l : ℕ) (m : Block) → l < 32 → get_or (dump (m ∷ [])) l 0 ≡ element l m
message-place l m h =
    let i : 1 * l + 0 ≡ l = omega arith in
    rw i at (dump-place 1 l 0 (m ∷ []) refl h (omega arith))

-- "Column and word forms agree on every state and message block at each w"
pub inject-dump : (w : Width) (h : List Block) (m : Block) → length h ≡ block_count w → inject_dump w (dump h) (dump (m ∷ [])) ≡ dump (inject w h m)
unfolding inject_dump
inject-dump w h m e =
    rows_cong 32 _ (λ l. column l (inject w h m))
    (λ l k.
    ap₂ (inject_column w) (dump-column (block_count w) l h e k) (message-place l m k) ∙ inject-column w l h m)
    ∙ unfold dump in refl

-- so on any 32w bytes, which are the dump of what is read from them, and any 32 bytes of a message
pub inject_any : (w : Width) (d m : List ℕ) → length d ≡ 32 * block_count w → length m ≡ 32
    → ((i : ℕ) → get_or d i 0 < 2 ^ 8) → ((i : ℕ) → get_or m i 0 < 2 ^ 8)
    → inject_dump w d m ≡ dump (inject w (undump (block_count w) d) (block_at 1 0 m))
inject_any w d m e k b c =
    ap₂ (inject_dump w) (sym (dump-undump (block_count w) d e b)) (sym one)
    ∙ inject-dump w (undump (block_count w) d) (block_at 1 0 m) (unfold undump in (length-up_to (block_count w) (λ j. block_at (block_count w) j d)))
  where
    one : dump (block_at 1 0 m ∷ []) ≡ m
    one = unfold undump up_to in (dump-undump 1 m k c)

-- w bytes come of a position
pub length_injected : (w : Width) (es : List ℕ) (m : ℕ) → length (inject_column w es m) ≡ block_count w
unfolding inject_column inject
length_injected w es m = length-map (matrix w) _ ∙ sym (length-map (matrix w) _) ∙ length-inject w [] zero_block

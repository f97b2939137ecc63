-- The one spelling of a transaction.
use Rattle.std.specs.Prelude.{ℕ, List, [], ◌∷◌, length}
use Rattle.std.specs.List.{concat, flat_map}
use Rattle.blend_rules.specs.Colour.{colour_bytes}
use Rattle.field_forms.specs.Spelling.{u16_bytes, u32_bytes, i32_bytes, flag_bytes}
use Rattle.txn_format.specs.Txn.{OpModel, PlacedModel, TxnModel, set_list, remove_pipeline, scroll, set_offset, set_opacity, add_image, update_image, delete_image, add_glyph, delete_font, set_view, tile_policy, drop_tiles}

-- an operation's tag
abbrev pub op_tag : OpModel → ℕ
op_tag (set_list epoch bytes) = 1
op_tag remove_pipeline = 2
op_tag (scroll sid x y) = 3
op_tag (set_offset id x y) = 4
op_tag (set_opacity id opacity) = 4
op_tag (add_image key w h pixels) = 5
op_tag (update_image key x y w h pixels) = 6
op_tag (delete_image key) = 7
op_tag (add_glyph font glyph w h mask) = 8
op_tag (delete_font font) = 9
op_tag (set_view w h clear) = 10
op_tag (tile_policy tw th budget) = 11
op_tag drop_tiles = 12

-- the bytes after the tag
abbrev pub op_fields : OpModel → List ℕ
op_fields (set_list epoch bytes) = concat (u32_bytes epoch ∷ u32_bytes (length bytes) ∷ bytes ∷ [])
op_fields remove_pipeline = []
op_fields (scroll sid x y) = concat (u16_bytes sid ∷ i32_bytes x ∷ i32_bytes y ∷ [])
op_fields (set_offset id x y) = 0 ∷ concat (u16_bytes id ∷ i32_bytes x ∷ i32_bytes y ∷ [])
op_fields (set_opacity id opacity) = 1 ∷ concat (u16_bytes id ∷ (opacity ∷ []) ∷ [])
op_fields (add_image key w h pixels) = concat (u32_bytes key ∷ u16_bytes w ∷ u16_bytes h ∷ pixels ∷ [])
op_fields (update_image key x y w h pixels) = concat (u32_bytes key ∷ u16_bytes x ∷ u16_bytes y ∷ u16_bytes w ∷ u16_bytes h ∷ pixels ∷ [])
op_fields (delete_image key) = u32_bytes key
op_fields (add_glyph font glyph w h mask) = concat (u16_bytes font ∷ u16_bytes glyph ∷ u16_bytes w ∷ u16_bytes h ∷ mask ∷ [])
op_fields (delete_font font) = u16_bytes font
op_fields (set_view w h clear) = concat (u16_bytes w ∷ u16_bytes h ∷ colour_bytes clear ∷ [])
op_fields (tile_policy tw th budget) = concat (u16_bytes tw ∷ u16_bytes th ∷ u32_bytes budget ∷ [])
op_fields drop_tiles = []

-- the bytes of an operation
abbrev pub op_bytes : OpModel → List ℕ
op_bytes op = op_tag op ∷ op_fields op

-- the same; its position isn't written
abbrev pub placed_bytes : PlacedModel → List ℕ
placed_bytes p = op_bytes p.op

-- the bytes of a transaction; its length and its positions aren't written
abbrev pub txn_bytes : TxnModel → List ℕ
txn_bytes t = t.pipeline ∷ concat (flag_bytes t.frame ∷ u16_bytes (length t.ops) ∷ flat_map placed_bytes t.ops ∷ [])

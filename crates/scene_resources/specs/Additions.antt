-- How many images and masks a transaction adds or updates.
use Rattle.std.specs.Prelude.{ℕ, ◌+◌, List, [], ◌∷◌}
use Rattle.txn_format.specs.Txn.{OpModel, PlacedModel, set_list, remove_pipeline, scroll, set_offset, set_opacity, add_image, update_image, delete_image, add_glyph, delete_font, set_view, tile_policy, drop_tiles}

-- one for an operation that adds or updates an image or adds a glyph, none for any other
abbrev pub added_by : OpModel → ℕ
added_by (set_list epoch bytes) = 0
added_by remove_pipeline = 0
added_by (scroll sid x y) = 0
added_by (set_offset id x y) = 0
added_by (set_opacity id opacity) = 0
added_by (add_image key w h pixels) = 1
added_by (update_image key x y w h pixels) = 1
added_by (delete_image key) = 0
added_by (add_glyph font glyph w h mask) = 1
added_by (delete_font font) = 0
added_by (set_view w h clear) = 0
added_by (tile_policy tw th budget) = 0
added_by drop_tiles = 0

-- how many operations add or update
abbrev pub additions : List PlacedModel → ℕ
additions [] = 0
additions (o ∷ os) = added_by o.op + additions os

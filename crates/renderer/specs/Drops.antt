-- Which transactions give all kept tiles up: those that say so, and those that give tiles other sides.
use Rattle.std.specs.Prelude.{ℕ, Bool, true, false, not, ◌&&◌, ◌||◌, ◌==◌, List, [], ◌∷◌, if◌then◌else◌}
use Rattle.tile_grid.specs.declared.tile.TileSides.{TileSides}
use Rattle.txn_format.specs.Txn.{OpModel, PlacedModel, TxnModel, set_list, remove_pipeline, scroll, set_offset, set_opacity, add_image, update_image, delete_image, add_glyph, delete_font, set_view, tile_policy, drop_tiles}
use Rattle.scene_state.specs.declared.policy.Policy.{Policy}

-- the sides of a policy's tiles
abbrev pub sides_of : Policy → TileSides
sides_of p = record { width = p.tw; height = p.th }

-- whether a policy's tiles have these sides
abbrev pub has_sides : Policy → ℕ → ℕ → Bool
has_sides p tw th = (p.tw == tw) && (p.th == th)

-- the policy after an operation
abbrev pub policy_after : OpModel → Policy → Policy
policy_after (set_list epoch bytes) p = p
policy_after remove_pipeline p = p
policy_after (scroll sid x y) p = p
policy_after (set_offset id x y) p = p
policy_after (set_opacity id opacity) p = p
policy_after (add_image key w h pixels) p = p
policy_after (update_image key x y w h pixels) p = p
policy_after (delete_image key) p = p
policy_after (add_glyph font glyph w h mask) p = p
policy_after (delete_font font) p = p
policy_after (set_view w h clear) p = p
policy_after (tile_policy tw th budget) p = record { tw = tw; th = th; budget = budget }
policy_after drop_tiles p = p

-- whether an operation under a policy gives all tiles up
abbrev pub gives_up : OpModel → Policy → Bool
gives_up (set_list epoch bytes) p = false
gives_up remove_pipeline p = false
gives_up (scroll sid x y) p = false
gives_up (set_offset id x y) p = false
gives_up (set_opacity id opacity) p = false
gives_up (add_image key w h pixels) p = false
gives_up (update_image key x y w h pixels) p = false
gives_up (delete_image key) p = false
gives_up (add_glyph font glyph w h mask) p = false
gives_up (delete_font font) p = false
gives_up (set_view w h clear) p = false
gives_up (tile_policy tw th budget) p = not (has_sides p tw th)
gives_up drop_tiles p = true

-- whether one of some operations does, the first of them under this policy
abbrev pub any_gives_up : List PlacedModel → Policy → Bool
any_gives_up [] p = false
any_gives_up (o ∷ os) p = gives_up o.op p || any_gives_up os (policy_after o.op p)

-- what is left of a list of kept tiles, or of their records, before a transaction's frame is drawn
abbrev pub tiles_left : {X : Type 0} → TxnModel → Policy → List X → List X
tiles_left t p kept = if any_gives_up t.ops p then [] else kept

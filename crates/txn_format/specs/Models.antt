-- The operations that a transaction holds, as contracts see them: with the bytes that they borrow.
use Rattle.std.specs.Prelude.{List, map}
use Rattle.txn_format.specs.declared.op.Op.{Op}
use Rattle.txn_format.specs.declared.op.Op.TheVariants as op
use Rattle.txn_format.specs.declared.op.Placed.{Placed}
use Rattle.txn_format.specs.declared.txn.Fields.{Fields}
use Rattle.txn_format.specs.Txn.{OpModel, PlacedModel, TxnModel, set_list, remove_pipeline, scroll, set_offset, set_opacity, add_image, update_image, delete_image, add_glyph, delete_font, set_view, tile_policy, drop_tiles}

-- what a contract sees of an operation
abbrev pub op_model : Op → OpModel
op_model (op.SetList epoch bytes) = set_list epoch bytes.now
op_model op.RemovePipeline = remove_pipeline
op_model (op.Scroll sid x y) = scroll sid x y
op_model (op.SetOffset id x y) = set_offset id x y
op_model (op.SetOpacity id opacity) = set_opacity id opacity
op_model (op.AddImage key w h pixels) = add_image key w h pixels.now
op_model (op.UpdateImage key x y w h pixels) = update_image key x y w h pixels.now
op_model (op.DeleteImage key) = delete_image key
op_model (op.AddGlyph font glyph w h mask) = add_glyph font glyph w h mask.now
op_model (op.DeleteFont font) = delete_font font
op_model (op.SetView w h clear) = set_view w h clear
op_model (op.TilePolicy tw th budget) = tile_policy tw th budget
op_model op.DropTiles = drop_tiles

-- of an operation with its position
abbrev pub placed_model : Placed → PlacedModel
placed_model p = record { at = p.at; op = op_model p.op }

-- of operations in order
abbrev pub placed_models : List Placed → List PlacedModel
placed_models = map placed_model

-- of a transaction's fields
abbrev pub txn_model : Fields → TxnModel
txn_model f = record { pipeline = f.pipeline; frame = f.frame; len = f.len; ops = placed_models f.ops.items }

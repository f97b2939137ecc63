-- What a contract sees of a transaction: its operations with the bytes that they hold.
use Rattle.std.specs.Prelude.{ℕ, ℤ, Bool, List}
use Rattle.blend_rules.specs.declared.colour.Px.{Px}

-- One operation. An image's bytes are texels row by row, each blue, green, red and alpha; a glyph's are masks row by row.
pub data OpModel : Type 0 where
  set_list : (epoch : ℕ) (bytes : List ℕ) → OpModel
  remove_pipeline : OpModel
  scroll : (sid : ℕ) (x y : ℤ) → OpModel
  set_offset : (id : ℕ) (x y : ℤ) → OpModel
  set_opacity : (id opacity : ℕ) → OpModel
  add_image : (key w h : ℕ) (pixels : List ℕ) → OpModel
  update_image : (key x y w h : ℕ) (pixels : List ℕ) → OpModel
  delete_image : (key : ℕ) → OpModel
  add_glyph : (font glyph w h : ℕ) (mask : List ℕ) → OpModel
  delete_font : (font : ℕ) → OpModel
  set_view : (w h : ℕ) (clear : Px) → OpModel
  tile_policy : (tw th budget : ℕ) → OpModel
  drop_tiles : OpModel

-- an operation and the position of its tag in the payload
pub record PlacedModel : Type 0 where
  pub at : ℕ
  pub op : OpModel

-- the pipeline, whether a frame is asked for, the payload's length in bytes, and the operations in order
pub record TxnModel : Type 0 where
  pub pipeline : ℕ
  pub frame : Bool
  pub len : ℕ
  pub ops : List PlacedModel

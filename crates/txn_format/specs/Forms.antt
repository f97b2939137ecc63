-- The fields of a transaction's payload in a row, each with its checks.
use Rattle.std.specs.Prelude.{ℕ, ◌*◌, ◌^◌, Bool, ◌&&◌, nat_lt, nat_le, ◌==◌}
use Rattle.std.specs.Int.{w16, w32}
use Rattle.wr_io.specs.declared.fault.Code.{Code}
use Rattle.wr_io.specs.declared.fault.Code.TheVariants as code
use Rattle.field_forms.specs.Form.{Form, done, here, piece, refuse, choose, ◌>>=◌}
use Rattle.field_forms.specs.Numbers.{byte, number}
use Rattle.field_forms.specs.Fields.{refuse_if, refuse_unless, times, flag, coordinate, colour}
use Rattle.txn_format.specs.Txn.{OpModel, PlacedModel, TxnModel, set_list, remove_pipeline, scroll, set_offset, set_opacity, add_image, update_image, delete_image, add_glyph, delete_font, set_view, tile_policy, drop_tiles}

-- whether a number is one of those from low to high
unfoldable pub is_from_to : ℕ → ℕ → ℕ → Bool
is_from_to low high n = nat_le low n && nat_le n high

-- a number of two bytes from low to high
unfoldable pub u16_between : ℕ → ℕ → Code → Form ℕ
u16_between low high c = refuse_unless (is_from_to low high) c (number w16)

-- a property's id; 65535 is none
unfoldable pub property_id : Form ℕ
property_id = refuse_if (λ n. n == 65535) code.BadNumber (number w16)

-- ---- the fields after an operation's tag

-- an epoch, and a list as one field
unfoldable pub set_list_form : Form OpModel
set_list_form = do
  epoch ← number w32
  len ← number w32
  bytes ← piece len
  done (set_list epoch bytes)

-- a scroll number and a position
unfoldable pub scroll_form : Form OpModel
scroll_form = do
  sid ← number w16
  x ← coordinate
  y ← coordinate
  done (scroll sid x y)

-- the value of a property that is an offset
unfoldable pub set_offset_form : ℕ → Form OpModel
set_offset_form id = do
  x ← coordinate
  y ← coordinate
  done (set_offset id x y)

-- the value of a property that is an opacity
unfoldable pub set_opacity_form : ℕ → Form OpModel
set_opacity_form id = do
  opacity ← byte
  done (set_opacity id opacity)

-- a kind of 1 sets an opacity, and one of 0 an offset
unfoldable pub set_property_form : Form OpModel
set_property_form = do
  is_opacity ← flag
  id ← property_id
  choose is_opacity (set_opacity_form id) (set_offset_form id)

-- a side of an image or a glyph, in texels
unfoldable pub image_side : Form ℕ
image_side = u16_between 1 4096 code.Limit

-- an image, four bytes a texel
unfoldable pub add_image_form : Form OpModel
add_image_form = do
  key ← number w32
  w ← image_side
  h ← image_side
  pixels ← piece (4 * (w * h))
  done (add_image key w h pixels)

-- a rectangle of texels of an image
unfoldable pub update_image_form : Form OpModel
update_image_form = do
  key ← number w32
  x ← number w16
  y ← number w16
  w ← image_side
  h ← image_side
  pixels ← piece (4 * (w * h))
  done (update_image key x y w h pixels)

-- an image's key
unfoldable pub delete_image_form : Form OpModel
delete_image_form = do
  key ← number w32
  done (delete_image key)

-- a glyph's mask, a byte a texel
unfoldable pub add_glyph_form : Form OpModel
add_glyph_form = do
  font ← number w16
  glyph ← number w16
  w ← image_side
  h ← image_side
  mask ← piece (w * h)
  done (add_glyph font glyph w h mask)

-- a font
unfoldable pub delete_font_form : Form OpModel
delete_font_form = do
  font ← number w16
  done (delete_font font)

-- a side of the view, in pixels
unfoldable pub view_side : Form ℕ
view_side = u16_between 1 4096 code.BadNumber

-- the view's sides and the colour behind all
unfoldable pub set_view_form : Form OpModel
set_view_form = do
  w ← view_side
  h ← view_side
  clear ← colour
  done (set_view w h clear)

-- a side of a tile, in pixels
unfoldable pub tile_side : Form ℕ
tile_side = u16_between 64 1024 code.BadNumber

-- so many tiles, with few enough pixels in all
unfoldable pub tile_budget : ℕ → ℕ → Form ℕ
tile_budget tw th =
    refuse_unless (λ budget. nat_le (tw * th * budget) (2 ^ 28)) code.Limit
    (refuse_unless (is_from_to 1 65536) code.BadNumber (number w32))

-- a tile's sides and how many tiles are kept
unfoldable pub tile_policy_form : Form OpModel
tile_policy_form = do
  tw ← tile_side
  th ← tile_side
  budget ← tile_budget tw th
  done (tile_policy tw th budget)

-- ---- an operation by its tag, which stands at a position

-- up to tag 4
unfoldable pub scene_op_form : ℕ → ℕ → Form OpModel
scene_op_form at tag =
    choose (tag == 1) set_list_form
    (choose (tag == 2) (done remove_pipeline)
    (choose (tag == 3) scroll_form
    (choose (tag == 4) set_property_form (refuse code.BadTag at))))

-- from tag 5 up to tag 9
unfoldable pub resource_op_form : ℕ → Form OpModel
resource_op_form tag =
    choose (tag == 5) add_image_form
    (choose (tag == 6) update_image_form
    (choose (tag == 7) delete_image_form
    (choose (tag == 8) add_glyph_form delete_font_form)))

-- from tag 10 on: operations of the root pipeline, 0, alone
unfoldable pub root_op_form : ℕ → ℕ → ℕ → Form OpModel
root_op_form pipeline at tag =
    choose (nat_lt 12 tag) (refuse code.BadTag at)
    (choose (pipeline == 0)
    (choose (tag == 10) set_view_form (choose (tag == 11) tile_policy_form (done drop_tiles)))
    (refuse code.NotRoot at))

-- by the tag
unfoldable pub op_form : ℕ → ℕ → ℕ → Form OpModel
op_form pipeline at tag =
    choose (nat_le tag 4) (scene_op_form at tag) (choose (nat_le tag 9) (resource_op_form tag) (root_op_form pipeline at tag))

-- an operation of a pipeline's transaction, with its tag
unfoldable pub placed_form : ℕ → Form PlacedModel
placed_form pipeline = do
  at ← here
  tag ← byte
  op ← op_form pipeline at tag
  done (record { at = at; op = op })

-- ---- a transaction

-- a pipeline's number
unfoldable pub pipeline_form : Form ℕ
pipeline_form = refuse_if (nat_lt 63) code.BadNumber byte

-- the head, so many operations, and the position where they end
unfoldable pub txn_form : Form TxnModel
txn_form = do
  pipeline ← pipeline_form
  frame ← flag
  count ← number w16
  ops ← times count (placed_form pipeline)
  len ← here
  done (record { pipeline = pipeline; frame = frame; len = len; ops = ops })

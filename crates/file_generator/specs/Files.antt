-- The file that a number makes: so many transactions of the root pipeline, each with a frame.
use Rattle.std.specs.Prelude.{ℕ, zero, suc, ◌+◌, ◌==◌, pos, List, [], ◌∷◌, ◌++◌, length, map, true, if◌then◌else◌}
use Rattle.std.specs.List.{flat_map}
use Rattle.blend_rules.specs.Colour.{colour_bytes}
use Rattle.field_forms.specs.Spelling.{u32_bytes}
use Rattle.display_list.specs.Spelling.{spelling}
use Rattle.txn_format.specs.Txn.{OpModel, set_list, scroll, set_opacity, add_image, update_image, set_view, tile_policy}
use Rattle.txn_format.specs.Spelling.{txn_bytes}
use Rattle.record_frame.specs.Transactions.{input_magic}
use Rattle.file_generator.specs.Rolls.{Rolled, roll, rolled_list, rolled_grey}
use Rattle.file_generator.specs.Lists.{rolled_display_list, opaque_grey}

-- sets a rolled list, with an epoch
abbrev pub list_op : ℕ → ℕ → Rolled OpModel
list_op epoch x = record { value = set_list epoch (spelling (rolled_display_list x).value); state = (rolled_display_list x).state }

-- image 1, four by four texels of grey
abbrev pub image_op : ℕ → Rolled OpModel
image_op x =
    let texels = rolled_list rolled_grey 16 x in
    record { value = add_image 1 4 4 (flat_map colour_bytes texels.value); state = texels.state }

-- the first transaction: the view, the tile policy, the image, and a list
abbrev pub first_ops : ℕ → Rolled (List OpModel)
first_ops x =
    let image = image_op x in
    let shown = list_op 0 image.state in
    record {
      value = set_view 256 192 (opaque_grey 255) ∷ (tile_policy 64 64 256 ∷ (image.value ∷ (shown.value ∷ [])));
      state = shown.state;
    }

-- scrolls the page
abbrev pub scroll_op : ℕ → Rolled OpModel
scroll_op x =
    let y = roll 512 x in
    record { value = scroll 1 (pos 0) (pos y.value); state = y.state }

-- gives one texel of the image another grey
abbrev pub texel_op : ℕ → Rolled OpModel
texel_op start =
    let x = roll 4 start in
    let y = roll 4 x.state in
    let texel = rolled_grey y.state in
    record { value = update_image 1 x.value y.value 1 1 (colour_bytes texel.value); state = texel.state }

-- sets the opacity property of the list's context
abbrev pub opacity_op : ℕ → Rolled OpModel
opacity_op x =
    let opacity = roll 256 x in
    record { value = set_opacity 1 opacity.value; state = opacity.state }

-- one operation, by its kind
abbrev pub later_op : ℕ → ℕ → ℕ → Rolled OpModel
later_op kind k x = if kind == 0 then list_op k x else if kind == 1 then scroll_op x else if kind == 2 then texel_op x else opacity_op x

-- transaction k after the first: one operation
abbrev pub later_ops : ℕ → ℕ → Rolled (List OpModel)
later_ops k x =
    let kind = roll 4 x in
    let op = later_op kind.value k kind.state in
    record { value = op.value ∷ []; state = op.state }

-- the operations of transaction k, from 0
unfoldable pub ops : ℕ → ℕ → Rolled (List OpModel)
ops k x = if k == 0 then first_ops x else later_ops k x

-- a transaction of the root pipeline with a frame
abbrev pub payload_bytes : List OpModel → List ℕ
payload_bytes ops = txn_bytes (record { pipeline = 0; frame = true; len = 0; ops = map (λ op. record { at = 0; op = op }) ops })

-- where the making of a file is: the number of the next transaction, and the state of the rolls
pub record Generating : Type 0 where
  pub next : ℕ
  pub state : ℕ

-- the next payload
abbrev pub next_payload : Generating → List ℕ
next_payload g = payload_bytes (ops g.next g.state).value

-- and what follows it
abbrev pub after_payload : Generating → Generating
after_payload g = record { next = g.next + 1; state = (ops g.next g.state).state }

-- the payloads of n transactions from transaction k on
abbrev pub payloads_from : ℕ → ℕ → ℕ → List (List ℕ)
payloads_from k zero x = []
payloads_from k (suc n) x = payload_bytes (ops k x).value ∷ payloads_from (k + 1) n (ops k x).state

-- the payloads that a number makes
abbrev pub payloads : ℕ → ℕ → List (List ℕ)
payloads number count = payloads_from 0 count number

-- a payload after T and its length
abbrev pub framed : List ℕ → List ℕ
framed payload = 84 ∷ (u32_bytes (length payload) ++ payload)

-- the whole file, with its magic and its closing byte
unfoldable pub file : ℕ → ℕ → List ℕ
file number count = input_magic ++ (flat_map framed (payloads number count) ++ 90 ∷ [])

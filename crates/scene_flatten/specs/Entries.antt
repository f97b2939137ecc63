-- The entries of a scene's items: what is painted over a stack of colours gives what the painter gives.
use Rattle.std.specs.Prelude.{ℕ, zero, suc, List, [], ◌∷◌, ◌++◌, Option, Some, None, if◌then◌else◌}
use Rattle.wr_geom.specs.declared.point.Point.{Point}
use Rattle.clip_masks.specs.declared.clip.Clip.{Clip}
use Rattle.display_list.specs.declared.item.Spot.{Spot}
use Rattle.display_list.specs.declared.token.Push.{Push}
use Rattle.display_list.specs.Trees.{Tree, solid, image, border, text, context, iframe, hit_area, Trees, none, more, told}
use Rattle.image_store.specs.StoreModel.{StoreModel}
use Rattle.pipelines.specs.Table.{PipelineMap}
use Rattle.primitives.specs.declared.kind.Kind.{Kind}
use Rattle.primitives.specs.declared.kind.Kind.TheVariants as kind
use Rattle.primitives.specs.declared.entry.Entry.{Entry}
use Rattle.primitives.specs.declared.entry.Entry.TheVariants as entry
use Rattle.painter.specs.PlacedList.{PlacedList, placed_at, item_rect, chain_clips, first_corner, iframe_clips, opacity_of, is_plain}
use Rattle.painter.specs.Painter.{image_kind, text_kind}

-- where an item that is a primitive stands, and what it shows, with the images and masks that are stored
abbrev pub primitive_kind : StoreModel → PlacedList → Tree → Option (Spot × Kind)
primitive_kind store l (solid spot colour) = Some (spot, kind.Solid colour)
primitive_kind store l (image spot key u v) = Some (spot, image_kind store l key u v)
primitive_kind store l (border spot widths top right bottom left_ radii) = Some (spot, kind.Border widths top right bottom left_ radii)
primitive_kind store l (text spot font colour glyphs) = Some (spot, text_kind store l spot.node font colour glyphs)
primitive_kind store l (context push ts) = None
primitive_kind store l (iframe spot pipeline) = None
primitive_kind store l (hit_area spot tag) = None

-- a primitive under clips around it and then its own
abbrev pub primitive_entry : PlacedList → List Clip → Spot → Kind → Entry
primitive_entry l around spot shown = entry.Primitive (record { kind = shown; rect = item_rect l spot; clips = around ++ chain_clips l spot.chain })

abbrev pub primitive_entries : PlacedList → List Clip → Option (Spot × Kind) → List Entry
primitive_entries l around None = []
primitive_entries l around (Some p) = primitive_entry l around p.0 p.1 ∷ []

-- what opens a group, under clips around it and then its own
abbrev pub push_entry : PlacedList → List Clip → Push → Entry
push_entry l around push = entry.Push (opacity_of l push) push.mode (around ++ chain_clips l push.chain)

-- entries in a group
abbrev pub group_entries : Entry → List Entry → List Entry
group_entries push es = push ∷ (es ++ entry.Pop ∷ [])

-- what gives the entries of the list of a pipeline whose root is at a point, under clips around it
abbrev pub EntryLister : Type 0
EntryLister = ℕ → Point → List Clip → List Entry

abbrev mutual
  -- of one item; `inner` gives those of the lists that Iframes name
  pub tree_entries : EntryLister → StoreModel → PlacedList → List Clip → Tree → List Entry
  tree_entries inner store l around (context push ts) =
      if is_plain l push then trees_entries inner store l around ts
      else group_entries (push_entry l around push) (trees_entries inner store l [] ts)
  tree_entries inner store l around (iframe spot pipeline) = inner pipeline (first_corner (item_rect l spot)) (around ++ iframe_clips l spot)
  tree_entries inner store l around t = primitive_entries l around (primitive_kind store l t)

  pub trees_entries : EntryLister → StoreModel → PlacedList → List Clip → Trees → List Entry
  trees_entries inner store l around none = []
  trees_entries inner store l around (more t ts) = tree_entries inner store l around t ++ trees_entries inner store l around ts

abbrev pub list_entries : EntryLister → StoreModel → Option PlacedList → List Clip → List Entry
list_entries inner store None around = []
list_entries inner store (Some l) around = trees_entries inner store l around (told l.list.items)

-- of a pipeline's list, through at most so many levels of pipelines
unfoldable pub entries_in : ℕ → PipelineMap → StoreModel → EntryLister
entries_in zero pipelines store p origin around = []
entries_in (suc n) pipelines store p origin around = list_entries (entries_in n pipelines store) store (placed_at pipelines p origin) around

abbrev pub pipeline_entries : PipelineMap → StoreModel → EntryLister
pipeline_entries pipelines store = entries_in 64 pipelines store

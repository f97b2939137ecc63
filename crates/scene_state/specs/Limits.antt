-- The limits of a scene, and the scene after a transaction.
use Rattle.std.specs.Prelude.{◌≡◌, ℕ, ◌^◌, nat_lt, if◌then◌else◌, Option, Some, None, Bool, Ok, Err}
use Rattle.wr_io.specs.declared.fault.Code.{Code}
use Rattle.wr_io.specs.declared.fault.Code.TheVariants as code
use Rattle.image_store.specs.StoreModel.{StoreModel, IsStore, pixel_count}
use Rattle.pipelines.specs.Table.{AreFit}
use Rattle.scene_limits.specs.Limits.{scene_fault}
use Rattle.txn_format.specs.Txn.{TxnModel}
use Rattle.scene_state.specs.SceneModel.{SceneModel, HasRanges}
use Rattle.scene_state.specs.Operations.{Next, after_ops, then_next}

-- more than 2^26 pixels are stored
unfoldable pub is_full : StoreModel → Bool
is_full store = nat_lt (2 ^ 26) (pixel_count store)

-- the first of two limits that are broken
abbrev pub first_limit : Option Code → Bool → Option Code
first_limit (Some code) full = Some code
first_limit None full = if full then Some code.TooManyPixels else None

-- the first limit that a scene breaks, if it breaks one: what it would have expanded, and then what is stored
abbrev pub limit_of : SceneModel → Option Code
limit_of s = first_limit (scene_fault s.pipelines) (is_full s.store)

-- what every scene is: its numbers are in their ranges, each list fits its pipeline, what is stored is whole, and no limit is broken
pub record IsScene (s : SceneModel) : Type 0 where
  pub ranges : HasRanges s
  pub fit : AreFit s.pipelines
  pub store : IsStore s.store
  pub limits : limit_of s ≡ None

-- a scene that breaks no limit, or the fault, at a position
abbrev pub where_none : Option Code → ℕ → SceneModel → ℕ → Next
where_none None position s last = Ok (s, last)
where_none (Some code) position s last = Err (record { code = code; at = position })

-- the scene and the counter after a transaction, or the first fault: those of its operations in order, then the limits at its end
abbrev pub next_scene : TxnModel → SceneModel → ℕ → Next
next_scene t s last = then_next (after_ops t.pipeline t.ops s last) (λ made counter. where_none (limit_of made) t.len made counter)

-- A scene as contracts see it: numbers, and finite maps of what pipelines have and of what is stored.
use Rattle.std.specs.Prelude.{ℕ, refl}
use Rattle.std.specs.FinMap as map
use Rattle.std.specs.Coded.{Coded, code_by, coded×, coded_ℕ}
use Rattle.blend_rules.specs.declared.colour.Px.{Px}
use Rattle.blend_rules.specs.contracts.colour.Px as colours
use Rattle.blend_rules.specs.Colour.{clear, IsPixel}
use Rattle.image_store.specs.StoreModel.{StoreModel, empty_store}
use Rattle.image_store.specs.StoreCode.{store_code}
use Rattle.txn_format.specs.Checks.{IsFromTo, IsTilePolicy}
use Rattle.pipelines.specs.Table.{PipelineMap}
use Rattle.pipelines.specs.contracts.table.Pipelines as pipeline_maps
use Rattle.scene_state.specs.declared.policy.Policy.{Policy}
use Rattle.scene_state.specs.contracts.policy.Policy as policies

-- the view's sides in pixels, the colour under all items, how tiles are kept, the pipelines and the store
pub record SceneModel : Type 0 where
  pub view : ℕ × ℕ
  pub clear : Px
  pub policy : Policy
  pub pipelines : PipelineMap
  pub store : StoreModel

abbrev pub scene_code : Coded SceneModel
scene_code =
    code_by ((ℕ × ℕ) × (Px × (Policy × (PipelineMap × StoreModel))))
    (coded× (coded× coded_ℕ coded_ℕ) (coded× colours.the_row.coded (coded× policies.the_row.coded (coded× pipeline_maps.the_row.coded store_code))))
    (λ s. (s.view, (s.clear, (s.policy, (s.pipelines, s.store)))))
    (λ p. record { view = p.0; clear = p.1.0; policy = p.1.1.0; pipelines = p.1.1.1.0; store = p.1.1.1.1 }) (λ _. refl)

-- before the first transaction
abbrev pub start : SceneModel
start = record {
  view = (1, 1);
  clear = clear;
  policy = record { tw = 256; th = 256; budget = 512 };
  pipelines = map.empty;
  store = empty_store;
}

-- a view of sides that a transaction may give, a premultiplied colour, and a policy within its limits
pub record HasRanges (s : SceneModel) : Type 0 where
  pub width : IsFromTo 1 4096 s.view.0
  pub height : IsFromTo 1 4096 s.view.1
  pub clear : IsPixel s.clear
  pub policy : IsTilePolicy s.policy.tw s.policy.th s.policy.budget

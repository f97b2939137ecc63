-- More levels of pipelines give nothing more, and a pipeline gives what its list gives.
use Rattle.std.proofs.Common.{◌≡◌, ℕ, zero, suc, ◌+◌, ◌-◌, refl, sym, ap, ◌∙◌, arith}
use Rattle.std.proofs.Math.Path.{fun_ext}
use Rattle.wr_geom.specs.declared.point.Point.{Point}
use Rattle.blend_rules.specs.declared.colour.Px.{Px}
use Rattle.pipelines.specs.Table.{PipelineMap, AreFit}
use Rattle.painter.specs.PlacedList.{placed_at}
use Rattle.painter.specs.Painter.{ScenePixel, paint_list, paint_levels}
use Rattle.painter.specs.TopItems.{Around, TopLister, list_tops, tops_in, pipeline_tops}
use Rattle.painter.specs.Laws.{MoreLevelsPaintTheSame, MoreLevelsHaveTheSameTops, PipelinePaintsItsList, PipelineHasItsListsTops}
use Rattle.painter.proofs.Enough.{more_levels, tops_each}

pub more_colours : MoreLevelsPaintTheSame
more_colours n s p origin cover backdrop fit le = more_levels n s p origin cover backdrop fit le

next_level : (n : ℕ) (s : ScenePixel) (p : ℕ) (origin : Point) (cover : ℕ) (backdrop : Px) → paint_levels (suc n) s p origin cover backdrop ≡ paint_list (paint_levels n s) s (placed_at s.pipelines p origin) cover backdrop
unfolding paint_levels
next_level n s p origin cover backdrop = refl

pub list_painted : PipelinePaintsItsList
list_painted s p origin cover backdrop fit = sym (more_levels 65 s p origin cover backdrop fit (omega arith)) ∙ next_level 64 s p origin cover backdrop

pub list_has_tops : PipelineHasItsListsTops
list_has_tops ps p origin a fit = tops_each ps p origin a fit

-- with so many levels more than 64
tops_above : (k n : ℕ) (ps : PipelineMap) (p : ℕ) (origin : Point) (a : Around) → AreFit ps → n ≡ k + 64 → tops_in n ps p origin a ≡ pipeline_tops ps p origin a
unfolding tops_in
tops_above zero n ps p origin a fit e = ap (λ (m : ℕ). tops_in m ps p origin a) e
tops_above (suc k) zero ps p origin a fit e = absurd (omega arith)
tops_above (suc k) (suc n) ps p origin a fit e =
    let one_less : n ≡ k + 64 = omega (arith, e) in
    let same : tops_in n ps ≡ pipeline_tops ps = fun_ext (λ q. fun_ext (λ o. fun_ext (λ b. tops_above k n ps q o b fit one_less))) in
    ap (λ (f : TopLister). list_tops f (placed_at ps p origin) a) same ∙ sym (tops_each ps p origin a fit)

pub more_tops : MoreLevelsHaveTheSameTops
more_tops n ps p origin a fit le = tops_above (n - 64) n ps p origin a fit (omega (arith, le))

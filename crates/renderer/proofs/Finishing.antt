-- A frame that is put together, and what it took.
use Rattle.std.proofs.Common.{◌≡◌, ◌≤◌, ◌<◌, ℕ, pos, List, take, Option, Some, None, sym, ap, subst, ◌∙◌, arith}
use Rattle.std.proofs.lemmas.Int.{ints}
use Rattle.wr_geom.proofs.Points.{holds_it}
use Rattle.image_store.specs.Laws.{IsUpTo}
use Rattle.picture_slices.specs.Values.{slices_over}
use Rattle.picture_slices.specs.declared.slice.Slice.{Slice}
use Rattle.span_kernels.specs.PlanesModel.{PlanesModel, pixel_at}
use Rattle.tile_compositor.specs.Composition.{composed}
use Rattle.tile_compositor.specs.FrameModel.{FrameModel}
use Rattle.tile_compositor.specs.Laid.{KeepSides}
use Rattle.shown_frames.specs.Placing.{all_placed}
use Rattle.kept_tiles.specs.Sound.{AreSound}
use Rattle.kept_tiles.specs.Tiles.{KeptModel, kept_of}
use Rattle.kept_tiles.specs.Work.{Records, records_of}
use Rattle.scene_state.specs.SceneModel.{SceneModel}
use Rattle.scene_slices.specs.Picture.{PaintThePicture, view_rect}
use Rattle.renderer.specs.declared.answer.Report.{Report}
use Rattle.renderer.specs.Drops.{sides_of}
use Rattle.renderer.specs.Frames.{AreSides, IsFrameOf, IsThere, ShowScene}
use Rattle.renderer.specs.Kept.{IsFresh}
use Rattle.renderer.specs.RendererModel.{RendererModel}
use Rattle.renderer.specs.Showing.{IsDrawn, IsFinished, IsShown}
use Rattle.renderer.proofs.Trimming.{few_taken, records_taken, sound_taken}

-- tiles that compose to what the scene's slices paint give its frame
pub frame_shows : (s : SceneModel) (k : KeptModel) (slices : List Slice) (old : PlanesModel) (frame : FrameModel) → PaintThePicture s slices
    → ((x y : ℕ) → composed (sides_of s.policy) k.store.tiles (all_placed slices) (pos x) (pos y) s.clear ≡ slices_over s.store (pos x) (pos y) slices s.clear)
    → AreSides s.view.0 s.view.1 old → KeepSides old frame.planes
    → ((x y : ℕ) → x < frame.planes.width → y < frame.planes.height → pixel_at frame.planes x y ≡ composed (sides_of s.policy) k.store.tiles (all_placed slices) (pos x) (pos y) s.clear)
    → frame.opened ≡ Some k.store.opened → IsFrameOf s k.store.opened frame
frame_shows s k slices old frame paint compose sides keep value opened =
    let w = keep.width ∙ sides.width in
    let h = keep.height ∙ sides.height in
    record {
      shows = record {
        sides = record { width = w; height = h };
        pixels = λ x y hx hy. value x y (omega (arith, w, hx)) (omega (arith, h, hy)) ∙ compose x y
            ∙ paint (pos x) (pos y) (holds_it (view_rect s) (pos x) (pos y) (record {
              left = omega (arith, ints);
              right = omega (arith, ints, hx);
              top = omega (arith, ints);
              bottom = omega (arith, ints, hy);
            }));
      };
      opened = opened;
    }

-- what the budget leaves of sound tiles is fresh
pub taken_fresh : (s : SceneModel) (last : ℕ) (old new : KeptModel) → IsUpTo last s.store → AreSound (sides_of s.policy) last s.store (kept_of old) → s.policy.budget ≤ 65536
    → kept_of new ≡ take s.policy.budget (kept_of old) → IsFresh s last new
taken_fresh s last old new stored sound most h =
    let few = few_taken s.policy.budget old new h in
    record {
      stored = stored;
      sound = subst (AreSound (sides_of s.policy) last s.store) (sym h) (sound_taken (sides_of s.policy) last s.store s.policy.budget (kept_of old) sound);
      few = omega (arith, few, most);
    }

-- a frame of a scene shows it
pub shown_there : (s : SceneModel) (n : ℕ) (o : Option FrameModel) → IsThere (IsFrameOf s n) o → IsThere (λ f. ShowScene s f.planes) o
shown_there s n None h = absurd h
shown_there s n (Some f) h = h.shows

-- and what shows it is its frame, where the counts are the same
pub frame_there : (s : SceneModel) (n : ℕ) (o : Option FrameModel) → IsThere (λ f. ShowScene s f.planes) o → IsThere (λ f. f.opened ≡ Some n) o → IsThere (IsFrameOf s n) o
frame_there s n None h e = absurd h
frame_there s n (Some f) h e = record { shows = h; opened = e }

-- what was drawn and then put together was shown
pub shown_by : (next : SceneModel) (old mid new : RendererModel) (drawn : ℕ) (report : Report) → IsDrawn next old mid drawn → IsFinished next mid new drawn report → IsShown next old new report
shown_by next old mid new drawn report d f = record {
  scene = f.scene;
  last = f.last ∙ d.rest.last;
  kept = ap records_of f.kept ∙ records_taken next.policy.budget (kept_of mid.kept) ∙ ap (λ (l : Records). take next.policy.budget l) d.work.kept;
  opened = f.opened ∙ d.work.opened;
  frame = f.frame;
  tiles = f.tiles;
  drawn = f.drawn ∙ d.count;
  most = (let m = d.most in let e = f.drawn in omega (arith, m, e));
}

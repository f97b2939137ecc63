-- Tests on clips tell what is equal.
use Rattle.std.proofs.Common.{◌≡◌, Bool, true, false, not, ◌&&◌, if◌then◌else◌, refl, sym, subst, true≢false}
use Rattle.std.proofs.Math.Bool.{beq}
use Rattle.std.specs.Ordering.{bool_cmp}
use Rattle.std.specs.declared.cmp.Ordering.TheVariants.{Equal}
use Rattle.std.proofs.lemmas.Bool.{and_parts, and_from, not-true}
use Rattle.wr_geom.specs.Bounds.{same_rect}
use Rattle.wr_geom.specs.Sides.{square, same_radii}
use Rattle.wr_geom.proofs.Sames.{same_rect-true, same_rect-self, same_radii-true, same_radii-self, same_radii-of}
use Rattle.clip_masks.specs.Clips.{IsRectClip, is_rect_clip, same_clip}
use Rattle.clip_masks.specs.Laws.{SameClipsAreEqual}
use Rattle.clip_masks.specs.declared.clip.Clip.{Clip}

-- ---- rectangle clips

pub rect_clip-true : (c : Clip) → is_rect_clip c ≡ true → IsRectClip c
unfolding is_rect_clip
rect_clip-true c h =
    let k = and_parts (not c.out) (same_radii c.shape.radii square) h in
    record { inwards = not-true c.out k.0; corners = same_radii-true c.shape.radii square k.1 }

pub rect_clip-of : (c : Clip) → IsRectClip c → is_rect_clip c ≡ true
unfolding is_rect_clip
rect_clip-of c is = and_from (not c.out) (same_radii c.shape.radii square) (inward c.out is.inwards) (same_radii-of c.shape.radii square is.corners)
  where
    inward : (t : Bool) → t ≡ false → not t ≡ true
    inward true e = absurd (true≢false e)
    inward false e = refl

-- ---- the same clip

same_mode : (s t : Bool) → (if s then t else not t) ≡ true → s ≡ t
same_mode true t h = sym h
same_mode false t h = sym (not-true t h)

mode_self : (s : Bool) → (if s then s else not s) ≡ true
mode_self true = refl
mode_self false = refl

pub clip_of : (a b : Clip) → a.shape.rect ≡ b.shape.rect → a.shape.radii ≡ b.shape.radii → a.out ≡ b.out → a ≡ b
clip_of a b e f g = λ i. record { shape = record { rect = e i; radii = f i }; out = g i }

pub same_clip-true : (a b : Clip) → same_clip a b ≡ true → a ≡ b
unfolding same_clip
same_clip-true a b h =
    let k = and_parts (same_rect a.shape.rect b.shape.rect && same_radii a.shape.radii b.shape.radii) (if a.out then b.out else not b.out) h in
    let j = and_parts (same_rect a.shape.rect b.shape.rect) (same_radii a.shape.radii b.shape.radii) k.0 in
    clip_of a b (same_rect-true a.shape.rect b.shape.rect j.0) (same_radii-true a.shape.radii b.shape.radii j.1) (same_mode a.out b.out k.1)

pub same_clip-self : (a : Clip) → same_clip a a ≡ true
unfolding same_clip
same_clip-self a =
    and_from (same_rect a.shape.rect a.shape.rect && same_radii a.shape.radii a.shape.radii) (if a.out then a.out else not a.out)
    (and_from (same_rect a.shape.rect a.shape.rect) (same_radii a.shape.radii a.shape.radii) (same_rect-self a.shape.rect) (same_radii-self a.shape.radii)) (mode_self a.out)

pub same_clips : SameClipsAreEqual
same_clips a b = (λ h. same_clip-true a b h, λ e. subst (λ (c : Clip). same_clip a c ≡ true) e (same_clip-self a))

-- ---- how `==` and the order compare modes

pub mode_test : (s t : Bool) → beq s t ≡ (if s then t else not t)
mode_test true true = refl
mode_test true false = refl
mode_test false true = refl
mode_test false false = refl

pub mode_tie : (s t : Bool) → bool_cmp s t ≡ Equal → s ≡ t
mode_tie true true h = refl
mode_tie true false h = cc
mode_tie false true h = cc
mode_tie false false h = refl

pub mode_even : (s : Bool) → bool_cmp s s ≡ Equal
mode_even true = refl
mode_even false = refl

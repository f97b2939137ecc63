-- A top of one solid.
use Rattle.std.proofs.Common.{◌≡◌, ℕ, pos, neg_ℤ, List, [], ◌∷◌, ◌++◌, length, sym, ap, subst, ◌∙◌, arith}
use Rattle.std.proofs.lemmas.Int.{ints}
use Rattle.std.proofs.lemmas.List.Elements.{All-nil, All-cons}
use Rattle.wr_geom.specs.Bounds.{Bounds}
use Rattle.blend_rules.specs.declared.colour.Px.{Px}
use Rattle.clip_masks.specs.declared.clip.Clip.{Clip}
use Rattle.primitives.specs.declared.entry.Entry.{Entry}
use Rattle.primitives.specs.declared.entry.Entry.TheVariants as entry
use Rattle.primitives.specs.declared.kind.Kind.TheVariants as kind
use Rattle.primitives.specs.PrimitiveModel.{PrimitiveModel}
use Rattle.slice_rules.specs.Homes.{Home}
use Rattle.primitives.specs.Tops.{IsWhole, IsCloseRect, AreCloseClips, IsCloseEntry, IsSliceOrigin, IsTop}
use Rattle.primitives.specs.Tops as whole

-- where the tops' slices begin
near : IsSliceOrigin (record { x = pos 10; y = neg_ℤ (pos 10) })
near = record {
  across = record { low = omega (arith, ints); high = omega (arith, ints) };
  down = record { low = omega (arith, ints); high = omega (arith, ints) };
}

pub solid_top : (scroll : Home) (homes : List Home) (es none : List Entry) (p : PrimitiveModel) (colour : Px) (rect : Bounds) (clips : List Clip) (n : ℕ) → es ≡ none ++ entry.Primitive p ∷ [] → none ≡ []
    → p ≡ record { kind = kind.Solid colour; rect = rect; clips = clips } → length homes ≡ n → length clips ≡ n → IsCloseRect rect → AreCloseClips clips
    → IsTop (record { scroll = scroll; origin = record { x = pos 10; y = neg_ℤ (pos 10) }; homes = homes; entries = es })
solid_top scroll homes es none p colour rect clips n all empty is with_homes count close are =
    let q : PrimitiveModel = record { kind = kind.Solid colour; rect = rect; clips = clips } in
    let entries : es ≡ entry.Primitive q ∷ [] = all ∙ ap (λ (xs : List Entry). xs ++ entry.Primitive p ∷ []) empty ∙ ap (λ (r : PrimitiveModel). entry.Primitive r ∷ []) is in
    subst (λ (xs : List Entry). IsTop (record { scroll = scroll; origin = record { x = pos 10; y = neg_ℤ (pos 10) }; homes = homes; entries = xs })) (sym entries) (record {
      whole = whole.primitive q;
      homes = with_homes ∙ sym count;
      origin = near;
      close = All-cons IsCloseEntry (entry.Primitive q) [] (record { rect = close; kind = tt; clips = are }) (All-nil IsCloseEntry);
    })

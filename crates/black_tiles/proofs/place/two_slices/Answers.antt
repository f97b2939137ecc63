use Rattle.std.specs.Prelude.{All, ◌∷◌, []}
use Rattle.std.proofs.lemmas.List.Elements.{All-nil, All-cons}
use Rattle.tile_compositor.specs.Composition.{IsPlacedIn}
use Rattle.black_tiles.proofs.place.two_slices.Goals as goal

pub returns : goal.returns
returns c frame wide high =
    All-cons (IsPlacedIn frame) c.place.result (c.place-2.result ∷ []) (c.place.ensures frame wide high)
    (All-cons (IsPlacedIn frame) c.place-2.result [] (c.place-2.ensures frame wide high) (All-nil (IsPlacedIn frame)))

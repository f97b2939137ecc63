use Rattle.std.proofs.Common.{◌≡◌, ◌∷◌, Result, Ok, Err, false, is_err, ℕ, subst, sym, ◌∙◌}
use Rattle.std.specs.Prelude.{OnOk}
use Rattle.tile_store.specs.StoreModel.{StoreModel}
use Rattle.tile_store.specs.Tiles.{blank_tile}
use Rattle.black_tiles.specs.Black.{AreBlack}
use Rattle.black_tiles.proofs.Writes.{blank_is_black, put_black}
use Rattle.black_tiles.proofs.keep.keep_tile.Goals as goal

-- what holds where a result is Ok holds where it is no Err
on_ok : {A E : Type 0} (r : Result A E) (P : Type 0) → is_err r ≡ false → OnOk r P → P
on_ok (Ok x) P e h = h
on_ok (Err x) P e h = cc

pub returns-clause-black : goal.returns-clause-black
returns-clause-black c sides is black =
    let put_is : c.put.new.self ≡ record c.args.store.now { tiles = (c.args.key, blank_tile c.args.rect 0) ∷ c.args.store.now.tiles } =
    on_ok c.put.result _ (sym c.is_err.ensures.value ∙ c.if-is_err.false) c.put.ensures.kept in
    let start = put_black sides c.args.key (blank_tile c.args.rect 0) c.args.store.now.tiles (blank_is_black sides c.args.key c.args.rect 0 is) black in
    let kept = subst (λ (s : StoreModel ℕ). AreBlack sides s.tiles) (sym put_is) start in
    let open_is = subst (λ (s : StoreModel ℕ). AreBlack sides s.tiles) (sym c.open_window.ensures) kept in
    subst (λ (s : StoreModel ℕ). AreBlack sides s.tiles) (sym c.close_window.ensures) (c.fill_window.ensures.black sides open_is)

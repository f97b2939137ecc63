use Rattle.std.proofs.Common.{◌<◌, rules}
use Rattle.image_store.proofs.Rows.{shared_within, shared_room, shared_texel}
use Rattle.image_store.proofs.image_data.ImageData.band.Goals as goal

pub index-requires : goal.index-requires
index-requires c =
    let i = c.self.inside in
    let row : c.args.y < i.h = rw (← c.self.view_is) at c.requires in
    let within = shared_within i.w i.h c.args.y c.from.result i.bands.items c.self.invariant row c.from.ensures in
    search (rules, within)

pub returns : goal.returns
returns c =
    let i = c.self.inside in
    let row : c.args.y < i.h = rw (← c.self.view_is) at c.requires in
    rw (← c.self.view_is, c.deref.ensures) (record {
      room = shared_room i.w i.h c.args.y c.from.result i.bands.items c.self.invariant row c.from.ensures c.index.result.now c.index.ensures;
      texels = shared_texel i.w i.h c.args.y c.from.result i.bands.items c.self.invariant row c.from.ensures c.index.result.now c.index.ensures;
    })

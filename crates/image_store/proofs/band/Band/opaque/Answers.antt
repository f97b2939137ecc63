use Rattle.std.proofs.Common.{◌≡◌, length, rules}
use Rattle.image_store.proofs.Bands.{opaque_is}
use Rattle.image_store.proofs.band.Band.opaque.Goals as goal

pub returns : goal.returns
returns c =
    let l : c.len.result ≡ length c.self.inside.alpha.items = search rules in
    rw (← c.self.view_is) (opaque_is c.self.inside.blue.items c.self.inside.green.items c.self.inside.red.items c.self.inside.alpha.items c.self.inside.count c.len.result c.self.invariant l)

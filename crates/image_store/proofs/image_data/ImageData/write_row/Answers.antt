use Rattle.std.proofs.Common.{◌<◌, ◌≤◌, ◌+◌, ◌/◌, length, ap, Result, Ok, Err, OnOk, rules, arith}
use Rattle.blend_rules.specs.Pixels.{pixels}
use Rattle.image_store.proofs.Lists.{length-pixels}
use Rattle.image_store.proofs.Rows.{shared_within, shared_room, shared_set, shared_joined, shared_sound}
use Rattle.image_store.proofs.image_data.ImageData.write_row.Goals as goal

on_ok : {X E : Type 0} {P Q : Type 0} (r : Result X E) → (P → Q) → OnOk r P → OnOk r Q
on_ok (Ok x) f p = f p
on_ok (Err e) f p = tt

pub index_mut-band-requires : goal.index_mut-band-requires
index_mut-band-requires c =
    let i = c.self.inside in
    let row : c.args.y < i.h = rw (← c.self.view_is) at c.requires.row in
    let within = shared_within i.w i.h c.args.y c.from-4.result i.bands.items c.self.invariant row c.from-4.ensures in
    search (rules, within)

pub write_shared-requires-clause-room : goal.write_shared-requires-clause-room
write_shared-requires-clause-room c =
    let i = c.self.inside in
    let row : c.args.y < i.h = rw (← c.self.view_is) at c.requires.row in
    let fits : c.args.x + length c.args.bytes.now / 4 ≤ i.w = rw (← c.self.view_is) at c.requires.room in
    let room = shared_room i.w i.h c.args.y c.from-4.result i.bands.items c.self.invariant row c.from-4.ensures c.index_mut-band.result.now c.index_mut-band.ensures.value in
    rw (c.from.ensures, c.from-2.ensures, c.from-3.ensures) (omega (arith, room, fits))

pub write_shared-requires-clause-old : goal.write_shared-requires-clause-old
write_shared-requires-clause-old c =
    let i = c.self.inside in
    let row : c.args.y < i.h = rw (← c.self.view_is) at c.requires.row in
    shared_sound i.w i.h c.args.y c.from-4.result i.bands.items c.self.invariant row c.from-4.ensures c.index_mut-band.result.now c.index_mut-band.ensures.value

pub invariant_of-self : goal.invariant_of-self
invariant_of-self c =
    let i = c.self.inside in
    let row : c.args.y < i.h = rw (← c.self.view_is) at c.requires.row in
    shared_set i.w i.h c.args.y c.from-4.result i.bands.items c.self.invariant row c.from-4.ensures c.index_mut-band.result.now c.index_mut-band.ensures.value c.write_shared.new.band c.write_shared.ensures.len c.write_shared.ensures.new

pub returns-clause-row : goal.returns-clause-row
returns-clause-row c =
    let i = c.self.inside in
    let row : c.args.y < i.h = rw (← c.self.view_is) at c.requires.row in
    let fits : c.args.x + length c.args.bytes.now / 4 ≤ i.w = rw (← c.self.view_is) at c.requires.room in
    rw (← c.self.view_is) (on_ok c.write_shared.result
    (λ e p. ap (λ t. record { w = i.w; h = i.h; generation = i.generation; texels = t })
    (shared_joined i.w i.h c.args.y c.from-4.result i.bands.items c.self.invariant row c.from-4.ensures c.index_mut-band.result.now c.index_mut-band.ensures.value c.write_shared.new.band c.args.x (pixels c.args.bytes.now)
    (omega (arith, length-pixels c.args.bytes.now, fits)) (rw (← c.from.ensures, ← c.from-2.ensures, ← c.from-3.ensures) (e p))))
    c.write_shared.ensures.ok)

pub returns-clause-wide : goal.returns-clause-wide
returns-clause-wide c = rw (← c.self.view_is) (λ i. c.self.inside.w)

pub returns-clause-high : goal.returns-clause-high
returns-clause-high c = rw (← c.self.view_is) (λ i. c.self.inside.h)

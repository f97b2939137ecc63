use Rattle.std.proofs.Common.{◌≤◌, sym, ap, ◌∙◌, arith}
use Rattle.std.specs.FinMap as map
use Rattle.image_store.specs.Models.{image_area}
use Rattle.image_store.specs.Keyed.{without_keys}
use Rattle.image_store.specs.StoreModel.{sum_of}
use Rattle.image_store.proofs.Keys.{keyed_kept, keyed_settled, keyed_inserted}
use Rattle.image_store.proofs.keyed_images.KeyedImages.insert.Goals as goal

pub invariant_of-self-in_err-settle : goal.invariant_of-self-in_err-settle
invariant_of-self-in_err-settle c =
    let i = c.self.inside in
    keyed_kept i.images c.settle.new.images i.gone.items c.settle.new.gone.items i.gone.cap c.settle.new.gone.cap i.count i.area c.self.invariant c.in_err-settle.ensures.err
    (c.in_err-settle.ensures.kept ∙ c.reserve.ensures.items) (omega (arith, c.reserve.ensures.capacity, c.settle.ensures.room))

pub invariant_of-self-in_err-put : goal.invariant_of-self-in_err-put
invariant_of-self-in_err-put c =
    let i = c.self.inside in
    keyed_settled i.images c.put.new.images i.gone.items c.settle.new.gone.items i.gone.cap c.settle.new.gone.cap i.count i.area c.self.invariant
    (c.in_err-put.ensures.err ∙ c.in_ok-settle.ensures.ok ∙ ap (without_keys i.images) c.reserve.ensures.items) c.in_ok-settle.ensures.none (omega (arith, c.reserve.ensures.capacity, c.settle.ensures.room))

pub invariant_of-self-2 : goal.invariant_of-self-2
invariant_of-self-2 c =
    let i = c.self.inside in
    let room : c.in_ok-count.count ≤ c.settle.new.gone.cap = omega (arith, c.in_ok-reserve.ensures.ok, c.settle.ensures.room) in
    keyed_inserted i.images c.put.new.images i.gone.items c.settle.new.gone.items i.gone.cap c.settle.new.gone.cap i.count i.area c.in_ok-count.count c.in_ok-count.area c.args.key c.args.image c.self.invariant
    (c.in_ok-put.ensures.ok ∙ ap (λ m. map.insert m c.args.key c.args.image) (c.in_ok-settle.ensures.ok ∙ ap (without_keys i.images) c.reserve.ensures.items)) c.in_ok-settle.ensures.none room
    c.in_ok-count.ensures.image
    (c.in_ok-count.ensures.count ∙ ap (λ m. map.len (map.insert m c.args.key c.args.image)) (sym c.self.view_is))
    (c.in_ok-count.ensures.area ∙ ap (λ m. sum_of image_area (map.insert m c.args.key c.args.image)) (sym c.self.view_is))

use Rattle.std.proofs.Common.{subst, sym}
use Rattle.image_store.specs.StoreModel.{IsStore}
use Rattle.image_store.proofs.Stored.{empty_is_store, same_store}
use Rattle.image_store.proofs.store.Store.new.Goals as goal

pub invariant_of-result : goal.invariant_of-result
invariant_of-result c = subst IsStore (sym (same_store _ _ _ _ c.new.ensures c.new-2.ensures)) empty_is_store

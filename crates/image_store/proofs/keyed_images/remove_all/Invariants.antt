use Rattle.std.proofs.Common.{◌≡◌, drop}
use Rattle.image_store.specs.Keyed.{without_keys}
use Rattle.image_store.proofs.keyed_images.remove_all.Given as goal

abbrev pub invariant-loop-key : goal.invariant-loop-key
invariant-loop-key l = without_keys l.images (drop l.key-index l.keys) ≡ without_keys l.fn.images l.keys

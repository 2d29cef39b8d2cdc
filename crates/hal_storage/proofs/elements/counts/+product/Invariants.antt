use Rattle.std.proofs.Common.{length}
use Rattle.hal_storage.proofs.elements.counts.+product.Given as goal

abbrev pub decreases-product : goal.decreases-product
decreases-product l = length l.sizes.now

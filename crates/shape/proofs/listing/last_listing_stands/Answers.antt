use Rattle.std.proofs.Common.{length}
use Rattle.shape.specs.Listing.{share}
use Rattle.shape.proofs.Placing.{placed_listed}
use Rattle.shape.proofs.listing.last_listing_stands.Goals as goal

pub returns : goal.returns
returns c f xs old = placed_listed (λ i. f (share i (length xs))) xs old

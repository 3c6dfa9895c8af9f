-- who is lost in a cluster
use Rattle.std.proofs.Common.{◌≡◌, ◌&&◌, not, Bool, true, false, refl}

-- of those that there are the gone are all but those left
pub gone_of_left : (there gone : Bool) → (there && not (there && not gone)) ≡ (there && gone)
gone_of_left false gone = refl
gone_of_left true false = refl
gone_of_left true true = refl

-- those left that aren't among the up that there are aren't up
pub asleep_of_left : (there gone up : Bool) → ((there && not gone) && not (there && up)) ≡ ((there && not gone) && not up)
asleep_of_left false gone up = refl
asleep_of_left true gone up = refl

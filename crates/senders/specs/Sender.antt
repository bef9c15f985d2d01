-- Senders: document 02, request 3, "A sender is a source address with its PAN id". A short and an extended address are
-- never the same.
use Rattle.std.specs.Prelude.{Bool, false, ◌||◌, ◌&&◌, List, [], ◌∷◌, eqb}
use Rattle.senders.specs.{declared.Sender.Sender}

abbrev pub same : Sender → Sender → Bool
same a b = eqb a.address b.address && eqb a.pan_id b.pan_id && eqb a.octets b.octets

-- it is one of some
unfoldable pub among : Sender → List Sender → Bool
among who [] = false
among who (s ∷ ss) = same who s || among who ss

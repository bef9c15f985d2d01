-- `time_slots::some_too_large` meets its contract: the chain asks each slot in use.
-- Assumes nothing.
use Rattle.std.proofs.Common.{rules}
use Rattle.std.proofs.lemmas.Iterator.{YieldsList-from_slice, YieldsList-from_take}
use Rattle.std.proofs.lemmas.Iterator.Search.{any_from_yields_List}
use borrow.Author.Tests.{tests}
use Rattle.seven_places.proofs.Seven.{some_any}
use Rattle.time_slots.specs.Descriptor.{descriptor_too_large}
use Rattle.time_slots.proofs.some_too_large.Goals as goal

pub returns : goal.returns
returns c =
    rw some_any
    (any_from_yields_List descriptor_too_large _ _ _ c.any.ensures.ran
    (YieldsList-from_take c.args.slots.count (YieldsList-from_slice c.args.slots.places (cc)) c.take.ensures.count)
    (λ x b q k. search (rules, tests)))

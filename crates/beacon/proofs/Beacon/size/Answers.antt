-- `beacon::Beacon::size` meets its contract: where no number is too large, each part's size is its whole length.
-- Assumes nothing.
use mathlib.Core.Path.{◌∙◌}
use native.Mathlib.Omega.{arith}
use Rattle.time_slots.proofs.TimeSlots as slots
use Rattle.pending.proofs.Pending as pending
use Rattle.beacon.proofs.Content.{fitting}
use Rattle.beacon.proofs.Beacon.size.Goals as goal

pub returns : goal.returns
returns c =
    let fits = fitting c.args.self c.requires in record {
      value = omega (
        arith,
        c.size.ensures.value ∙ slots.plain_size _ fits.slots,
        c.size-2.ensures.value ∙ pending.plain_size _ fits.pending,
      );
      upper_bound = omega (arith, c.size.ensures.upper_bound, c.size-2.ensures.upper_bound);
    }

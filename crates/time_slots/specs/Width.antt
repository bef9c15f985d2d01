-- A descriptor takes three bytes.
use Rattle.std.specs.Prelude.{◌+◌, ◌≡◌, length}
use Rattle.std.proofs.Common.{◌∙◌}
use Rattle.std.proofs.Math.ListN.{length-append}
use Rattle.octets.specs.Little.{split}
use Rattle.octets.proofs.Little.{split_length}
use Rattle.time_slots.specs.declared.{GuaranteedTimeSlotDescriptor.GuaranteedTimeSlotDescriptor}
use Rattle.time_slots.specs.Descriptor.{slot_byte, descriptor_bytes}

pub descriptor_length : (x : GuaranteedTimeSlotDescriptor) → length (descriptor_bytes x) ≡ 3
unfolding descriptor_bytes
descriptor_length x =
    length-append (split 2 x.short_address.0) (split 1 (slot_byte x))
    ∙ (λ i. split_length 2 x.short_address.0 i + split_length 1 (slot_byte x) i)

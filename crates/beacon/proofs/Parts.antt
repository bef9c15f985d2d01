-- A part of a beacon that was read and not refused: it is the part at its place, and lies whole in the input.
-- Assumes nothing.
use Prim.Native.Nat.{ℕ, ◌-◌, ◌≤◌}
use mathlib.Core.Bool.{false, true≢false}
use mathlib.Core.List.{List}
use mathlib.Core.Path.{◌≡◌, refl, sym, ap, ◌∙◌}
use lib.ListN.{length}
use Rattle.std.specs.Prelude.{Ok, Err, is_err}
use Rattle.octets.specs.Outcome.{Outcome, number_of, length_of}
use Rattle.superframe.specs.declared.SuperframeRead.{SuperframeRead}
use Rattle.superframe.specs.Superframe.{superframe_in, read_superframe}
use Rattle.superframe.proofs.Superframe.{superframe_read}
use Rattle.time_slots.specs.declared.TimeSlotsRead.{TimeSlotsRead}
use Rattle.time_slots.specs.TimeSlots.{time_slots_in, time_slots_length_in, read_time_slots}
use Rattle.time_slots.proofs.TimeSlots.{time_slots_read}
use Rattle.pending.specs.declared.PendingRead.{PendingRead}
use Rattle.pending.specs.Pending.{pending_in, pending_length_in, read_pending}
use Rattle.pending.proofs.Pending.{pending_read}

-- an answer that is no refusal has number 0
pub accepting : (o : Outcome) → is_err o ≡ false → number_of o ≡ 0
accepting (Ok n) e = refl
accepting (Err r) e = absurd (true≢false e)

module _ (s : List ℕ) (at : ℕ) where
  pub record Superframe (r : SuperframeRead) : Type 0 where
    pub is : r ≡ record { outcome = Ok 2; superframe_spec = superframe_in s at }
    pub told : read_superframe s at ≡ record { outcome = Ok 2; superframe_spec = superframe_in s at }
    pub within : 2 ≤ length s - at

  pub superframe_there : (r : SuperframeRead) → r ≡ read_superframe s at → is_err r.outcome ≡ false → Superframe r
  superframe_there r e f =
      let q = superframe_read s at (ap (λ (r : SuperframeRead). number_of r.outcome) (sym e) ∙ accepting r.outcome f) in
      record { is = e ∙ q.0; told = q.0; within = q.1 }

  pub record Slots (r : TimeSlotsRead) (n : ℕ) : Type 0 where
    pub is : r ≡ record { outcome = Ok (time_slots_length_in s at); guaranteed_time_slot_info = time_slots_in s at }
    pub told : read_time_slots s at ≡ record { outcome = Ok (time_slots_length_in s at); guaranteed_time_slot_info = time_slots_in s at }
    pub within : time_slots_length_in s at ≤ length s - at
    pub size : n ≡ time_slots_length_in s at

  pub slots_there : (r : TimeSlotsRead) (n : ℕ) → r ≡ read_time_slots s at → r.outcome ≡ Ok n → Slots r n
  slots_there r n e f =
      let q = time_slots_read s at (ap (λ (r : TimeSlotsRead). number_of r.outcome) (sym e) ∙ ap number_of f) in
      record {
        is = e ∙ q.0;
        told = q.0;
        within = q.1;
        size = ap length_of (sym f) ∙ ap (λ (r : TimeSlotsRead). length_of r.outcome) (e ∙ q.0);
      }

  pub record Pending (r : PendingRead) (n : ℕ) : Type 0 where
    pub is : r ≡ record { outcome = Ok (pending_length_in s at); pending_address = pending_in s at }
    pub told : read_pending s at ≡ record { outcome = Ok (pending_length_in s at); pending_address = pending_in s at }
    pub within : pending_length_in s at ≤ length s - at
    pub size : n ≡ pending_length_in s at

  pub pending_there : (r : PendingRead) (n : ℕ) → r ≡ read_pending s at → r.outcome ≡ Ok n → Pending r n
  pending_there r n e f =
      let q = pending_read s at (ap (λ (r : PendingRead). number_of r.outcome) (sym e) ∙ ap number_of f) in
      record {
        is = e ∙ q.0;
        told = q.0;
        within = q.1;
        size = ap length_of (sym f) ∙ ap (λ (r : PendingRead). length_of r.outcome) (e ∙ q.0);
      }

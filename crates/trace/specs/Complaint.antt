-- The number of what a line is answered: document 02, request 3, has 10 and 11; 0 where nothing is written.
use Rattle.std.specs.Prelude.{ℕ, Option, Some, None}
use Rattle.trace.specs.declared.counting.Complaint.{Complaint}
use Rattle.trace.specs.declared.counting.Complaint.TheVariants.{Unread, Crowded}

abbrev pub complaint_number : Complaint → ℕ
complaint_number Unread = 10
complaint_number Crowded = 11

abbrev pub answer_number : Option Complaint → ℕ
answer_number None = 0
answer_number (Some complaint) = complaint_number complaint

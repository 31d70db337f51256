-- The contract of `job_length` leaves no choice: two answers that it allows for the same arguments are equal.
use Rattle.fields.proofs.Determined.{Determines, one_value}
use Rattle.modes.proofs.job_length.Kinds as job-length
use Rattle.modes.proofs.job_length.Reads as job-length-reads

pub job_length_one : Determines 0 job-length.ps job-length.r job-length-reads.Learnt (λ κs x. x)
job_length_one = one_value 0 job-length.ps job-length.r (λ κs x. x) _

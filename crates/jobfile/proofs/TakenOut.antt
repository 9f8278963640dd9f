-- What is promised of an accepted job, taken out. Assumes nothing.
use Rattle.board.specs.Job.{Job}
use Rattle.jobfile.specs.Read.{accepted}
use Rattle.jobfile.specs.OfAccepted.{OfAccepted}

pub accepted_is : (P : Job → Type 0) (job : Job) → OfAccepted P (accepted job) → P job
accepted_is P job h = h

-- What is promised of an accepted job alone.
use Rattle.board.specs.Job.{Job}
use Rattle.jobfile.specs.Read.{Read, accepted, refused}

-- P holds of the job, where a text is read as one; of a refused text nothing is asked
abbrev pub OfAccepted : (Job → Type 0) → Read → Type 0
OfAccepted P (accepted job) = P job
OfAccepted P (refused o) = Unit {0}

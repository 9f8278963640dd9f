-- What is promised of the texts that the programs print for an accepted job.
use Rattle.std.specs.Prelude.{ℕ, List}
use Rattle.board.specs.Job.{Job}
use Rattle.planning.specs.Plan.{plan_of}
use Rattle.sound.specs.Sound.{Sound}
use Rattle.routing.specs.Promises.{ShortestText, UnbeatenText}
use Rattle.house.specs.Promises.{IsFixed, ReadsBack, OneText, FixedAgain}

-- the layout has the planned wires at their shortest lengths, breaks no rule, and no track of it is beaten
pub record RoutePromised (job : Job) (text : List ℕ) : Type 0 where
  pub shortest : ShortestText job (plan_of job) text
  pub sound : Sound job text
  pub unbeaten : UnbeatenText job text

-- the text is the fixed one; it reads back, the jobs that agree in all but the order of blocks have it, and it is its own fixed text
pub record HousePromised (job : Job) (text : List ℕ) : Type 0 where
  pub fixed : IsFixed job text
  pub read_back : ReadsBack job text
  pub one_text : OneText job text
  pub again : FixedAgain text

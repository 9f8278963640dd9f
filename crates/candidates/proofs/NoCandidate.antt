-- `SlotArray::none` at a candidate: each slot holds no candidate. Assumes nothing.
use mathlib.Core.Path.{◌≡◌, ap, ◌∙◌}
use Rattle.candidates.specs.declared.Candidate.{Candidate}
use Rattle.candidates.specs.contracts.CandidateDefault.TheImpl as by_default
use Rattle.candidates.specs.SlotArrays.{Candidates, NoValues, no_values}
use Rattle.candidates.specs.Gathered.{no_candidate}

default_is : (x : Candidate) → by_default.ghosts.is_default x → x ≡ no_candidate
default_is x d = λ i. record {
  net = d.0 i;
  tops = record { need = d.1.0 i; weight = d.1.1.0 i; first = record { 0 = d.1.1.1.0 i }; last = record { 0 = d.1.1.1.1 i } };
}

pub no_candidates : (c : Candidates) → NoValues by_default.ghosts.is_default c → c ≡ no_values no_candidate
no_candidates c n = n.is ∙ ap (λ x. no_values x) (default_is n.value n.default)

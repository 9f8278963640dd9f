-- Values in an array of fixed size, in its first slots.
use Rattle.std.specs.Prelude.{◌+◌, ◌≡◌, set, replicate}
use Rattle.candidates.specs.declared.SlotArray.{SlotArray}
use Rattle.candidates.specs.declared.Candidate.{Candidate}

-- no value, with v in every slot
unfoldable pub no_values : {A : Type 0} → A → SlotArray A
no_values v = record { count = 0; slots = replicate 512 v }

-- no value, with the same default value in every slot
pub record NoValues {A : Type 0} (is_default : A → Type 0) (s : SlotArray A) : Type 0 where
  pub value : A
  pub default : is_default value
  pub is : s ≡ no_values value

-- one value more
unfoldable pub with_value : {A : Type 0} → SlotArray A → A → SlotArray A
with_value s v = record { count = s.count + 1; slots = set s.slots s.count v }

-- the candidates for a track
abbrev pub Candidates : Type 0
Candidates = SlotArray Candidate

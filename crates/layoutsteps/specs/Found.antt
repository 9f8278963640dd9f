-- The net that a line is of, as the check looks it up.
use Rattle.std.specs.Prelude.{◌≡◌, List, map, ℕ, ◌<◌, length, get_or, take, Option, None, Some, IfSome, option_map}
use Rattle.board.specs.declared.Net.{Net}
use Rattle.board.specs.Job.{Job}
use Rattle.layout.specs.Tree.{Wire, Line, wire}
use Rattle.layout.specs.ReadBack.{read_line}
use Rattle.layoutforms.specs.declared.LayoutForm.{LayoutForm}
use Rattle.judging.specs.declared.found.NetFound.{NetFound}
use Rattle.judging.specs.Values.{position_numbered, NetIs}
use Rattle.layoutsteps.specs.declared.tables.NetSlot.{NetSlot}
use Rattle.layoutsteps.specs.LayoutSteps.{form_number, LineIs}

-- the index of the first net with the number k, if a number is given and a net has it
abbrev pub position_of : Option ℕ → List Net → Option ℕ
position_of None ns = None
position_of (Some k) ns = position_numbered k ns

-- the index of the net with the number k among `count` nets, if a number is given and a net has it, and what `before` has there
pub record SlotFor (numbers : List ℕ) (before : List (Option ℕ)) (count : ℕ) (k : Option ℕ) (r : Option NetSlot) : Type 0 where
  pub index_is : (ns : List Net) → length ns ≡ count → take count numbers ≡ map (λ n. n.number) ns → option_map (λ slot. slot.index) r ≡ position_of k ns
  pub index_range : IfSome r (λ slot. slot.index < count)
  pub before_is : IfSome r (λ slot. slot.before ≡ get_or before slot.index None)

-- s is the line of a wire, of the net found if one was found
pub record LineOfWire (found : Option NetFound) (s : List ℕ) : Type 0 where
  pub line : Wire
  pub read : read_line s ≡ Some (wire line)
  pub number_is : IfSome found (λ n. line.number ≡ n.net.net.number)

-- s is a line of the form, of the net found if one was found
pub record LineOfForm (found : Option NetFound) (form : Option LayoutForm) (s : List ℕ) : Type 0 where
  pub line : Option Line
  pub line_is : LineIs s line form
  pub number_is : IfSome found (λ n. form_number form ≡ Some n.net.net.number)

-- found is the net of the job with number k, if a net has it
pub record FoundFor (job : Job) (k : ℕ) (found : Option NetFound) : Type 0 where
  pub index_is : option_map (λ n. n.index) found ≡ position_numbered k job.nets
  pub net_is : IfSome found (NetIs job)

-- found is the net of a line with the number k, if it has one and a net of the job has it
abbrev pub IsNetOf : Job → Option ℕ → Option NetFound → Type 0
IsNetOf job None found = found ≡ None
IsNetOf job (Some k) found = FoundFor job k found

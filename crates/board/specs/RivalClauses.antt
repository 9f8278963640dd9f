-- Each clause of `Rival` as a test, and the clauses that a list of placements breaks. proofs/RivalTests.antt shows that a list is a rival
-- sequence exactly if it breaks none.
use Rattle.std.specs.Prelude.{ℕ, ◌≡◌, Bool, cond, not, ◌||◌, List, [], ◌∷◌, ltb}
use Rattle.lists.specs.Lists.{any_of, all_of, all_pairs}
use Rattle.board.specs.Length.{width, upper, lower, span, plain_length}
use Rattle.board.specs.Job.{Job, closes_row, blocked}
use Rattle.board.specs.Placement.{Placement, bottom}
use Rattle.board.specs.Rival.{Rival}
use Rattle.board.specs.Tests.{same_net, is_of_job, is_long, is_short, is_from_one, is_over_upper, is_under_lower, is_to_last, clear_rows, is_clear, is_on, is_before, is_ready}

-- the top row of p is above that of q
unfoldable pub is_rising : Placement → Placement → Bool
is_rising p q = ltb p.top q.top

-- one lies wholly above the other
unfoldable pub is_apart : Placement → Placement → Bool
is_apart p q = ltb (bottom p) q.top || ltb (bottom q) p.top

-- what must hold of a rival sequence, one clause for each field of `Rival` and of what it is made of
pub data Clause : Type 0 where
  net_of_job : Clause
  length_from_min : Clause
  length_to_max : Clause
  top_from_row_one : Clause
  top_to_upper : Clause
  bottom_from_lower : Clause
  bottom_to_last_row : Clause
  clear_of_blocks : Clause
  on_no_earlier_track : Clause
  preceding_on_earlier_tracks : Clause
  tops_rise : Clause
  no_shared_row : Clause

-- a list of placements passes the test of a clause
unfoldable pub passes : Job → List ℕ → ℕ → List Placement → Clause → Bool
passes job earlier t ps net_of_job = all_of (is_of_job job) ps
passes job earlier t ps length_from_min = all_of (is_long job.board) ps
passes job earlier t ps length_to_max = all_of (is_short job.board) ps
passes job earlier t ps top_from_row_one = all_of is_from_one ps
passes job earlier t ps top_to_upper = all_of is_over_upper ps
passes job earlier t ps bottom_from_lower = all_of is_under_lower ps
passes job earlier t ps bottom_to_last_row = all_of (is_to_last job.board) ps
passes job earlier t ps clear_of_blocks = all_of (is_clear job t) ps
passes job earlier t ps on_no_earlier_track = all_of (λ p. not (is_on earlier p.net)) ps
passes job earlier t ps preceding_on_earlier_tracks = all_of (λ p. is_ready job earlier p.net) ps
passes job earlier t ps tops_rise = all_pairs is_rising ps
passes job earlier t ps no_shared_row = all_pairs is_apart ps

-- the twelve clauses, each once
abbrev pub clauses : List Clause
clauses =
    net_of_job ∷ length_from_min ∷ length_to_max ∷ top_from_row_one ∷ top_to_upper ∷ bottom_from_lower ∷ bottom_to_last_row ∷
    clear_of_blocks ∷ on_no_earlier_track ∷ preceding_on_earlier_tracks ∷ tops_rise ∷ no_shared_row ∷ []

-- those of some clauses that fail a test
unfoldable pub failing : (Clause → Bool) → List Clause → List Clause
failing f [] = []
failing f (c ∷ cs) = cond (f c) (failing f cs) (c ∷ failing f cs)

-- the clauses that a list of placements breaks, in the order above. To unfold this is to unfold all that it computes with
unfoldable pub broken_clauses : Job → List ℕ → ℕ → List Placement → List Clause
unfolding failing passes is_of_job same_net is_long is_short is_from_one is_over_upper is_under_lower is_to_last is_clear clear_rows is_ready is_on is_before is_rising is_apart width upper lower span plain_length closes_row blocked any_of all_of all_pairs
broken_clauses job earlier t ps = failing (passes job earlier t ps) clauses

-- the placements break this clause and no other, and are no rival sequence
abbrev pub BreaksOnly : Job → List ℕ → ℕ → List Placement → Clause → Type 0
BreaksOnly job earlier t ps c = (broken_clauses job earlier t ps ≡ c ∷ []) × (Rival job earlier t ps → ⊥)

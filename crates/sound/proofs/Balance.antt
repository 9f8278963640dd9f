-- The balance of a sound layout: all sums plus the weights of the loose nets are the weights of the nets of the job; and it has as many
-- lines of nets as the job has nets. Assumes nothing.
use Prim.Native.Nat.{ℕ, suc, ◌+◌, ◌<◌}
use mathlib.Core.Path.{◌≡◌, refl, sym}
use mathlib.Core.List.Memᴰ
use mathlib.Core.List.{List, [], ◌∷◌, ◌++◌, map}
use native.Mathlib.Omega.{arith}
use lib.ListN.{length, length-map}
use Rattle.lists.specs.Lists.{EachPair}
use Rattle.lists.proofs.Laws.{Each-map}
use Rattle.board.specs.declared.Net.{Net}
use Rattle.board.specs.Job.{Job}
use Rattle.board.specs.Weight.{weight_sum}
use Rattle.board.specs.Accepted.{AcceptedJob}
use Rattle.layout.specs.Tree.{DrawnTrack}
use Rattle.sound.specs.Wires.{weight_of, sum_over, wire_numbers, track_numbers, line_numbers, wires_sum, printed_sum}
use Rattle.sound.specs.Sound.{SoundTracks, Sound}
use Rattle.lists.proofs.Joins.{Each-each, Each-mapped}
use Rattle.sound.proofs.Sums.{Distinct, sum_le, sum_join, sum_ones}
use Rattle.sound.proofs.Nets.{nets_sum}

printed : (job : Job) (earlier : List ℕ) (t : ℕ) (trs : List DrawnTrack) → SoundTracks job earlier t trs → printed_sum trs ≡ sum_over (weight_of job) (track_numbers trs)
unfolding printed_sum track_numbers wires_sum sum_over
printed job earlier t [] s = refl
printed job earlier t (tr ∷ trs) s =
    omega (
      arith,
      sum_join (weight_of job) (wire_numbers tr.wires) (track_numbers trs),
      printed job (earlier ++ wire_numbers tr.wires) (suc t) trs s.1,
      s.0.sum_is,
    )

rise_distinct : (ns : List Net) → EachPair (λ a b. a.number < b.number) ns → Distinct (map (λ n. n.number) ns)
rise_distinct [] r = tt
rise_distinct (n ∷ ns) r =
    (Each-mapped (λ m. m.number) (λ k. n.number ≡ k → ⊥) ns (Each-map ns (λ m l e. omega (arith, l, e)) r.0), rise_distinct ns r.1)

module _ (job : Job) (a : AcceptedJob job) (text : List ℕ) (s : Sound job text) where
  -- a sum over all lines is one over all nets
  pub lines_nets : (f : ℕ → ℕ) → sum_over f (line_numbers s.layout) ≡ sum_over f (map (λ n. n.number) job.nets)
  lines_nets f =
      omega (
        arith,
        sum_le f (line_numbers s.layout) (map (λ n. n.number) job.nets) s.once s.no_other,
        sum_le f (map (λ n. n.number) job.nets) (line_numbers s.layout) (rise_distinct job.nets a.numbers_rise)
            (λ k i. let m = Memᴰ.of_map (λ n. n.number) job.nets i in Memᴰ.cast (sym m.2) (s.each m.0 m.1)),
      )

  pub lines_count : length (line_numbers s.layout) ≡ length job.nets
  lines_count =
      omega (
        arith,
        lines_nets (λ k. 1),
        sum_ones (line_numbers s.layout),
        sum_ones (map (λ n. n.number) job.nets),
        length-map job.nets (λ n. n.number),
      )

  pub balance : printed_sum s.layout.tracks + sum_over (weight_of job) s.layout.loose ≡ weight_sum job.nets
  unfolding line_numbers
  balance =
      omega (
        arith,
        printed job [] 1 s.layout.tracks s.tracks,
        lines_nets (weight_of job),
        sum_join (weight_of job) (track_numbers s.layout.tracks) s.layout.loose,
        nets_sum job a.numbers_rise job.nets (Each-each job.nets (λ n i. i)),
      )

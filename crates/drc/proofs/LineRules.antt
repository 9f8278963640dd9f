-- A line of the form that can stand there breaks a rule exactly if it fails its test. Assumes nothing.
use Prim.Native.Nat.{◌<◌}
use mathlib.Core.Path.{◌≡◌}
use mathlib.Core.Bool.{true, false, true≢false}
use Rattle.std.specs.Prelude.{Option}
use mathlib.Core.List.{List, ◌++◌}
use Rattle.lists.specs.Lists.{EachPair}
use Rattle.lists.proofs.Laws.{all_of_at}
use Rattle.lists.proofs.Joins.{all_of_false}
use Rattle.board.specs.Job.{Job}
use Rattle.board.specs.Tests.{is_on}
use Rattle.board.proofs.ExactTests.{on_listed, listed_on}
use Rattle.layout.specs.Tree.{Line, opens, track, wire, loose, closes}
use Rattle.sound.specs.Wires.{wire_numbers}
use Rattle.drc.specs.Standing.{Above, before_layout, in_layout, behind_layout, numbers_above}
use Rattle.drc.specs.Breach.{LineBreach, false_sum, wire_rule, loose_rule, missing_net}
use Rattle.drc.specs.Judge.{is_in_place, is_true_sum, keeps_rules}
use Rattle.drc.proofs.FailedTests.{passes_and_fails}
use Rattle.drc.proofs.InPlace.{under_track}
use Rattle.drc.proofs.SumRule.{false_sum_fails}
use Rattle.drc.proofs.SumBreach.{fails_sum}
use Rattle.drc.proofs.WireRule.{wire_kept, fails_wire, kept_unbroken}
use Rattle.drc.proofs.LooseRule.{fails_loose, passes_loose}

module _ (job : Job) (rise : EachPair (λ a b. a.number < b.number) job.nets) where
  pub fails_line : (a : Above) (x : Line) (ls : List (Option Line)) → is_in_place job a x ≡ true → keeps_rules job a x ls ≡ false → LineBreach job a x ls
  unfolding keeps_rules
  fails_line before_layout x ls s f = absurd (true≢false f)
  fails_line behind_layout x ls s f = absurd (true≢false f)
  fails_line (in_layout t earlier ws ns) opens ls s f = absurd (true≢false f)
  fails_line (in_layout t earlier ws ns) (track u v) ls s f = false_sum (fails_sum job u v (earlier ++ wire_numbers ws) ls f)
  fails_line (in_layout t earlier ws ns) (wire w) ls s f =
      let u = under_track job t earlier ws ns w s in
      wire_rule (fails_wire job t earlier ws rise u.from_track u.to_track ns w f)
  fails_line (in_layout t earlier ws ns) (loose k) ls s f = loose_rule (fails_loose job (earlier ++ wire_numbers ws) ns k f)
  fails_line (in_layout t earlier ws ns) closes ls s f =
      let m = all_of_false (is_on (numbers_above earlier ws ns)) job.nets f in
      missing_net {n = m.0} m.1 (λ i. passes_and_fails (is_on (numbers_above earlier ws ns) m.0) (on_listed (numbers_above earlier ws ns) m.0 i) m.2)

  pub passes_line : {a : Above} {x : Line} {ls : List (Option Line)} → is_in_place job a x ≡ true → keeps_rules job a x ls ≡ true → LineBreach job a x ls → ⊥
  unfolding keeps_rules
  passes_line s k (false_sum {u = u} {s = v} {earlier = earlier} {ws = ws} {ls = ls} r) =
      passes_and_fails (is_true_sum job u v 0 ls) k (false_sum_fails job u v (earlier ++ wire_numbers ws) ls r)
  passes_line s k (wire_rule {t = t} {earlier = earlier} {ns = ns} {ws = ws} {w = w} b) =
      let u = under_track job t earlier ws ns w s in
      kept_unbroken job t earlier ws rise u.from_track u.to_track ns w (wire_kept job t earlier ws w k) u.loose_none b
  passes_line s k (loose_rule {k = j} {earlier = earlier} {ns = ns} {ws = ws} b) = passes_loose job (earlier ++ wire_numbers ws) ns j k b
  passes_line s k (missing_net {earlier = earlier} {ns = ns} {ws = ws} {n = n} i f) =
      f (listed_on (numbers_above earlier ws ns) n (all_of_at (is_on (numbers_above earlier ws ns)) job.nets n k i))

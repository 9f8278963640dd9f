-- `jobrules::net_outcome` meets its contract: refusals 3 to 9, the first that fits. Assumes nothing.
use Rattle.std.specs.Prelude.{ℕ, Option}
use mathlib.Core.Path.{◌≡◌, sym, ap, ◌∙◌}
use mathlib.Core.Bool.{true}
use native.Mathlib.Omega.{arith}
use Rattle.board.specs.declared.Board.{Board}
use Rattle.board.specs.declared.Net.{Net}
use Rattle.board.specs.Length.{extra, length_of}
use Rattle.board.specs.Accepted.{NetInRange}
use Rattle.board.proofs.ShortestShape.{stretch_range}
use Rattle.jobfile.specs.Read.{net_in_range}
use Rattle.jobfile.proofs.Tests.{net_range_is, differ_is}
use Rattle.jobrules.proofs.Pins.{rows_in_range}
use Rattle.jobrules.proofs.Outcomes.{test_yes, test_no, fails_3, fails_4, fails_5, fails_6, fails_7, fails_8, fails_9, passes_9}
use Rattle.jobrules.proofs.net_outcome.Goals as goal

in_range : (size : Board) (n : Net) (w : Option ℕ) → net_in_range size n w ≡ true → NetInRange size n
in_range size n w e = ((net_range_is size n w).0 e).0

pub returns-then-not-is_net_in_range : goal.returns-then-not-is_net_in_range
returns-then-not-is_net_in_range c =
    record {
      outcome = λ job s h. fails_3 _ _ _ _ _ _ _ job s h (sym c.is_net_in_range.ensures ∙ c.if-not-is_net_in_range.true);
      fits = tt;
    }

pub returns-then-count-ge512 : goal.returns-then-count-ge512
returns-then-count-ge512 c =
    record {
      outcome = λ job s h. fails_4 _ _ _ _ _ _ _ job s h (sym c.is_net_in_range.ensures ∙ c.if-not-is_net_in_range.false) c.if-count-ge512.true;
      fits = tt;
    }

pub returns-then-not-numbered : goal.returns-then-not-numbered
returns-then-not-numbered c =
    record {
      outcome = λ job s h. fails_5 _ _ _ _ _ _ _ job s h (sym c.is_net_in_range.ensures ∙ c.if-not-is_net_in_range.false) c.if-count-ge512.false c.if-not-numbered.true;
      fits = tt;
    }

pub are_pins_free-requires : goal.are_pins_free-requires
are_pins_free-requires c = rows_in_range _ _ c.requires (in_range _ _ _ (sym c.is_net_in_range.ensures ∙ c.if-not-is_net_in_range.false))

pub returns-then-not-are_pins_free : goal.returns-then-not-are_pins_free
returns-then-not-are_pins_free c =
    record {
      outcome = λ job s h. fails_6 _ _ _ _ _ _ _ job s h (sym c.is_net_in_range.ensures ∙ c.if-not-is_net_in_range.false) c.if-count-ge512.false c.if-not-numbered.false
          (sym (c.are_pins_free.ensures job.nets h.pins) ∙ c.if-not-are_pins_free.true);
      fits = tt;
    }

pub returns-then-net : goal.returns-then-net
returns-then-net c =
    record {
      outcome = λ job s h. fails_7 _ _ _ _ _ _ _ job s h (sym c.is_net_in_range.ensures ∙ c.if-not-is_net_in_range.false) c.if-count-ge512.false c.if-not-numbered.false
          (sym (c.are_pins_free.ensures job.nets h.pins) ∙ c.if-not-are_pins_free.false) c.if-net.true;
      fits = tt;
    }

pub invariant_of-given-clause-net_in_range : goal.invariant_of-given-clause-net_in_range
invariant_of-given-clause-net_in_range c = in_range _ _ _ (sym c.is_net_in_range.ensures ∙ c.if-not-is_net_in_range.false)

pub length_of-requires : goal.length_of-requires
length_of-requires c =
    let r = in_range _ _ _ (sym c.is_net_in_range.ensures ∙ c.if-not-is_net_in_range.false) in
    omega (arith, ap extra c.shortest-shape.ensures, stretch_range _ _ c.requires r)

pub returns-then-net-length_of : goal.returns-then-net-length_of
returns-then-net-length_of c =
    record {
      outcome = λ job s h. fails_8 _ _ _ _ _ _ _ job s h (sym c.is_net_in_range.ensures ∙ c.if-not-is_net_in_range.false) c.if-count-ge512.false c.if-not-numbered.false
          (sym (c.are_pins_free.ensures job.nets h.pins) ∙ c.if-not-are_pins_free.false) ((differ_is _ _).1 c.if-net.false)
          (test_no _ (c.length_of.ensures ∙ ap (length_of _ _) c.shortest-shape.ensures) c.if-net-length_of.true);
      fits = tt;
    }

pub returns-then-size-needed : goal.returns-then-size-needed
returns-then-size-needed c =
    record {
      outcome = λ job s h. fails_9 _ _ _ _ _ _ _ job s h (sym c.is_net_in_range.ensures ∙ c.if-not-is_net_in_range.false) c.if-count-ge512.false c.if-not-numbered.false
          (sym (c.are_pins_free.ensures job.nets h.pins) ∙ c.if-not-are_pins_free.false) ((differ_is _ _).1 c.if-net.false)
          (test_yes _ (c.length_of.ensures ∙ ap (length_of _ _) c.shortest-shape.ensures) c.if-net-length_of.false)
          (test_no _ c.needed.ensures c.if-size-needed.true);
      fits = tt;
    }

pub returns : goal.returns
returns c =
    record {
      outcome = λ job s h. passes_9 _ _ _ _ _ _ _ job s h (sym c.is_net_in_range.ensures ∙ c.if-not-is_net_in_range.false) c.if-count-ge512.false c.if-not-numbered.false
          (sym (c.are_pins_free.ensures job.nets h.pins) ∙ c.if-not-are_pins_free.false) ((differ_is _ _).1 c.if-net.false)
          (test_yes _ (c.length_of.ensures ∙ ap (length_of _ _) c.shortest-shape.ensures) c.if-net-length_of.false)
          (test_yes _ c.needed.ensures c.if-size-needed.false);
      fits = (omega arith, in_range _ _ _ (sym c.is_net_in_range.ensures ∙ c.if-not-is_net_in_range.false));
    }

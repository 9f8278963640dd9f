-- `layoutsteps::take_wire` meets its contract. Assumes nothing.
use mathlib.Core.Path.{refl, sym, ap, ◌∙◌}
use Rattle.board.specs.declared.Board.{Board}
use Rattle.board.specs.Weight.{weight}
use Rattle.layout.specs.Tree.{wire}
use Rattle.drc.specs.Judge.{is_opening}
use Rattle.judging.specs.declared.LinesJudged.TheVariants.{Running}
use Rattle.judging.proofs.Turns.{idle_off, closes_off, wire_place}
use Rattle.judging.proofs.Steps.{wire_taken}
use Rattle.layoutsteps.proofs.WireLines.{place_none, drawn_at, unknown_undrawn, unknown_weight, found_number, known_weight, known_drawn}
use Rattle.layoutsteps.proofs.take_wire.Goals as goal

pub returns-in_default-clause-keeps_step : goal.returns-in_default-clause-keeps_step
unfolding is_opening
returns-in_default-clause-keeps_step c =
    let a = c.args in
    λ job st w acc is f rd map k. idle_off job a.line st (wire w) a.m a.stands.now refl c.in_default.not-Running k

pub returns-then-not-is_wire_turn-clause-keeps_step : goal.returns-then-not-is_wire_turn-clause-keeps_step
returns-then-not-is_wire_turn-clause-keeps_step c =
    λ job st w acc is f rd map k.
    let a = c.args in
    let on = ap (λ (b : Board). b.tracks) is in
    let j = c.in-Running.above in
    let h = rw c.in-Running.is at k in
    let turn = sym c.is_wire_turn.ensures ∙ c.if-not-is_wire_turn.true in
    rw c.closed.ensures
    (closes_off job a.line st (wire w) (Running j) a.stands.now h (sym (wire_place job a.board.tracks on j a.stands.now st w h) ∙ turn))

pub returns-in_default-found-clause-keeps_step : goal.returns-in_default-found-clause-keeps_step
returns-in_default-found-clause-keeps_step c =
    λ job st w acc is f rd map k.
    let a = c.args in
    let on = ap (λ (b : Board). b.tracks) is in
    let j = c.in-Running.above in
    let h = rw c.in-Running.is at k in
    let turn = sym (wire_place job a.board.tracks on j a.stands.now st w h) ∙ sym c.is_wire_turn.ensures ∙ c.if-not-is_wire_turn.false in
    let none = (rw c.in_default-found.is at f).index_is in
    wire_taken job a.line j a.stands.now st w _ _ _ turn h (unknown_undrawn job w none j.track.0)
    (λ m q. c.add_undrawn.ensures.keeps_summary job m w a.stands.now a.stands.now (unknown_weight job w none) q)

pub invariant_of-add_drawn : goal.invariant_of-add_drawn
invariant_of-add_drawn c =
    let l = c.requires.line_of_wire in
    let n = c.in-Some.found in
    let numbered = rw c.in-Some.is at l.number_is in
    let at = drawn_at n.net.board c.in-Running.above.track l.line.points n.net.net c.in-Some-drawn_place.wired (c.in-Some-drawn_place.ensures l.line l.read numbered) in
    record { from_one = at.from_one; to_last = at.to_last }

pub returns-in-Some-drawn_place-clause-keeps_step : goal.returns-in-Some-drawn_place-clause-keeps_step
returns-in-Some-drawn_place-clause-keeps_step c =
    λ job st w acc is f rd map k.
    let a = c.args in
    let on = ap (λ (b : Board). b.tracks) is in
    let j = c.in-Running.above in
    let h = rw c.in-Running.is at k in
    let turn = sym (wire_place job a.board.tracks on j a.stands.now st w h) ∙ sym c.is_wire_turn.ensures ∙ c.if-not-is_wire_turn.false in
    let n = c.in-Some.found in
    let g = rw c.in-Some.is at f in
    let blocks = rw c.in-Running.is at map in
    let number = found_number job w acc n g in
    let at = drawn_at n.net.board j.track w.points n.net.net c.in-Some-drawn_place.wired (c.in-Some-drawn_place.ensures w rd (sym number)) in
    wire_taken job a.line j a.stands.now st w _ _ _ turn h
    (known_drawn job w acc n g j.track.0 ∙ at.drawn_is)
    (λ m q. c.add_drawn-behind.ensures.keeps_summary job m w acc g.net_is number blocks q)

pub returns-in-None-clause-keeps_step : goal.returns-in-None-clause-keeps_step
unfolding weight
returns-in-None-clause-keeps_step c =
    λ job st w acc is f rd map k.
    let a = c.args in
    let on = ap (λ (b : Board). b.tracks) is in
    let j = c.in-Running.above in
    let h = rw c.in-Running.is at k in
    let turn = sym (wire_place job a.board.tracks on j a.stands.now st w h) ∙ sym c.is_wire_turn.ensures ∙ c.if-not-is_wire_turn.false in
    let n = c.in-Some.found in
    let g = rw c.in-Some.is at f in
    wire_taken job a.line j a.stands.now st w _ _ _ turn h
    (known_drawn job w acc n g j.track.0 ∙ place_none j.track _ (c.in-None.ensures w rd (sym (found_number job w acc n g))))
    (λ m q. c.add_undrawn-behind.ensures.keeps_summary job m w a.stands.now a.stands.now (known_weight job w acc n g) q)

-- `layoutsteps::take_line` meets its contract: one case for each form. Assumes nothing.
use mathlib.Core.Path.{◌≡◌, sym, ap, ◌∙◌}
use borrow.Author.Rules.{rules}
use Rattle.std.specs.Prelude.{Some, option_map}
use Rattle.board.specs.declared.Board.{Board}
use Rattle.layout.specs.Tree.{wire}
use Rattle.drc.specs.Pass.{pass_step}
use Rattle.judging.specs.declared.found.NetFound.{NetFound}
use Rattle.judging.proofs.Turns.{closes_ill_formed}
use Rattle.layoutforms.proofs.FormsRead.{opening_read, track_read, wire_read, loose_read, closing_read, none_read}
use Rattle.layoutsteps.proofs.WireLines.{numbered_found}
use Rattle.layoutsteps.proofs.take_line.Goals as goal

pub returns-in_default-clause-keeps_step : goal.returns-in_default-clause-keeps_step
unfolding pass_step
returns-in_default-clause-keeps_step c =
    λ job st x acc is n f l map k.
    let a = c.args in
    rw (none_read x (sym c.in_default.is ∙ l.form_is), c.closed.ensures) (closes_ill_formed job a.line st a.m a.stands.now k)

pub take_wire-requires-clause-line_of_wire : goal.take_wire-requires-clause-line_of_wire
take_wire-requires-clause-line_of_wire c =
    let o = c.in-Some.is ∙ ap Some c.in-Wire.is in
    let l = c.requires.line_of_form in
    let w = wire_read l.line _ (sym o ∙ l.line_is.form_is) in
    let p = rw o at l.number_is in
    record { line = w.drawn; read = l.line_is.read_is (wire w.drawn) w.line; number_is = numbered_found c.args.found _ _ w.numbered p }

pub returns-in-Opening-clause-keeps_step : goal.returns-in-Opening-clause-keeps_step
unfolding pass_step
returns-in-Opening-clause-keeps_step c =
    λ job st x acc is n f l map k.
    let o = c.in-Some.is ∙ ap Some c.in-Opening.is in
    rw (opening_read x (sym o ∙ l.form_is)) (c.take_opening.ensures.keeps_step job st _ k)

pub returns-in-Track-clause-keeps_step : goal.returns-in-Track-clause-keeps_step
unfolding pass_step
returns-in-Track-clause-keeps_step c =
    λ job st x acc is n f l map k.
    let o = c.in-Some.is ∙ ap Some c.in-Track.is in
    rw (track_read x _ _ (sym o ∙ l.form_is)) (c.take_track.ensures.keeps_step job st _ (ap (λ (b : Board). b.tracks) is) k)

pub returns-in-Wire-clause-keeps_step : goal.returns-in-Wire-clause-keeps_step
unfolding pass_step
returns-in-Wire-clause-keeps_step c =
    λ job st x acc is n f l map k.
    let o = c.in-Some.is ∙ ap Some c.in-Wire.is in
    let w = wire_read x _ (sym o ∙ l.form_is) in
    let g = rw (o, sym w.numbered) at f in
    rw w.line (c.take_wire.ensures.keeps_step job st w.drawn acc is g (l.read_is (wire w.drawn) w.line) map k)

pub returns-in-Loose-clause-keeps_step : goal.returns-in-Loose-clause-keeps_step
unfolding pass_step
returns-in-Loose-clause-keeps_step c =
    λ job st x acc is n f l map k.
    let o = c.in-Some.is ∙ ap Some c.in-Loose.is in
    let g = rw o at f in
    let index : c.map-index.result ≡ option_map (λ (n : NetFound). n.index) c.args.found = search rules in
    rw (loose_read x _ (sym o ∙ l.form_is)) (c.take_loose.ensures.keeps_step job st acc (ap (λ (b : Board). b.tracks) is) (index ∙ g.index_is) k)

pub returns-in-Closing-clause-keeps_step : goal.returns-in-Closing-clause-keeps_step
unfolding pass_step
returns-in-Closing-clause-keeps_step c =
    λ job st x acc is n f l map k.
    let o = c.in-Some.is ∙ ap Some c.in-Closing.is in
    rw (closing_read x (sym o ∙ l.form_is)) (c.take_closing.ensures.keeps_step job st acc (ap (λ (b : Board). b.tracks) is) n k)

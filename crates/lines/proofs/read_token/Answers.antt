-- `lines::read_token` meets its contract: the four answers. Assumes nothing.
use mathlib.Core.Path.{◌∙◌}
use native.Mathlib.Omega.{arith}
use borrow.Author.Rules.{rules}
use Rattle.text.specs.Bytes.{not_space}
use Rattle.lines.proofs.Tokens.{on_nothing, on_open, on_shut, on_word, at_on}
use Rattle.lines.proofs.read_token.Goals as goal

pub returns-in_err-first : goal.returns-in_err-first
returns-in_err-first c =
    let i = c.scan_to-i.result in
    let s = c.args.s.now in
    rw c.from_residual.ensures (on_nothing s i (grind arith) ∙ at_on s c.args.at i (c.scan_to-i.ensures.exact not_space (search rules)))

pub returns-in-40 : goal.returns-in-40
returns-in-40 c =
    let i = c.scan_to-i.result in
    let s = c.args.s.now in
    on_open s i (grind arith) (grind arith) ∙ at_on s c.args.at i (c.scan_to-i.ensures.exact not_space (search rules))

pub returns-in-41 : goal.returns-in-41
returns-in-41 c =
    let i = c.scan_to-i.result in
    let s = c.args.s.now in
    on_shut s i (grind arith) (grind arith) ∙ at_on s c.args.at i (c.scan_to-i.ensures.exact not_space (search rules))

pub returns-in_default : goal.returns-in_default
returns-in_default c =
    let i = c.scan_to-i.result in
    let s = c.args.s.now in
    on_word s i c.word_end.result (grind arith) (grind arith) (grind arith) c.word_end.ensures.0 ∙ at_on s c.args.at i (c.scan_to-i.ensures.exact not_space (search rules))

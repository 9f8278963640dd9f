-- `lines::scan_to` meets its contract: what it finds, and that this is the place of the definition for any test that the closure computes.
-- Assumes nothing.
use borrow.Author.Rules.{rules}
use Rattle.lines.proofs.Scans.{scanned}
use Rattle.lines.proofs.scan_to.Goals as goal

pub returns-clause-scanned : goal.returns-clause-scanned
returns-clause-scanned g c = search rules

pub returns-clause-exact : goal.returns-clause-exact
returns-clause-exact g c f h = scanned f _ _ _ h (returns-clause-scanned g c)

-- `files::read_full` meets its contract. Assumes nothing.
use mathlib.Core.Path.{sym, subst}
use borrow.Author.Rules.{rules}
use Rattle.std.specs.Io.KnownBytes.{Consumes}
use Rattle.std.proofs.KnownBytes.{Consumes-trans}
use Rattle.files.proofs.Reading.{read_more}
use Rattle.files.proofs.read_full.Goals as goal

pub loop-done-preserved : goal.loop-done-preserved
loop-done-preserved g c =
    let l = c.loop-done in
    record {
      fits = search rules;
      kept = search rules;
      given =
          subst (Consumes _ _) (sym (read_more l.done c.in-Ok.n l.buf c.read.new.buf l.invariant.fits))
          (Consumes-trans _ _ _ _ _ l.invariant.given c.in-Ok.ensures.bytes.0);
    }

-- What is promised of a file that is read, taken out clause by clause: none of them asks less than its words say. Assumes nothing.
use Prim.Native.Nat.{ℕ}
use mathlib.Core.Path.{◌≡◌, refl, subst}
use mathlib.Core.List.{List, ◌++◌}
use lib.ListN.{length, take, drop, replicate}
use Rattle.files.specs.declared.buffer.TextBuffer.{TextBuffer}
use Rattle.std.specs.Prelude.{IfSome, Option, Some, Result, Ok, Err}
use Rattle.std.specs.Io.{StartsWith}
use Rattle.files.specs.Unopened.{EmptyUnopened}
use Rattle.files.specs.Given.{FirstGiven}
use Rattle.files.specs.FileTexts.{text_of, ReadText}

-- nothing is read of what could not be opened
pub unopened_is : (F : Type 0) {E : Type 0} (e : E) (r : ℕ) → EmptyUnopened {F = F} (Err e) r → r ≡ 0
unopened_is F e r h = h

-- where nothing is read, nothing is asked, whether it could be opened or not
pub nothing_read : {F E : Type 0} (opened : Result F E) → EmptyUnopened opened 0
nothing_read (Ok file) = tt
nothing_read (Err e) = refl

-- the text of a reader whose bytes are known is the first of them, as many as were read
pub given_is : {F : Type 0} (E : Type 0) (remaining : F → Option (List ℕ)) (file : F) (xs : List ℕ) (t : TextBuffer 64001) → remaining file ≡ Some xs
    → FirstGiven {F = F} {E = E} remaining (Ok file) (text_of t) → take (length (text_of t)) xs ≡ text_of t
given_is E remaining file xs t e h = subst (λ (known : Option (List ℕ)). IfSome known (λ ys. StartsWith ys (text_of t))) e h

-- the text is the first bytes of the buffer, as many as are used
pub text_is : {n : ℕ} (t : TextBuffer n) → text_of t ≡ take t.used t.bytes
unfolding text_of
text_is t = refl

module _ (t : TextBuffer 64001) (h : ReadText t) where
  -- as many bytes were read as the text has
  pub used_is : t.used ≡ length (text_of t)
  used_is = h.written.used

  -- the buffer is the text and then bytes 0, 64,001 in all
  pub bytes_is : t.bytes ≡ text_of t ++ drop (length (text_of t)) (replicate 64001 0)
  bytes_is = h.written.bytes

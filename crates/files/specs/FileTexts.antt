-- The text in an array of fixed size, and a file as it was read.
use Rattle.std.specs.Prelude.{ℕ, List, take, replicate}
use Rattle.text.specs.Written.{Written}
use Rattle.files.specs.declared.buffer.TextBuffer.{TextBuffer}

-- the text in an array: as many of its first bytes as are used
unfoldable pub text_of : {n : ℕ} → TextBuffer n → List ℕ
text_of t = take t.used t.bytes

-- the bytes of a file that were read stand at the start of the buffer, and behind them every byte is 0, as the buffer was made
pub record ReadText (t : TextBuffer 64001) : Type 0 where
  pub written : Written (text_of t) (replicate 64001 0) t.bytes t.used

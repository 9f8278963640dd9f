-- A text written over the start of a buffer: the buffer afterwards, every byte of it, and the bytes used.
use Rattle.std.specs.Prelude.{◌≡◌, List, ◌++◌, ℕ, ◌+◌, length, take, drop}

-- s with the text over its first bytes, the rest as it was
abbrev pub over : List ℕ → List ℕ → List ℕ
over text s = text ++ drop (length text) s

-- a writer answers r, the bytes used, which are those of the text; its buffer afterwards has the text over its first bytes, the rest as before
pub record Written (text before after : List ℕ) (r : ℕ) : Type 0 where
  pub used : r ≡ length text
  pub bytes : after ≡ over text before

-- s with the text over its bytes from the place `at` on
abbrev pub over_at : ℕ → List ℕ → List ℕ → List ℕ
over_at at text s = take at s ++ over text (drop at s)

-- a writer that is told the place `at` answers r, the place behind the text; its buffer afterwards has the text over its bytes from `at`
-- on, the rest as before
pub record WrittenAt (at : ℕ) (text before after : List ℕ) (r : ℕ) : Type 0 where
  pub next : r ≡ at + length text
  pub bytes : after ≡ over_at at text before

-- Document 01, "Length, stretch and needed rows": the top rows whose covered rows have no blocked row, as flags in a buffer.
use Rattle.std.specs.Prelude.{ℕ, zero, suc, ◌+◌, ◌-◌, Bool, true, false, not, ◌&&◌, List, set}
use Rattle.blockmap.specs.Bits.{is_set}

-- none of the m rows from `top` on has its bit set in the words
unfoldable pub all_unset : List ℕ → ℕ → ℕ → Bool
all_unset words top zero = true
all_unset words top (suc m) = all_unset words top m && not (is_set words (top + m))

-- a test as a byte: 1 if it passes, 0 if not
abbrev pub flag : Bool → ℕ
flag true = 1
flag false = 0

-- the flags after the test of the k tops from `first` on: byte top − 1 is that of the test, every other byte is as it was
unfoldable pub flag_tops : (ℕ → Bool) → ℕ → ℕ → List ℕ → List ℕ
flag_tops test first zero flags = flags
flag_tops test first (suc k) flags = set (flag_tops test first k flags) (first + k - 1) (flag (test (first + k)))

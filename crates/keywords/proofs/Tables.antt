-- The rule of the tables of words: each row is its word, padded, beside the word's length. A proof about a table cites it, and the checker
-- computes `map padded` over all the words to compare them with the source's table. Assumes nothing.
use mathlib.Core.Path.{◌≡◌, refl}
use mathlib.Core.Bool.{true}
use mathlib.Core.List.{List, [], ◌∷◌, ◌++◌, map}
use Prim.Native.Nat.{ℕ, zero, suc, ◌-◌, ◌≤◌}
use native.Mathlib.Omega.{arith}
use lib.Dec.{leb}
use borrow.Author.Tests.{leb-true}
use lib.ListN.{length, get_or, take, replicate}
use lib.Seq.{take-append_seam}
use Rattle.lists.specs.Lists.{Each, all_of}
use Rattle.lists.proofs.Tested.{Each-of}
use Rattle.keywords.specs.Keywords.{words, word_of}
use Rattle.keywords.specs.declared.Keyword.{Keyword}
use Rattle.keywords.specs.declared.Vocabulary.{Vocabulary}
use Rattle.keywords.specs.declared.Vocabulary.TheVariants.{Job, Layout}

-- a word as its table holds it: padded with 0 to eight bytes
abbrev pub padded : List ℕ → Keyword
padded w = record { 0 = w ++ replicate (8 - length w) 0; 1 = length w }

-- what stands behind the last row
abbrev pub no_row : Keyword
no_row = record { 0 = []; 1 = 0 }

-- row i of the table of these words
abbrev pub row : List (List ℕ) → ℕ → Keyword
row ws i = get_or (map padded ws) i no_row

row_word : (ws : List (List ℕ)) (i : ℕ) → take (row ws i).1 (row ws i).0 ≡ get_or ws i []
row_word [] i = refl
row_word (w ∷ ws) zero = take-append_seam w (replicate (8 - length w) 0)
row_word (w ∷ ws) (suc i) = row_word ws i

pub word_at : (v : Vocabulary) (i : ℕ) → take (row (words v) i).1 (row (words v) i).0 ≡ word_of v i
unfolding word_of
word_at v i = row_word (words v) i

-- no word is longer than its row

short_at : (ws : List (List ℕ)) → Each (λ w. length w ≤ 8) ws → (i : ℕ) → (row ws i).1 ≤ 8
short_at [] a i = omega arith
short_at (w ∷ ws) a zero = a.0
short_at (w ∷ ws) a (suc i) = short_at ws a.1 i

all_short : (v : Vocabulary) → all_of (λ w. leb (length w) 8) (words v) ≡ true
unfolding all_of
all_short Job = refl
all_short Layout = refl

pub short : (v : Vocabulary) (i : ℕ) → (row (words v) i).1 ≤ 8
short v i = short_at (words v) (Each-of (λ w. leb (length w) 8) (words v) (λ w. leb-true (length w) 8) (all_short v)) i

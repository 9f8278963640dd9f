-- Each inner line of a job's fixed text is the parts that its writer writes. Assumes nothing.
use Rattle.std.specs.Prelude.{Option, None, Some}
use Prim.Native.Nat.{ℕ}
use mathlib.Core.Path.{◌≡◌, refl, sym, ap, ◌∙◌}
use mathlib.Core.List.{List, [], ◌∷◌, ◌++◌, append_assoc}
use mathlib.Core.Bool.{not}
use lib.Dec.{eqb}
use Rattle.std.specs.Bool.{then_some}
use Rattle.lists.proofs.Cases.{by_test}
use Rattle.text.specs.Digits.{digits}
use Rattle.text.specs.Written.{WrittenAt}
use Rattle.text.proofs.Writing.{none_at}
use Rattle.keywords.specs.Keywords.{net_word, word_of}
use Rattle.linewriter.specs.LineText.{head_text, number_text}
use Rattle.keywords.specs.declared.Vocabulary.TheVariants.{Job}
use Rattle.board.specs.declared.Board.{Board}
use Rattle.board.specs.declared.Net.{Net}
use Rattle.board.specs.declared.Block.{Block}
use Rattle.board.specs.Length.{needed}
use Rattle.house.specs.HouseText.{spaced_then, inner_line, weight_written, optional_number, net_numbers, block_line}
use Rattle.joblines.specs.Lines.{ended, two_text, optional_text}

-- numbers and what is behind them, with a byte more
spaced_ended : (ns rest : List ℕ) → spaced_then ns rest ++ (10 ∷ []) ≡ spaced_then ns (rest ++ (10 ∷ []))
unfolding spaced_then
spaced_ended [] rest = refl
spaced_ended (n ∷ ns) rest = ap (λ l. 32 ∷ l) (append_assoc (digits n) (spaced_then ns rest) (10 ∷ []) ∙ ap (λ l. digits n ++ l) (spaced_ended ns rest))

-- an inner line: how it begins, and the numbers behind the first
line_parts : (i n : ℕ) (ns : List ℕ) → ended (inner_line (word_of Job i) (n ∷ ns)) ≡ head_text Job i n ++ spaced_then ns (41 ∷ 10 ∷ [])
unfolding inner_line head_text spaced_then
line_parts i n ns =
    let t = spaced_then ns (41 ∷ []) in
    ap (λ l. 32 ∷ 40 ∷ l)
    (append_assoc (word_of Job i) (32 ∷ (digits n ++ t)) (10 ∷ []) ∙
    ap (λ l. word_of Job i ++ (32 ∷ l)) (append_assoc (digits n) t (10 ∷ []) ∙ ap (λ l. digits n ++ l) (spaced_ended ns (41 ∷ []))) ∙
    sym (append_assoc (word_of Job i) (32 ∷ digits n) (spaced_then ns (41 ∷ 10 ∷ []))))

two_parts : (a b : ℕ) (ns rest : List ℕ) → spaced_then (a ∷ b ∷ ns) rest ≡ two_text a b ++ spaced_then ns rest
unfolding spaced_then
two_parts a b ns rest = ap (λ l. 32 ∷ l) (sym (append_assoc (digits a) (32 ∷ digits b) (spaced_then ns rest)))

none_parts : (rest : List ℕ) → spaced_then [] rest ≡ rest
unfolding spaced_then
none_parts rest = refl

pub size_is : (i n : ℕ) → ended (inner_line (word_of Job i) (n ∷ [])) ≡ number_text Job i n
size_is i n = line_parts i n [] ∙ ap (λ l. head_text Job i n ++ l) (none_parts (41 ∷ 10 ∷ []))

optional_parts : (w : Option ℕ) (rest : List ℕ) → spaced_then (optional_number w) rest ≡ optional_text w ++ rest
unfolding spaced_then optional_text
optional_parts None rest = refl
optional_parts (Some x) rest = refl

-- a number that is left out, and one that is written
pub none_put : (w : Option ℕ) (at : ℕ) (s : List ℕ) → w ≡ None → WrittenAt at (optional_text w) s s at
unfolding optional_text
none_put w at s e = rw e (none_at at s)

pub some_text : (w : Option ℕ) (x : ℕ) → w ≡ Some x → optional_text w ≡ 32 ∷ digits x
unfolding optional_text
some_text w x e = rw e

pub some_put : (w : Option ℕ) (x : ℕ) {at r : ℕ} {s t : List ℕ} → w ≡ Some x → WrittenAt at (32 ∷ digits x) s t r → WrittenAt at (optional_text w) s t r
some_put w x e h = rw (some_text w x e) h

-- the weight of a net: left out, or written
pub weight_is : (board : Board) (n : Net) → then_some (not (eqb n.weight (needed board n))) n.weight ≡ weight_written board n
unfolding weight_written
weight_is board n = by_test (eqb n.weight (needed board n)) (λ e. rw e) (λ e. rw e)

pub net_parts : (n : Net) (w : Option ℕ) → ended (inner_line net_word (net_numbers n w)) ≡
    head_text Job 3 n.number ++ (two_text n.left.0 n.right.0 ++ (two_text n.min n.max ++ (optional_text w ++ (41 ∷ 10 ∷ []))))
unfolding word_of
net_parts n w =
    line_parts 3 n.number (n.left.0 ∷ n.right.0 ∷ n.min ∷ n.max ∷ optional_number w) ∙
    ap (λ l. head_text Job 3 n.number ++ l)
    (two_parts n.left.0 n.right.0 (n.min ∷ n.max ∷ optional_number w) (41 ∷ 10 ∷ []) ∙
    ap (λ l. two_text n.left.0 n.right.0 ++ l)
    (two_parts n.min n.max (optional_number w) (41 ∷ 10 ∷ []) ∙ ap (λ l. two_text n.min n.max ++ l) (optional_parts w (41 ∷ 10 ∷ []))))

pub block_parts : (b : Block) → ended (block_line b) ≡ head_text Job 4 b.track.0 ++ (two_text b.first.0 b.last.0 ++ (41 ∷ 10 ∷ []))
unfolding word_of
block_parts b =
    line_parts 4 b.track.0 (b.first.0 ∷ b.last.0 ∷ []) ∙
    ap (λ l. head_text Job 4 b.track.0 ++ l)
    (two_parts b.first.0 b.last.0 [] (41 ∷ 10 ∷ []) ∙ ap (λ l. two_text b.first.0 b.last.0 ++ l) (none_parts (41 ∷ 10 ∷ [])))

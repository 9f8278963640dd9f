-- The laws of a form: what a line is by its first tokens, and the form that numbers make. Assumes nothing.
use mathlib.Core.Path.{◌≡◌, refl}
use mathlib.Core.Bool.{Bool, true, false}
use mathlib.Core.List.{List}
use Rattle.std.specs.Prelude.{Option, None, Some}
use Prim.Native.Nat.{ℕ, zero, suc, ◌-◌}
use lib.ListN.{length, get_or, take, drop}
use borrow.Author.Tests.{ne_eqb}
use Rattle.text.specs.Bytes.{same}
use Rattle.keywords.specs.Keywords.{find_from, find_word}
use Rattle.keywords.specs.declared.Vocabulary.TheVariants as Words
use Rattle.lines.specs.Tokens.{token_words, line_words}
use Rattle.lines.specs.declared.Token.{Token}
use Rattle.lines.specs.declared.Token.TheVariants.{Open, Shut, Word}
use Rattle.lines.specs.Tokened.{Tokened}
use Rattle.jobfile.specs.declared.Form.{Form}
use Rattle.jobfile.specs.declared.Form.TheVariants.{Blank, Board, Rows, Tracks, Net, Block, Close, Other}
use Rattle.jobfile.specs.Forms.{no_word, if_last, arguments, form_from, if_count, form_made, form_after, form_found, form_opened, form_of, read_form}
use Rattle.forms.proofs.Gathering.{word_is_none}

-- no token is left, or one is
pub last_yes : (ws : List (List ℕ)) (x : Form) (t : Bool) → t ≡ no_word ws → t ≡ true → x ≡ if_last ws x
unfolding if_last
last_yes ws x t e h = rw (← e, h)

pub last_no : (ws : List (List ℕ)) (x : Form) (t : Bool) → t ≡ no_word ws → t ≡ false → Other ≡ if_last ws x
unfolding if_last
last_no ws x t e h = rw (← e, h)

-- ---- behind a keyword

-- the form that each keyword makes of the numbers that it takes
pub made_rows : (i : ℕ) (n : List ℕ) → i ≡ 1 → length n ≡ 1 → Rows (get_or n 0 0) ≡ form_made i n
unfolding form_made if_count
made_rows i n e l = rw (e, l)

pub made_tracks : (i : ℕ) (n : List ℕ) → i ≡ 2 → length n ≡ 1 → Tracks (get_or n 0 0) ≡ form_made i n
unfolding form_made if_count
made_tracks i n e l = rw (e, l)

pub made_net : (i : ℕ) (n : List ℕ) → i ≡ 3 → length n ≡ 5 → Net (get_or n 0 0) (get_or n 1 0) (get_or n 2 0) (get_or n 3 0) (get_or n 4 0) None ≡ form_made i n
unfolding form_made if_count
made_net i n e l = rw (e, l)

pub made_weighted : (i : ℕ) (n : List ℕ) → i ≡ 3 → length n ≡ 6 →
    Net (get_or n 0 0) (get_or n 1 0) (get_or n 2 0) (get_or n 3 0) (get_or n 4 0) (Some (get_or n 5 0)) ≡ form_made i n
unfolding form_made
made_weighted i n e l = rw (e, l)

pub made_block : (i : ℕ) (n : List ℕ) → i ≡ 4 → length n ≡ 3 → Block (get_or n 0 0) (get_or n 1 0) (get_or n 2 0) ≡ form_made i n
unfolding form_made if_count
made_block i n e l = rw (e, l)

-- another keyword, or another count of numbers than the keyword's, makes no form
pub made_none : (i : ℕ) (n : List ℕ) → (i ≡ 1 → length n ≡ 1 → ⊥) → (i ≡ 2 → length n ≡ 1 → ⊥) → (i ≡ 3 → length n ≡ 5 → ⊥) → (i ≡ 3 → length n ≡ 6 → ⊥) → (i ≡ 4 → length n ≡ 3 → ⊥) → Other ≡ form_made i n
unfolding form_made if_count
made_none zero n a b c d e = refl
made_none (suc zero) n a b c d e = rw (ne_eqb (length n) 1 (a refl))
made_none (suc (suc zero)) n a b c d e = rw (ne_eqb (length n) 1 (b refl))
made_none (suc (suc (suc zero))) n a b c d e = rw (ne_eqb (length n) 6 (d refl), ne_eqb (length n) 5 (c refl))
made_none (suc (suc (suc (suc zero)))) n a b c d e = rw (ne_eqb (length n) 3 (e refl))
made_none (suc (suc (suc (suc (suc i))))) n a b c d e = refl

pub ruleset made = (made_rows, made_tracks, made_net, made_weighted, made_block, made_none)

pub after_numbers : (i : ℕ) (ws : List (List ℕ)) (o : Option (List ℕ)) → (i ≡ 0 → ⊥) → o ≡ arguments 6 ws → form_from o (form_made i) ≡ form_after i ws
unfolding form_after
after_numbers zero ws o z e = absurd (z refl)
after_numbers (suc i) ws o z e = rw e

pub after_board : (i : ℕ) (ws : List (List ℕ)) → i ≡ 0 → if_last ws Board ≡ form_after i ws
unfolding form_after
after_board i ws e = rw e

-- ---- behind an opening bracket

pub opened_word : (s : List ℕ) (at from to : ℕ) → Tokened s at (Some (Word from to)) →
    form_found (find_word Words.Job (take (to - from) (drop from s))) (line_words (drop to s)) ≡ form_opened (line_words (drop at s))
unfolding token_words form_opened
opened_word s at from to t = rw t.words

-- a token that is no word opens no form
pub opened_not : (s : List ℕ) (at : ℕ) (r : Option Token) → Tokened s at r → ((from to : ℕ) → r ≡ Some (Word from to) → ⊥) → Other ≡ form_opened (line_words (drop at s))
unfolding token_words form_opened form_found find_word find_from same
opened_not s at None t n = rw t.words
opened_not s at (Some (Open next)) t n = rw t.words
opened_not s at (Some (Shut next)) t n = rw t.words
opened_not s at (Some (Word from to)) t n = absurd (n from to refl)

-- ---- a line

pub form_none : (s : List ℕ) → Tokened s 0 None → Blank ≡ read_form s
unfolding token_words read_form form_of
form_none s t = rw t.words

pub form_open : (s : List ℕ) (next : ℕ) → Tokened s 0 (Some (Open next)) → form_opened (line_words (drop next s)) ≡ read_form s
unfolding token_words read_form form_of same
form_open s next t = rw t.words

pub form_shut : (s : List ℕ) (next : ℕ) → Tokened s 0 (Some (Shut next)) → if_last (line_words (drop next s)) Close ≡ read_form s
unfolding token_words read_form form_of same
form_shut s next t = rw t.words

pub form_word : (s : List ℕ) (from to : ℕ) → Tokened s 0 (Some (Word from to)) → Other ≡ read_form s
unfolding token_words read_form form_of
form_word s from to t = rw (t.words, word_is_none s 0 from to 41 t.placed refl, word_is_none s 0 from to 40 t.placed refl)

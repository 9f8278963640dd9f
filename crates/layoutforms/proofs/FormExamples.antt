-- Lines of a layout and lines that are none, computed: what document 01 leaves no freedom in. Assumes nothing.
use mathlib.Core.Path.{◌≡◌, refl, sym, ◌∙◌}
use mathlib.Core.List.{List, [], ◌∷◌, map}
use Rattle.lists.specs.Lists.{Each, all_of}
use Rattle.text.specs.Bytes.{same, pieces, non_empty, joined}
use Rattle.text.specs.Digits.{digits, digits_in, number, value_from}
use Rattle.keywords.specs.Keywords.{word_of, find_word, find_from}
use Rattle.lines.specs.Places.{until}
use Rattle.layout.specs.LayoutText.{points_then}
use Rattle.layout.specs.ReadBack.{words_in, points_of, small_points}
use Rattle.layoutforms.specs.Exact.{behind, leading_zero, exact_number, number_in, spaced_number, points_in, is_points}
use Rattle.layoutforms.specs.ExactForm.{loose_form, wire_form, track_form, form_behind, inner_form, exact_form}
use Rattle.layoutforms.specs.FormCases.{FormCase, HasForm, formed_lines, other_lines}
use Rattle.layoutforms.proofs.ExactForms.{exact_form_lem}

-- forms worked out part by part are forms of lines
have_forms : (xs : List FormCase) → map (λ x. exact_form x.line) xs ≡ map (λ x. x.form) xs → Each HasForm xs
have_forms [] e = tt
have_forms (x ∷ xs) e =
    let h : exact_form x.line ≡ x.form = cc in
    let t : map (λ x. exact_form x.line) xs ≡ map (λ x. x.form) xs = cc in
    (sym (exact_form_lem x.line) ∙ h, have_forms xs t)

pub formed_lines_lem : Each HasForm formed_lines
unfolding exact_form inner_form form_behind behind until find_word find_from word_of same loose_form wire_form track_form spaced_number number_in exact_number leading_zero number all_of value_from is_points points_in words_in pieces non_empty joined points_of points_then digits digits_in small_points
formed_lines_lem = have_forms formed_lines refl

pub other_lines_lem : Each HasForm other_lines
unfolding exact_form inner_form form_behind behind until find_word find_from word_of same loose_form wire_form track_form spaced_number number_in exact_number leading_zero number all_of value_from is_points points_in words_in pieces non_empty joined points_of points_then digits digits_in small_points
other_lines_lem = have_forms other_lines refl

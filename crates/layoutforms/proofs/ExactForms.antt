-- The form of a line, worked out part by part, is that of the line that reading back gives. Assumes nothing.
use mathlib.Core.Path.{◌≡◌, refl, sym, ap, ◌∙◌}
use mathlib.Core.Bool.{true, cond, ◌&&◌}
use mathlib.Core.List.{List, [], ◌∷◌, ◌++◌}
use Rattle.std.specs.Prelude.{Option, None, Some}
use mathlib.Core.Logic.{◌⊎◌, inl, inr, ⊎_elim}
use Prim.Native.Nat.{ℕ, suc, ◌-◌, ◌<◌}
use native.Mathlib.Omega.{arith}
use lib.ListN.{length, get_or, take, drop, take-append-drop}
use Rattle.std.proofs.lemmas.Slice.{between_to_end}
use lib.Dec.{eqb, ltb}
use borrow.Author.Tests.{eqb-true, lt-ltb, ltb-true}
use Rattle.lists.proofs.Cases.{by_test, by_option, and_split, and_both}
use Rattle.text.specs.Bytes.{same, ends_word}
use Rattle.text.specs.Digits.{digits}
use Rattle.text.proofs.Bytes.{same_true}
use Rattle.keywords.specs.Keywords.{word_of, find_word, find_from}
use Rattle.keywords.specs.declared.Vocabulary.TheVariants.{Layout}
use Rattle.keywords.proofs.Words.{find_word_lem}
use Rattle.lines.specs.Places.{until}
use Rattle.layout.specs.declared.Point.{Point}
use Rattle.layout.specs.Tree.{Line, Wire, opens, track, wire, loose, closes}
use Rattle.layout.specs.LayoutText.{points_then, line_text}
use Rattle.layout.specs.ReadBack.{is_small, small_points, small_line, read_line}
use Rattle.layout.proofs.RoundTrip.{read_line_lem, read_line_sound}
use Rattle.layoutforms.specs.LayoutForms.{line_form, layout_form_of}
use Rattle.layoutforms.specs.Exact.{shut_text, behind, spaced_number, is_points}
use Rattle.layoutforms.specs.ExactForm.{loose_form, wire_form, track_form, form_behind, inner_form, exact_form}
use Rattle.layoutforms.specs.declared.LayoutForm.{LayoutForm}
use Rattle.layoutforms.specs.declared.LayoutForm.TheVariants.{Opening, Wire as WireForm, Closing}
use Rattle.layoutforms.proofs.NumbersRead.{shut_is, behind_read, spaced_read, spaced_there}
use Rattle.layoutforms.proofs.PointsRead.{are_points, points_are}

-- ---- what is of the form is a line

-- the text is that of a line whose numbers have at most six digits
record IsLine (s : List ℕ) : Type 0 where
  line : Line
  small : small_line line ≡ true
  text : line_text line ≡ s

-- a text is a line, or it has no form
abbrev LineOrNone : List ℕ → Option LayoutForm → Type 0
LineOrNone s f = (f ≡ None) ⊎ IsLine s

-- an inner line up to its word, and what is behind it
abbrev Headed : List ℕ → ℕ → List ℕ → Type 0
Headed s i t = s ≡ 32 ∷ 40 ∷ (word_of Layout i ++ t)

loose_line : (s t : List ℕ) → Headed s 3 t → LineOrNone s (loose_form t)
unfolding loose_form line_text small_line word_of
loose_line s t h =
    by_option (spaced_number t) (λ e. inl (rw e))
    (λ net e.
    let r = spaced_read t net e in
    by_test (same net.1 shut_text)
    (λ q.
    let u = r.text ∙ ap (λ (l : List ℕ). 32 ∷ (digits net.0 ++ l)) (same_true net.1 shut_text q) in
    inr
    (record {
      line = loose net.0;
      small = lt-ltb net.0 1000000 r.small;
      text = sym (h ∙ ap (λ (l : List ℕ). 32 ∷ 40 ∷ (word_of Layout 3 ++ l)) u);
    }))
    (λ q. inl (rw (e, q))))

wire_line : (s t : List ℕ) → Headed s 2 t → LineOrNone s (wire_form t)
unfolding wire_form line_text small_line word_of
wire_line s t h =
    by_option (spaced_number t) (λ e. inl (rw e))
    (λ net e.
    let r = spaced_read t net e in
    by_test (is_points net.1)
    (λ q.
    let p = are_points net.1 q in
    let u = r.text ∙ ap (λ (l : List ℕ). 32 ∷ (digits net.0 ++ l)) p.text in
    inr
    (record {
      line = wire (record { number = net.0; points = p.points });
      small = and_both (is_small net.0) (small_points p.points) (lt-ltb net.0 1000000 r.small) p.small;
      text = sym (h ∙ ap (λ (l : List ℕ). 32 ∷ 40 ∷ (word_of Layout 2 ++ l)) u);
    }))
    (λ q. inl (rw (e, q))))

track_line : (s t : List ℕ) → Headed s 1 t → LineOrNone s (track_form t)
unfolding track_form line_text small_line word_of
track_line s t h =
    by_option (spaced_number t) (λ e. inl (rw e))
    (λ number e.
    by_option (spaced_number number.1) (λ f. inl (rw (e, f)))
    (λ sum f.
    let m = spaced_read t number e in
    let r = spaced_read number.1 sum f in
    by_test (same sum.1 shut_text)
    (λ q.
    let u = r.text ∙ ap (λ (l : List ℕ). 32 ∷ (digits sum.0 ++ l)) (same_true sum.1 shut_text q) in
    let v = m.text ∙ ap (λ (l : List ℕ). 32 ∷ (digits number.0 ++ l)) u in
    inr
    (record {
      line = track number.0 sum.0;
      small = and_both (is_small number.0) (is_small sum.0) (lt-ltb number.0 1000000 m.small) (lt-ltb sum.0 1000000 r.small);
      text = sym (h ∙ ap (λ (l : List ℕ). 32 ∷ 40 ∷ (word_of Layout 1 ++ l)) v);
    }))
    (λ q. inl (rw (e, f, q)))))

behind_line : (s t : List ℕ) (i : ℕ) → (i < 4 → Headed s i t) → LineOrNone s (form_behind i t)
unfolding form_behind
behind_line s t i h =
    by_test (eqb i 1)
    (λ e. rw e (track_line s t (let k : i ≡ 1 = eqb-true i 1 e in rw k at (h (omega arith)))))
    (λ e.
    by_test (eqb i 2)
    (λ f. rw (e, f) (wire_line s t (let k : i ≡ 2 = eqb-true i 2 f in rw k at (h (omega arith)))))
    (λ f.
    by_test (eqb i 3)
    (λ g. rw (e, f, g) (loose_line s t (let k : i ≡ 3 = eqb-true i 3 g in rw k at (h (omega arith)))))
    (λ g. inl (rw (e, f, g)))))

inner_line : (s t : List ℕ) → s ≡ 32 ∷ t → LineOrNone s (inner_form t)
unfolding inner_form
inner_line s t h =
    by_option (behind 40 t) (λ e. inl (rw e))
    (λ word e.
    let u = until ends_word word in
    let k = h ∙ ap (λ (l : List ℕ). 32 ∷ l) (behind_read 40 t word e) in
    by_option (find_word Layout (take u word)) (λ f. inl (rw (e, f)))
    (λ i f.
    rw (e, f)
    (behind_line s (drop u word) i
    (λ g.
    let w = (find_word_lem Layout (take u word) i f).1 in
    k ∙ ap (λ (l : List ℕ). 32 ∷ 40 ∷ l) (sym (take-append-drop u word) ∙ ap (λ (l : List ℕ). l ++ drop u word) (sym w))))))

exact_line : (s : List ℕ) → LineOrNone s (exact_form s)
unfolding exact_form line_text small_line word_of
exact_line [] = inl refl
exact_line (b ∷ t) =
    by_test (eqb b 32)
    (λ e.
    let k : b ≡ 32 = eqb-true b 32 e in
    rw e (inner_line (b ∷ t) t (rw k)))
    (λ e.
    by_test (eqb b 40)
    (λ f.
    by_test (same t (word_of Layout 0))
    (λ g.
    let k : b ≡ 40 = eqb-true b 40 f in
    inr (record { line = opens; small = refl; text = rw (k, same_true t (word_of Layout 0) g) }))
    (λ g. inl (rw (e, f, g))))
    (λ f.
    by_test (same (b ∷ t) shut_text)
    (λ g. inr (record { line = closes; small = refl; text = sym (same_true (b ∷ t) shut_text g) }))
    (λ g. inl (rw (e, f, g)))))

-- ---- a line has its form

-- what stands behind the number of a wire begins with a byte that ends the number
pub first_byte : (ps : List Point) → (c : ℕ) × (t : List ℕ) × (points_then ps shut_text ≡ c ∷ t) × (ends_word c ≡ true)
unfolding points_then
first_byte [] = (41, [], refl, refl)
first_byte (p ∷ ps) = (32, 40 ∷ (digits p.column ++ 32 ∷ (digits p.row ++ 41 ∷ points_then ps shut_text)), refl, refl)

wire_exact : (w : Wire) → w.number < 1000000 → small_points w.points ≡ true → exact_form (line_text (wire w)) ≡ Some (WireForm w.number)
unfolding exact_form inner_form form_behind line_text behind until find_word find_from word_of same wire_form
wire_exact w h k =
    let f = first_byte w.points in
    rw (f.2, spaced_there w.number f.0 f.1 f.3 h, ← f.2, points_are w.points k)

line_exact : (x : Line) → small_line x ≡ true → exact_form (line_text x) ≡ Some (line_form x)
unfolding exact_form inner_form form_behind line_form line_text small_line behind until find_word find_from word_of same loose_form wire_form track_form
line_exact opens h = refl
line_exact (track t n) h =
    let k = and_split (is_small t) (is_small n) h in
    rw (spaced_there t 32 (digits n ++ shut_text) refl (ltb-true t 1000000 k.0), spaced_there n 41 [] refl (ltb-true n 1000000 k.1))
line_exact (wire w) h =
    let k = and_split (is_small w.number) (small_points w.points) h in
    wire_exact w (ltb-true w.number 1000000 k.0) k.1
line_exact (loose n) h = rw (spaced_there n 41 [] refl (ltb-true n 1000000 h))
line_exact closes h = refl

-- ---- so the form is that of the line that is read back

pub exact_form_lem : (s : List ℕ) → exact_form s ≡ layout_form_of (read_line s)
unfolding layout_form_of
exact_form_lem s =
    by_option (read_line s)
    (λ e.
    rw e
    (⊎_elim (λ o. o)
    (λ l.
    let f : read_line s ≡ Some l.line = ap read_line (sym l.text) ∙ read_line_lem l.line l.small in
    let z : None ≡ Some l.line = sym e ∙ f in
    cc)
    (exact_line s)))
    (λ x e.
    let r = read_line_sound s x e in
    rw e (ap exact_form r.0 ∙ line_exact x r.1))

-- the form by the bytes that a pattern reads
pub form_read : (s : List ℕ) →
    layout_form_of (read_line s)
    ≡ cond (ltb 0 (length s) && eqb (get_or s 0 0) 32) (inner_form (take (length s - 1) (drop 1 s)))
    (cond (ltb 0 (length s) && eqb (get_or s 0 0) 40) (cond (same (take (length s - 1) (drop 1 s)) (word_of Layout 0)) (Some Opening) None)
    (cond (eqb (length s) 1 && eqb (get_or s 0 0) 41) (Some Closing) None))
unfolding exact_form
form_read [] = sym (exact_form_lem [])
form_read (b ∷ t) =
    let n = suc (length t) in
    sym (exact_form_lem (b ∷ t)) ∙ (rw (lt-ltb 0 n (omega arith), between_to_end (b ∷ t) 1 n (omega arith), shut_is (b ∷ t)))

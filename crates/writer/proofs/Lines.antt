-- The lines of a layout in the parts that the writers write one after another, and their lengths. Assumes nothing.
use Prim.Native.Nat.{ℕ}
use mathlib.Core.Path.{◌≡◌, refl, ap}
use mathlib.Core.List.{List, [], ◌∷◌, ◌++◌, append_assoc}
use Rattle.lists.proofs.Cases.{by_test}
use Rattle.text.specs.Digits.{digits}
use Rattle.keywords.specs.Keywords.{word_of, wire_word}
use Rattle.linewriter.specs.LineText.{head_text, number_text}
use Rattle.keywords.specs.declared.Vocabulary.TheVariants.{Layout}
use Rattle.board.specs.declared.BoardNet.{BoardNet}
use Rattle.board.specs.declared.Wired.{Wired}
use Rattle.board.specs.Placement.{placement_at}
use Rattle.layout.specs.declared.Point.{Point}
use Rattle.layout.specs.Tree.{track, loose}
use Rattle.layout.specs.LayoutText.{points_then, line_text}
use Rattle.layout.specs.Drawing.{at, same_point, distinct_from, corners, points_on, wire_of}
use Rattle.wirepoints.specs.Points.{point_text, next_text, path_text, pin_text, points_text}
use Rattle.writer.specs.Lines.{ended_line, wire_line}

pub track_parts : (t n : ℕ) → ended_line (track t n) ≡ head_text Layout 1 t ++ ((32 ∷ digits n) ++ (41 ∷ 10 ∷ []))
unfolding line_text head_text word_of
track_parts t n = simp append_assoc

pub loose_is : (n : ℕ) → ended_line (loose n) ≡ number_text Layout 3 n
unfolding line_text head_text word_of
loose_is n = simp append_assoc

-- the points that differ from the one before, written, are the points written one behind another
path_points : (p : Point) (qs : List Point) (rest : List ℕ) → points_then (distinct_from p qs) rest ≡ path_text p qs ++ rest
unfolding distinct_from path_text points_then next_text point_text
path_points p [] rest = refl
path_points p (q ∷ qs) rest =
    let h = path_points q qs rest in
    by_test (same_point p q) (λ e. rw e h) (λ e. rw (e, h) (simp append_assoc))

wire_points : (n : BoardNet) (p : Wired) (rest : List ℕ) →
    points_then (points_on n.board p.track.0 (placement_at n.net p.shape p.top.0)) rest ≡ points_text n.board p.track n.net p.shape p.top ++ rest
unfolding points_on points_then pin_text point_text
wire_points n p rest =
    rw (path_points (at 0 n.net.left.0) (corners n.board p.track.0 (placement_at n.net p.shape p.top.0) p.shape) rest) (simp append_assoc)

tail_parts : (d p q : List ℕ) → q ≡ p ++ (41 ∷ []) → (d ++ q) ++ (10 ∷ []) ≡ d ++ (p ++ (41 ∷ 10 ∷ []))
tail_parts d p q e = rw e (simp append_assoc)

pub wire_parts : (n : BoardNet) (p : Wired) →
    wire_line n.board p.track n.net p.shape p.top ≡ head_text Layout 2 n.net.number ++ (points_text n.board p.track n.net p.shape p.top ++ (41 ∷ 10 ∷ []))
unfolding line_text head_text word_of wire_of
wire_parts n p =
    ap (λ (l : List ℕ). 32 ∷ 40 ∷ (wire_word ++ (32 ∷ l)))
    (tail_parts (digits n.net.number) (points_text n.board p.track n.net p.shape p.top) _ (wire_points n p (41 ∷ [])))

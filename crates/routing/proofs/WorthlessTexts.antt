-- What demands 2 and 3 shut out, on document 01's worked board: for each clause of `OptimalTrack`, `UnbeatenText`, `ShortestWire` and
-- `ShortestText` that decides, a layout that fails it; document 01's "Worthless versions" among them. Assumes nothing.
use Prim.Native.Nat.{ℕ, suc, ◌<◌}
use mathlib.Core.Path.{◌≡◌, refl, sym, ap, ◌∙◌}
use mathlib.Core.Bool.{true}
use Rattle.std.specs.Prelude.{None, Some}
use mathlib.Core.List.{List, [], ◌∷◌, map, Memᴰ}
use native.Mathlib.Omega.{arith}
use lib.Dec.{leb}
use lib.ListN.{length, get_or, take}
use borrow.Author.Tests.{le-leb}
use Rattle.lists.specs.Lists.{Each, first_of}
use Rattle.lists.proofs.Laws.{Each-map}
use Rattle.board.specs.declared.Net.{Net}
use Rattle.board.specs.Length.{width, upper, lower, span, plain_length, shortest, needed}
use Rattle.board.specs.Weight.{weight}
use Rattle.board.specs.Job.{Job}
use Rattle.board.specs.Placement.{Placement, placement_at, shortest_at}
use Rattle.board.specs.Accepted.{AcceptedJob}
use Rattle.board.specs.Unbeaten.{FilledTrack}
use Rattle.board.specs.WorkedBoard.{worked_board, worked_job}
use Rattle.board.specs.RivalExamples.{track1, track2}
use Rattle.board.proofs.RivalFacts.{track1_rival, track2_rival}
use Rattle.board.proofs.ShortestShape.{shortest_least, length_injective}
use Rattle.board.proofs.Tops.{accepted_shortest}
use Rattle.text.specs.Bytes.{bytes, same, joined, pieces, non_empty}
use Rattle.text.specs.Digits.{digits_in, digits, value_from}
use Rattle.layout.specs.Tree.{Wire, DrawnTrack, Layout}
use Rattle.layout.specs.LayoutText.{line_text, lines_text, tracks_then, loose_then, layout_lines, layout_text}
use Rattle.layout.specs.ReadBack.{words_in, points_of, line_from, rough_line, add, gathered, rough_layout, small_line, small_lines, read_layout}
use Rattle.layout.specs.Drawing.{points_on, wire_of}
use Rattle.layout.specs.Drawn.{net_numbered}
use Rattle.layout.proofs.RoundTrip.{layout_text_injective}
use Rattle.sound.specs.Wires.{RivalWires, weight_by, weight_of, sum_over, track_numbers, wires_sum}
use Rattle.routing.specs.DrawnTracks.{drawn_tracks, no_track}
use Rattle.routing.specs.Promises.{ShortestWire, ShortestText, OptimalTrack, UnbeatenText}
use Rattle.std.proofs.lemmas.Option.{none-some, same_Some}

-- ---- the layouts

-- the wires that route writes on track 1, of sum 9, and on track 2, of sum 2
abbrev wires1 : List Wire
wires1 = map (wire_of worked_board 1) track1

abbrev wires2 : List Wire
wires2 = map (wire_of worked_board 2) track2

-- a track line and its wires
abbrev drawn : ℕ → ℕ → List Wire → DrawnTrack
drawn t s ws = record { track = t; sum = s; wires = ws }

-- a layout of tracks and loose nets
abbrev laid : List DrawnTrack → List ℕ → Layout
laid trs ks = record { tracks = trs; loose = ks }

-- ---- demand 3

-- the layout of an unbeaten text is the one that it renders
unbeaten_track : (job : Job) (l : Layout) → UnbeatenText job (layout_text l) → (i : ℕ) → i < job.board.tracks →
    OptimalTrack job (track_numbers (take i l.tracks)) (suc i) (get_or l.tracks i no_track)
unbeaten_track job l u i h = rw (layout_text_injective u.layout l (sym u.rendered)) at (u.each i h)

-- rivals of the two tracks, and their sums
rival1 : RivalWires worked_job [] 1 wires1
rival1 = record { places = track1; rival = track1_rival.0; drawn = refl }

sum1 : wires_sum worked_job wires1 ≡ 9
unfolding wires_sum sum_over weight_of weight_by net_numbered first_of wire_of weight needed shortest plain_length span upper lower width
sum1 = refl

rival2 : RivalWires worked_job (1 ∷ 2 ∷ 3 ∷ []) 2 wires2
rival2 = record { places = track2; rival = track2_rival.0; drawn = refl }

sum2 : wires_sum worked_job wires2 ≡ 2
unfolding wires_sum sum_over weight_of weight_by net_numbered first_of wire_of weight needed shortest plain_length span upper lower width
sum2 = refl

-- all nets are left loose
pub all_loose : UnbeatenText worked_job (layout_text (laid (drawn 1 0 [] ∷ drawn 2 0 [] ∷ []) (1 ∷ 2 ∷ 3 ∷ 4 ∷ 5 ∷ []))) → ⊥
unfolding track_numbers
all_loose u =
    let o = unbeaten_track worked_job (laid (drawn 1 0 [] ∷ drawn 2 0 [] ∷ []) (1 ∷ 2 ∷ 3 ∷ 4 ∷ 5 ∷ [])) u 0 (omega arith) in
    omega (arith, o.most wires1 rival1, sum1)

-- track 1 is packed, track 2 left empty
pub second_track_empty : UnbeatenText worked_job (layout_text (laid (drawn 1 9 wires1 ∷ drawn 2 0 [] ∷ []) (4 ∷ 5 ∷ []))) → ⊥
unfolding track_numbers wire_of
second_track_empty u =
    let o = unbeaten_track worked_job (laid (drawn 1 9 wires1 ∷ drawn 2 0 [] ∷ []) (4 ∷ 5 ∷ [])) u 1 (omega arith) in
    omega (arith, o.most wires2 rival2, sum2)

-- an invented sum, above that of the wires
pub sum_invented : UnbeatenText worked_job (layout_text (laid (drawn 1 10 wires1 ∷ drawn 2 2 wires2 ∷ []) (5 ∷ []))) → ⊥
sum_invented u =
    let o = unbeaten_track worked_job (laid (drawn 1 10 wires1 ∷ drawn 2 2 wires2 ∷ []) (5 ∷ [])) u 0 (omega arith) in
    omega (arith, o.sum_is, sum1)

-- track 2 is numbered 3
pub other_track_number : UnbeatenText worked_job (layout_text (laid (drawn 1 9 wires1 ∷ drawn 3 2 wires2 ∷ []) (5 ∷ []))) → ⊥
other_track_number u =
    let o = unbeaten_track worked_job (laid (drawn 1 9 wires1 ∷ drawn 3 2 wires2 ∷ []) (5 ∷ [])) u 1 (omega arith) in
    omega (arith, o.track_is)

-- a third track line on a board of two tracks
pub third_track : UnbeatenText worked_job (layout_text (laid (drawn 1 9 wires1 ∷ drawn 2 2 wires2 ∷ drawn 3 0 [] ∷ []) (5 ∷ []))) → ⊥
third_track u =
    let l = laid (drawn 1 9 wires1 ∷ drawn 2 2 wires2 ∷ drawn 3 0 [] ∷ []) (5 ∷ []) in
    let c : length l.tracks ≡ 2 = rw (layout_text_injective u.layout l (sym u.rendered)) at u.count in
    omega arith

-- wires without points, which draw nothing: their sum is the right one, and nothing but that they are no rival sequence shuts them out
abbrev undrawn : List Wire
undrawn = record { number = 1; points = [] } ∷ record { number = 2; points = [] } ∷ record { number = 3; points = [] } ∷ []

undrawn_sum : wires_sum worked_job undrawn ≡ 9
unfolding wires_sum sum_over weight_of weight_by net_numbered first_of weight needed shortest plain_length span upper lower width
undrawn_sum = refl

undrawn_no_rival : (ps : List Placement) → undrawn ≡ map (wire_of worked_board 1) ps → ⊥
unfolding wire_of points_on
undrawn_no_rival [] e = omega (arith, ap length e)
undrawn_no_rival (p ∷ ps) e = omega (arith, ap (λ (ws : List Wire). length (get_or ws 0 (record { number = 0; points = [] })).points) e)

pub wires_undrawn : UnbeatenText worked_job (layout_text (laid (drawn 1 9 undrawn ∷ drawn 2 2 wires2 ∷ []) (5 ∷ []))) → ⊥
wires_undrawn u =
    let o = unbeaten_track worked_job (laid (drawn 1 9 undrawn ∷ drawn 2 2 wires2 ∷ []) (5 ∷ [])) u 0 (omega arith) in
    undrawn_no_rival o.rival.places o.rival.drawn

-- ---- demand 2

-- a wire that `ShortestWire` lets through draws a net of the job in its shortest shape, on its track
pub shortest_drawn : (job : Job) → AcceptedJob job → (t : ℕ) (w : Wire) (s : ShortestWire job t w) →
    w ≡ wire_of job.board t (shortest_at job.board s.place.net s.place.top)
shortest_drawn job a t w s =
    let n = s.place.net in
    let allowed = accepted_shortest job.board n (a.nets_each n s.of_job) in
    let low = shortest_least job.board n s.place.shape s.legal.allowed in
    let high = s.least (shortest job.board n) allowed in
    let same : s.place.shape ≡ shortest job.board n = length_injective job.board n s.place.shape (shortest job.board n) (omega (arith, s.adds_up)) in
    s.drawn ∙ ap (λ x. wire_of job.board t (placement_at n x s.place.top)) same

-- a text that `ShortestText` lets through begins as a layout does: bytes that were never written are none
pub begins_as_layout : (job : Job) (plan : List FilledTrack) (text : List ℕ) → ShortestText job plan text → take 8 text ≡ bytes "(layout\n"
unfolding layout_text layout_lines lines_text line_text
begins_as_layout job plan text s = rw s.rendered

-- so every wire of the layout that reading gives draws a net of the job in its shortest shape, on the track of its place
pub record DrawnShortest (job : Job) (t : ℕ) (w : Wire) : Type 0 where
  pub net : Net
  pub top : ℕ
  pub of_job : Memᴰ net job.nets
  pub drawn_is : w ≡ wire_of job.board t (shortest_at job.board net top)

module _ (job : Job) (plan : List FilledTrack) (text : List ℕ) (s : ShortestText job plan text) (l : Layout) (e : read_layout text ≡ Some l) where
  same_layout : s.layout ≡ l
  same_layout = same_Some s.layout l (sym s.read ∙ e)

  pub read_shortest : AcceptedJob job → (i : ℕ) → i < job.board.tracks → Each (DrawnShortest job (suc i)) (get_or l.tracks i no_track).wires
  read_shortest a i h =
      Each-map (get_or l.tracks i no_track).wires
      (λ w (q : ShortestWire job (suc i) w).
      record { net = q.place.net; top = q.place.top; of_job = q.of_job; drawn_is = shortest_drawn job a (suc i) w q })
      (rw same_layout at (s.wires_shortest i h))

  -- and its tracks are those planned
  pub read_planned : l.tracks ≡ drawn_tracks job.board 1 plan
  read_planned = sym (ap (λ (x : Layout). x.tracks) same_layout) ∙ s.planned

-- such a text is never above the length that check takes
pub fits_check : (job : Job) (plan : List FilledTrack) (text : List ℕ) → ShortestText job plan text → leb (length text) 64000 ≡ true
fits_check job plan text s = le-leb (length text) 64000 s.bytes_most

-- ---- reading back

-- a number of seven digits is not read
pub seven_digits : read_layout (layout_text (laid [] (1000000 ∷ []))) ≡ None
unfolding read_layout rough_layout gathered add rough_line line_from points_of words_in pieces joined non_empty same value_from small_lines small_line layout_text layout_lines lines_text tracks_then loose_then line_text digits digits_in
seven_digits = refl

-- so neither demand holds of a text with one
pub seven_digits_shortest : (job : Job) (plan : List FilledTrack) → ShortestText job plan (layout_text (laid [] (1000000 ∷ []))) → ⊥
seven_digits_shortest job plan s = none-some s.layout (sym seven_digits ∙ s.read)

pub seven_digits_unbeaten : (job : Job) → UnbeatenText job (layout_text (laid [] (1000000 ∷ []))) → ⊥
seven_digits_unbeaten job u = none-some u.layout (sym seven_digits ∙ u.read)

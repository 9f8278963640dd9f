-- What a wire line draws, where its net is known and where it is not. Assumes nothing.
use Prim.Native.Nat.{ℕ, ◌≤◌}
use mathlib.Core.Path.{◌≡◌, refl, sym, ap, subst, ◌∙◌}
use mathlib.Core.Bool.{◌&&◌, true≢false}
use Rattle.std.specs.Prelude.{Option, None, Some, IfSome}
use mathlib.Core.List.{List}
use native.Mathlib.Omega.{arith}
use borrow.Author.Tests.{leb-true, eq-eqb}
use Rattle.lists.proofs.Cases.{by_option, and_split}
use Rattle.board.specs.declared.Board.{Board}
use Rattle.board.specs.declared.Net.{Net}
use Rattle.board.specs.declared.Track.{Track}
use Rattle.board.specs.declared.Wired.{Wired}
use Rattle.board.specs.Job.{Job}
use Rattle.board.specs.Weight.{weight}
use Rattle.board.specs.Placement.{Placement, placement_at, bottom}
use Rattle.board.specs.Accepted.{AcceptedJob}
use Rattle.board.specs.Tests.{is_from_one, is_over_upper, is_under_lower, is_to_last}
use Rattle.layout.specs.declared.Point.{Point}
use Rattle.layout.specs.Tree.{Wire}
use Rattle.layout.specs.Drawing.{points_on}
use Rattle.layout.specs.Drawn.{placement_of, net_numbered}
use Rattle.layout.proofs.RoundTrip.{only_some}
use Rattle.sound.specs.Wires.{weight_by, weight_of}
use Rattle.sound.proofs.Nets.{net_some, net_of}
use Rattle.drc.proofs.Drawings.{placement_net}
use Rattle.drc.specs.Covers.{same_points, is_on_board, drawn_of, drawn_from, drawn_by}
use Rattle.drawnwires.specs.DrawnPlaces.{place_of}
use Rattle.judging.specs.declared.found.NetFound.{NetFound}
use Rattle.judging.proofs.Indexes.{index_number, index_none, found_listed, found_weight}
use Rattle.judging.specs.Values.{position_numbered}
use Rattle.layoutsteps.specs.Found.{FoundFor}

-- ---- the placement that is answered

pub place_none : (t : Track) (o : Option Placement) → None ≡ place_of t o → o ≡ None
unfolding place_of
place_none t None e = refl
place_none t (Some p) e = cc

record PlaceIs (o : Option Placement) (r : Wired) : Type 0 where
  place : Placement
  is : o ≡ Some place
  top_is : place.top ≡ r.top.0
  shape_is : place.shape ≡ r.shape

place_some : (t : Track) (o : Option Placement) (r : Wired) → Some r ≡ place_of t o → PlaceIs o r
unfolding place_of
place_some t None r e = let z : ◌≡◌ {A = ℕ} 0 1 = cc in absurd (omega arith)
place_some t (Some p) r e =
    let q : r ≡ record { track = t; top = record { 0 = p.top }; shape = p.shape } = cc in
    record { place = p; is = refl; top_is = sym (ap (λ (x : Wired). x.top.0) q); shape_is = sym (ap (λ (x : Wired). x.shape) q) }

-- a placement drawn: of the net, with that shape and top, within the rows of the board
pub record DrawnAt (board : Board) (t : Track) (ps : List Point) (n : Net) (r : Wired) : Type 0 where
  pub drawn_is : drawn_of board t.0 ps n ≡ Some (placement_at n r.shape r.top.0)
  pub from_one : 1 ≤ r.top.0
  pub to_last : bottom (placement_at n r.shape r.top.0) ≤ board.rows

pub drawn_at : (board : Board) (t : Track) (ps : List Point) (n : Net) (r : Wired) → Some r ≡ place_of t (drawn_of board t.0 ps n) → DrawnAt board t ps n r
unfolding drawn_of is_on_board is_from_one is_to_last
drawn_at board t ps n r e =
    let q : Placement = placement_of t.0 n ps in
    let o = place_some t (drawn_of board t.0 ps n) r e in
    let test = only_some (is_on_board board q && same_points (points_on board t.0 q) ps) q o.place o.is in
    let net : o.place.net ≡ n = ap (λ (p : Placement). p.net) (sym test.1) ∙ placement_net t.0 n ps in
    let same : o.place ≡ placement_at n r.shape r.top.0 = λ i. record { net = net i; shape = o.shape_is i; top = o.top_is i } in
    let on = (and_split (is_on_board board q) (same_points (points_on board t.0 q) ps) test.0).0 in
    let all = and_split (is_from_one q && is_over_upper q && is_under_lower q) (is_to_last board q) on in
    let two = and_split (is_from_one q && is_over_upper q) (is_under_lower q) all.0 in
    let one = and_split (is_from_one q) (is_over_upper q) two.0 in
    let whole = test.1 ∙ same in
    record {
      drawn_is = o.is ∙ ap Some same;
      from_one = subst (λ (p : Placement). 1 ≤ p.top) whole (leb-true 1 q.top one.0);
      to_last = subst (λ (p : Placement). bottom p ≤ board.rows) whole (leb-true (bottom q) board.rows all.1);
    }

-- ---- the net of the line

module _ (job : Job) (w : Wire) where
  -- no net has the number
  module _ (none : None ≡ position_numbered w.number job.nets) where
    unnumbered : net_numbered job w.number ≡ None
    unnumbered =
        by_option (net_numbered job w.number)
        (λ n. n)
        (λ n f.
        let s = net_some job w.number n f in
        absurd (true≢false (sym (eq-eqb n.number w.number s.1) ∙ index_none job.nets w.number none n s.0)))

    pub unknown_undrawn : (t : ℕ) → drawn_by job t w ≡ None
    unfolding drawn_by drawn_from
    unknown_undrawn t = rw unnumbered

    pub unknown_weight : weight_of job w.number ≡ 0
    unfolding weight_of weight_by
    unknown_weight = rw unnumbered

  module _ (a : AcceptedJob job) (found : NetFound) (at : FoundFor job w.number (Some found)) where
    -- the net found has the number
    pub found_number : found.net.net.number ≡ w.number
    found_number = ap (λ (n : Net). n.number) (sym at.net_is.net_is) ∙ (index_number job.nets w.number found.index at.index_is).1

    pub known_weight : weight_of job w.number ≡ weight found.net.net
    known_weight = found_weight job found at.net_is a w.number found_number

    pub known_drawn : (t : ℕ) → drawn_by job t w ≡ drawn_of found.net.board t w.points found.net.net
    unfolding drawn_by drawn_from
    known_drawn t = rw (ap (net_numbered job) (sym found_number) ∙ net_of job a.numbers_rise found.net.net (found_listed job found at.net_is), at.net_is.board_is)

-- the number of a line that was read is that of the net found for it
pub numbered_found : (found : Option NetFound) (i k : ℕ) → i ≡ k → IfSome found (λ n. Some k ≡ Some n.net.net.number) → IfSome found (λ n. i ≡ n.net.net.number)
numbered_found None i k e h = tt
numbered_found (Some n) i k e h = cc

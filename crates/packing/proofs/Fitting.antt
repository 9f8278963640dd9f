-- `fits_at` is true of a net and a row exactly if the net's shortest placement there may stand on the track. Assumes nothing.
use Prim.Native.Nat.{ℕ, ◌+◌, ◌≤◌}
use mathlib.Core.Path.{◌≡◌}
use mathlib.Core.Bool.{true}
use mathlib.Core.List.{List, Memᴰ}
use native.Mathlib.Omega.{arith}
use borrow.Author.Tests.{leb-true, le-leb}
use Rattle.lists.proofs.Cases.{and_split, and_both}
use Rattle.board.specs.declared.Net.{Net}
use Rattle.board.specs.Length.{Allowed, shortest, needed}
use Rattle.board.specs.Job.{Job}
use Rattle.board.specs.Placement.{shortest_at, covered, first_top, last_top}
use Rattle.board.specs.Rival.{Placeable}
use Rattle.board.specs.Tests.{is_eligible, clear_rows}
use Rattle.board.proofs.ShortestShape.{span_add}
use Rattle.board.proofs.Tops.{shortest_bottom}
use Rattle.board.proofs.ExactTests.{eligible_exact, clear_rows_lem, rows_clear}
use Rattle.packing.specs.Fits.{fits_at}

module _ (job : Job) (earlier : List ℕ) (t : ℕ) (n : Net) (j : ℕ) where
  -- the parts of a passed test
  pub record Fits : Type 0 where
    pub of_eligible : is_eligible job earlier n ≡ true
    pub from : first_top n (shortest job.board n) ≤ j
    pub to : j ≤ last_top job.board n (shortest job.board n)
    pub scanned : clear_rows job t j (needed job.board n) ≡ true

  pub fits_parts : fits_at job earlier t n j ≡ true → Fits
  unfolding fits_at
  fits_parts h =
      let s = and_split _ _ h in
      let s' = and_split _ _ s.0 in
      let s'' = and_split _ _ s'.0 in
      record { of_eligible = s''.0; from = leb-true _ _ s''.1; to = leb-true _ _ s'.1; scanned = s.1 }

  pub parts_fit : Fits → fits_at job earlier t n j ≡ true
  unfolding fits_at
  parts_fit f =
      and_both _ _ (and_both _ _ (and_both _ _ f.of_eligible (le-leb _ _ f.from)) (le-leb _ _ f.to)) f.scanned

  pub fits_within : fits_at job earlier t n j ≡ true → (1 ≤ j) × (j + needed job.board n ≤ job.board.rows + 1)
  unfolding first_top last_top covered needed
  fits_within h = let f = fits_parts h in omega arith

  -- a net that passes the test may stand there
  pub fits_placeable : Memᴰ n job.nets → Allowed job.board n (shortest job.board n) → fits_at job earlier t n j ≡ true → Placeable job earlier t (shortest_at job.board n j)
  unfolding first_top last_top covered needed
  fits_placeable i a h =
      let f = fits_parts h in
      let e = shortest_bottom job.board n j in
      let s = span_add n in
      record {
        of_job = i;
        legal = record { allowed = a; from_one = omega arith; over_upper = omega arith; under_lower = omega arith; to_last = omega arith };
        clear = λ row p q. clear_rows_lem job t j (needed job.board n) f.scanned row p (omega arith);
        eligible = (eligible_exact job earlier n).0 f.of_eligible;
      }

  -- a shortest placement that may stand there passes the test
  pub placeable_fits : Placeable job earlier t (shortest_at job.board n j) → fits_at job earlier t n j ≡ true
  unfolding first_top last_top covered needed
  placeable_fits w =
      let e = shortest_bottom job.board n j in
      let s = span_add n in
      parts_fit (record {
        of_eligible = (eligible_exact job earlier n).1 w.eligible;
        from = omega arith;
        to = omega arith;
        scanned = rows_clear job t j (needed job.board n) (λ r p q. w.clear r p (omega arith));
      })

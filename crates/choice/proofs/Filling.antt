-- The loop of `fill`: each turn fills one row, and no sum is too large for the code. Assumes nothing.
use Prim.Native.Nat.{ℕ, zero, suc, ◌+◌, ◌*◌, ◌-◌, ◌≤◌, ◌<◌}
use mathlib.Core.Path.{◌≡◌, refl, sym, ap, ◌∙◌, subst}
use mathlib.Core.List.{List}
use native.Mathlib.Omega.{arith}
use lib.ListN.{length, get_or, set, replicate, length-set, length-replicate, get_or-replicate}
use Rattle.lists.proofs.Places.{set_each}
use Rattle.candidates.specs.SlotArrays.{Candidates}
use Rattle.choice.specs.declared.Pick.{Pick}
use Rattle.choice.specs.declared.Listed.{Listed}
use Rattle.choice.specs.declared.TrackPlan.{TrackPlan}
use Rattle.std.specs.Prelude.{Option, None}
use Rattle.choice.specs.Filled.{Band, slot, sum_at, pick_to, no_listed, band_to, pick_among, fill_from, filled_plan, InBounds, PickInBounds, RowInBounds}
use Rattle.choice.proofs.Picking.{pick_low}
use Rattle.choice.proofs.Bands.{ListedOf, BandShape, band_shape, band_pick}

-- what holds before a turn, where rows 1 to j are still to be filled
pub record RowsLeft (c : Candidates) (flags : List ℕ) (rows : ℕ) (best : List ℕ) (choice : List (Option ℕ)) (j : ℕ) : Type 0 where
  pub in_range : j ≤ rows
  pub best_length : length best ≡ 1026
  pub choice_length : length choice ≡ 1024
  pub low : (r : ℕ) → j < r → r ≤ rows + 1 → get_or best r 0 ≤ 4096 * (rows + 1 - r)
  pub same : fill_from c flags j best choice ≡ filled_plan c flags rows

-- `band` has the candidates with a top in the rows from lo to some row, and row j is one of these rows
pub record BandAt (c : Candidates) (band : Band) (lo j : ℕ) : Type 0 where
  pub hi : ℕ
  pub from : lo ≤ j
  pub to : j ≤ hi
  pub old : List Listed
  pub size : length old ≡ 512
  pub is_band : band ≡ band_to c lo hi old c.count

-- as the loop has it: a band that is entered at row j, and one that j lies in already
pub band_entered : {c : Candidates} {band b : Band} {start s : ℕ} (j : ℕ) (old : List Listed) → length old ≡ 512 → start ≡ s → band ≡ b → s ≤ j →
    b ≡ band_to c s j old c.count → BandAt c band start j
band_entered j old size e f l h = rw (e, f) (record { hi = j; from = l; to = omega arith; old = old; size = size; is_band = h })

pub band_kept : {c : Candidates} {band b : Band} {start s j : ℕ} → start ≡ s → band ≡ b → BandAt c b s j → BandAt c band start j
band_kept e f a = rw (e, f) a

-- a row above, while it is one of them
pub band_above : {c : Candidates} {band : Band} {lo : ℕ} (j : ℕ) → lo ≤ j - 1 → BandAt c band lo j → BandAt c band lo (j - 1)
band_above j l a = record { hi = a.hi; from = l; to = omega arith; old = a.old; size = a.size; is_band = a.is_band }

module _ (c : Candidates) (flags : List ℕ) (rows : ℕ) (b : InBounds c flags rows) where
  abbrev Now : List ℕ → List (Option ℕ) → ℕ → Type 0
  Now best choice j = RowsLeft c flags rows best choice j

  pub rows_left_start : Now (replicate 1026 0) (replicate 1024 None) rows
  unfolding filled_plan
  rows_left_start =
      record {
        in_range = omega arith;
        best_length = length-replicate {A = ℕ} 1026 0;
        choice_length = length-replicate {A = Option ℕ} 1024 None;
        low = λ r a h. let e : get_or {A = ℕ} (replicate 1026 0) r 0 ≡ 0 = get_or-replicate {A = ℕ} 1026 r 0 0 (omega arith) in omega arith;
        same = refl;
      }

  -- the bound of a sum at row j
  sum_low : (best : List ℕ) (choice : List (Option ℕ)) (j : ℕ) → Now best choice j → (i : ℕ) → i < c.count → j ≤ (slot c i).tops.last.0 →
      (slot c i).tops.weight + get_or best (j + (slot c i).tops.need) 0 ≤ 4096 * (rows + 1 - j)
  sum_low best choice j g i h l =
      let k = b.slots i h in
      omega (arith, g.low (j + (slot c i).tops.need) (omega arith) (omega arith))

  -- one of the candidates at row j
  rows_left_candidate : (best : List ℕ) (choice : List (Option ℕ)) (j : ℕ) (x : Listed) → 0 < j → Now best choice j → ListedOf c c.count x → PickInBounds flags best j x
  rows_left_candidate best choice j x z g h =
      rw h.is
      (record {
        part_range = omega (arith, b.count_range, h.below);
        flags_range = omega (arith, b.flags_range, b.count_range, h.below);
        room = λ l. omega (arith, (b.slots x.part h.below).room);
        low = λ l. omega (arith, sum_low best choice j g x.part h.below l);
      })

  -- the listed candidates in range
  listed_shape : (j lo : ℕ) (band : Band) → BandAt c band lo j → BandShape c band c.count
  listed_shape j lo band a = subst (λ x. BandShape c x c.count) (sym a.is_band) (band_shape c lo a.hi a.old a.size c.count b.count_range)

  pub band_size : (j lo : ℕ) (band : Band) → BandAt c band lo j → length band.slots ≡ 512
  band_size j lo band a = (listed_shape j lo band a).slots_length

  pub rows_left_row : (best : List ℕ) (choice : List (Option ℕ)) (j lo : ℕ) (band : Band) → 0 < j → Now best choice j → BandAt c band lo j →
      RowInBounds flags best j band
  rows_left_row best choice j lo band h g a =
      let s = listed_shape j lo band a in
      record {
        row_range = omega arith;
        count_range = omega (arith, s.count_range, b.count_range);
        each_listed = λ k r. rows_left_candidate best choice j (get_or band.slots k no_listed) h g (s.each k r);
      }

  -- the pick over the listed candidates is the pick over all
  pub band_row : (best : List ℕ) (j lo : ℕ) (band : Band) (p : Pick) → BandAt c band lo j →
      p ≡ pick_among flags best j band.slots band.count →
      p ≡ pick_to c flags best j c.count
  band_row best j lo band p a e =
      e ∙ ap (λ (x : Band). pick_among flags best j x.slots x.count) a.is_band
      ∙ band_pick c flags best j lo a.hi a.old a.size a.from a.to c.count b.count_range

  row_again : (best : List ℕ) (choice : List (Option ℕ)) (i : ℕ) (p : Pick) → Now best choice (suc i) → p ≡ pick_to c flags best (suc i) c.count →
      Now (set best (suc i) p.sum) (set choice i p.at) i
  unfolding fill_from sum_at
  row_again best choice i p g q =
      let n = g.low (suc i + 1) (omega arith) (omega arith) in
      let l = pick_low c flags best (suc i) (4096 * (rows + 1 - suc i)) (omega arith) (sum_low best choice (suc i) g) c.count (omega arith) in
      record {
        in_range = omega arith;
        best_length = length-set best (suc i) p.sum ∙ g.best_length;
        choice_length = length-set choice i p.at ∙ g.choice_length;
        low = λ r a h.
            set_each (λ k x. x ≤ 4096 * (rows + 1 - k)) best (suc i) p.sum r (omega (arith, g.best_length)) (rw q l) (λ (d : r ≡ suc i → ⊥). g.low r (omega (arith, d)) h);
        same = rw q g.same;
      }

  pub rows_left_again : (best : List ℕ) (choice : List (Option ℕ)) (j : ℕ) (p : Pick) → 0 < j → Now best choice j → p ≡ pick_to c flags best j c.count →
      Now (set best j p.sum) (set choice (j - 1) p.at) (j - 1)
  rows_left_again best choice zero p h g e = absurd (omega arith)
  rows_left_again best choice (suc i) p h g e =
      let e' : suc i - 1 ≡ i = omega arith in
      rw e' (row_again best choice i p g e)

  pub rows_left_end : (best : List ℕ) (choice : List (Option ℕ)) (j : ℕ) → j ≤ 0 → Now best choice j →
      ◌≡◌ {A = TrackPlan} (record { choice = choice; sum = get_or best 1 0 }) (filled_plan c flags rows)
  unfolding fill_from
  rows_left_end best choice zero h g = g.same
  rows_left_end best choice (suc j) h g = absurd (omega arith)

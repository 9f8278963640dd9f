-- A text written part by part: while parts are still to come there is room for them, and behind the last the whole text stands. Assumes nothing.
use Prim.Native.Nat.{ℕ, ◌+◌, ◌≤◌}
use mathlib.Core.Path.{◌≡◌, refl, sym}
use mathlib.Core.List.{List, [], ◌∷◌, ◌++◌, append-nil}
use native.Mathlib.Omega.{arith}
use lib.ListN.{length}
use Rattle.text.specs.Written.{WrittenAt}
use Rattle.text.specs.Runs.{Going}
use Rattle.text.proofs.Runs.{going_start, going_on, going_room, going_more, going_end}

-- parts one behind another
abbrev pub joined : List (List ℕ) → List ℕ
joined [] = []
joined (a ∷ []) = a
joined (a ∷ b ∷ ps) = a ++ joined (b ∷ ps)

joined_more : (a : List ℕ) (ps : List (List ℕ)) → joined (a ∷ ps) ≡ a ++ joined ps
joined_more a [] = sym (append-nil a)
joined_more a (b ∷ ps) = refl

-- of the text `whole`, for which there is room from the place `at` on, the parts are still to come; `next` is the place behind what is done
pub record Run (at : ℕ) (whole : List ℕ) (parts : List (List ℕ)) (before after : List ℕ) (next : ℕ) : Type 0 where
  pub room : at + length whole ≤ length before
  pub going : Going at whole (joined parts) before after next

pub run_start : {at : ℕ} {whole : List ℕ} (parts : List (List ℕ)) {before : List ℕ} → whole ≡ joined parts → at + length whole ≤ length before →
    Run at whole parts before before at
run_start {at} {whole} parts {before} e h = record { room = h; going = going_on e (going_start at whole before) }

-- the same from the start of a buffer
pub run_start_0 : {whole : List ℕ} (parts : List (List ℕ)) {before : List ℕ} → whole ≡ joined parts → length whole ≤ length before → Run 0 whole parts before before 0
run_start_0 parts e h = run_start parts e (omega arith)

infixl 10 ◌then◌
module _ {at : ℕ} {whole before after : List ℕ} {next : ℕ} where
  -- for the part that is next there is room
  pub run_room : {a : List ℕ} {parts : List (List ℕ)} → Run at whole (a ∷ parts) before after next → next + length a ≤ length after
  run_room {a} {parts} r = going_room a (joined parts) (going_on (joined_more a parts) r.going) r.room

  -- that part is written
  pub ◌then◌ : {a : List ℕ} {parts : List (List ℕ)} {now : List ℕ} {k : ℕ} → Run at whole (a ∷ parts) before after next →
      WrittenAt next a after now k → Run at whole parts before now k
  ◌then◌ {a} {parts} r w = record { room = r.room; going = going_more a (joined parts) (going_on (joined_more a parts) r.going) r.room w }

  -- all parts are written
  pub run_end : Run at whole [] before after next → WrittenAt at whole before after next
  run_end r = going_end r.going

-- Every net has a line above, place by place. Assumes nothing.
use Prim.Native.Nat.{ℕ, suc, ◌<◌}
use mathlib.Core.Path.{◌≡◌, refl, sym, ◌∙◌}
use mathlib.Core.Bool.{Bool, true, false}
use Rattle.std.specs.Prelude.{Option, None, is_some}
use mathlib.Core.List.{List, [], ◌∷◌}
use native.Mathlib.Omega.{arith}
use lib.ListN.{length, get_or}
use Rattle.lists.specs.Lists.{all_of}
use Rattle.lists.proofs.Cases.{by_test}
use Rattle.lists.proofs.Laws.{all_of_at}
use Rattle.lists.proofs.Places.{mem_at}
use Rattle.board.specs.declared.Net.{Net}
use Rattle.board.specs.declared.Track.{Track}
use Rattle.board.specs.Stored.{no_net}

all_places : (f : Net → Bool) (ns : List Net) → ((k : ℕ) → k < length ns → f (get_or ns k no_net) ≡ true) → all_of f ns ≡ true
unfolding all_of
all_places f [] g = refl
all_places f (n ∷ ns) g = rw (g 0 (omega arith), all_places f ns (λ k h. g (suc k) (omega arith)))

module _ (f : Net → Bool) (ns : List Net) (stands : List (Option Track)) (same : (k : ℕ) → k < length ns → f (get_or ns k no_net) ≡ is_some (get_or stands k None)) where
  -- every net has a line where every place has one
  pub lined_all : ((k : ℕ) → k < length ns → is_some (get_or stands k None) ≡ true) → all_of f ns ≡ true
  lined_all lined = all_places f ns (λ k h. same k h ∙ lined k h)

  -- and only there
  pub lined_not : (((k : ℕ) → k < length ns → is_some (get_or stands k None) ≡ true) → ⊥) → all_of f ns ≡ false
  lined_not missing =
      by_test (all_of f ns)
      (λ t. absurd (missing (λ k h. sym (same k h) ∙ all_of_at f ns (get_or ns k no_net) t (mem_at ns k no_net h))))
      (λ t. t)

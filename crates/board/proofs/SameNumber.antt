-- Nets of a job with one number are one net. Assumes nothing.
use Prim.Native.Nat.{◌<◌}
use mathlib.Core.Path.{◌≡◌, sym, ap, ◌∙◌}
use mathlib.Core.Logic.{⊎_elim}
use mathlib.Core.List.Memᴰ
use mathlib.Core.List.{List, [], ◌∷◌, Memᴰ}
use native.Mathlib.Omega.{arith}
use Rattle.lists.specs.Lists.{EachPair}
use Rattle.lists.proofs.Laws.{Each-at}
use Rattle.board.specs.declared.Net.{Net}

-- nets with one number are one net
pub same_number : (ns : List Net) → EachPair (λ a b. a.number < b.number) ns → (m n : Net) → Memᴰ m ns → Memᴰ n ns → m.number ≡ n.number → m ≡ n
same_number [] r m n i k q = absurd (Memᴰ.not-nil i)
same_number (x ∷ xs) r m n i k q =
    let above : (y : Net) → Memᴰ y xs → x.number < y.number = λ y j. Each-at (λ z. x.number < z.number) xs y r.0 j in
    ⊎_elim
    (λ (a : m ≡ x). ⊎_elim
    (λ (b : n ≡ x). a ∙ sym b)
    (λ k'. absurd (omega (arith, above n k', ap (λ (z : Net). z.number) a)))
    (Memᴰ.cases_cons k))
    (λ i'. ⊎_elim
    (λ (b : n ≡ x). absurd (omega (arith, above m i', ap (λ (z : Net). z.number) b)))
    (λ k'. same_number xs r.1 m n i' k' q)
    (Memᴰ.cases_cons k))
    (Memᴰ.cases_cons i)

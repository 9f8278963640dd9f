-- Demand 2 and soundness leave one text: a sound text whose tracks are those planned is the one that route writes. Assumes nothing.
use Prim.Native.Nat.{ℕ, ◌<◌}
use mathlib.Core.Path.{◌≡◌, refl, sym, ap, ap₂, ◌∙◌}
use mathlib.Core.Logic.{⊎_elim}
use mathlib.Core.List.Memᴰ
use mathlib.Core.List.{List, [], ◌∷◌, Memᴰ}
use native.Mathlib.Omega.{arith}
use Rattle.lists.specs.Lists.{Each, EachPair}
use Rattle.lists.proofs.Laws.{Each-at}
use Rattle.lists.proofs.Joins.{EachPair-across}
use Rattle.board.specs.declared.Net.{Net}
use Rattle.board.specs.Job.{Job}
use Rattle.board.specs.Accepted.{AcceptedJob}
use Rattle.planning.specs.Plan.{plan_of}
use Rattle.layout.specs.Tree.{Layout}
use Rattle.layout.specs.LayoutText.{layout_text}
use Rattle.layout.proofs.RoundTrip.{layout_text_injective}
use Rattle.sound.specs.Wires.{track_numbers, line_numbers}
use Rattle.sound.specs.Sound.{Sound}
use Rattle.routing.specs.Promises.{ShortestText}
use Rattle.routing.specs.Route.{route_layout, route_text}
use Rattle.routing.proofs.RouteSound.{route_sound}

-- ---- rising lists with the same elements are equal

abbrev Rising : List ℕ → Type 0
Rising xs = EachPair (λ j k. j < k) xs

abbrev Within : List ℕ → List ℕ → Type 0
Within xs ys = (k : ℕ) → Memᴰ k xs → Memᴰ k ys

-- an element of a rising list that is not its first is above it
first_below : (x : ℕ) (xs : List ℕ) (k : ℕ) → Rising (x ∷ xs) → Memᴰ k xs → x < k
first_below x xs k r i = Each-at (λ j. x < j) xs k r.0 i

same_first : (x y : ℕ) (xs ys : List ℕ) → Rising (x ∷ xs) → Rising (y ∷ ys) → Within (x ∷ xs) (y ∷ ys) → Within (y ∷ ys) (x ∷ xs) → x ≡ y
same_first x y xs ys r s h g =
    ⊎_elim
    (λ (e : x ≡ y). e)
    (λ i. ⊎_elim
    (λ (e : y ≡ x). sym e)
    (λ j. absurd (omega (arith, first_below y ys x s i, first_below x xs y r j)))
    (Memᴰ.cases_cons (g y (Memᴰ.head refl))))
    (Memᴰ.cases_cons (h x (Memᴰ.head refl)))

-- the elements behind the first are within those behind the first of the other
behind_first : (x y : ℕ) (xs ys : List ℕ) → x ≡ y → Rising (x ∷ xs) → Within (x ∷ xs) (y ∷ ys) → Within xs ys
behind_first x y xs ys e r h k i =
    ⊎_elim
    (λ (q : k ≡ y). absurd (omega (arith, first_below x xs k r i)))
    (λ j. j)
    (Memᴰ.cases_cons (h k (Memᴰ.tail i)))

rising_same : (xs ys : List ℕ) → Rising xs → Rising ys → Within xs ys → Within ys xs → xs ≡ ys
rising_same [] [] r s h g = refl
rising_same [] (y ∷ ys) r s h g = absurd (Memᴰ.not-nil (g y (Memᴰ.head refl)))
rising_same (x ∷ xs) [] r s h g = absurd (Memᴰ.not-nil (h x (Memᴰ.head refl)))
rising_same (x ∷ xs) (y ∷ ys) r s h g =
    let e = same_first x y xs ys r s h g in
    ap₂ (λ k ks. k ∷ ks) e (rising_same xs ys r.1 s.1 (behind_first x y xs ys e r h) (behind_first y x ys xs (sym e) s g))

-- ---- two sound layouts with the same tracks have the same loose nets

module _ (job : Job) where
  loose_within : (text other : List ℕ) (s : Sound job text) (o : Sound job other) → s.layout.tracks ≡ o.layout.tracks →
      Within s.layout.loose o.layout.loose
  unfolding line_numbers
  loose_within text other s o e k i =
      let apart = EachPair-across (λ j l. j ≡ l → ⊥) (track_numbers s.layout.tracks) s.layout.loose s.once in
      let of_net = Memᴰ.of_map (λ (n : Net). n.number) job.nets (s.no_other k (Memᴰ.append_right (track_numbers s.layout.tracks) i)) in
      ⊎_elim
      (λ j. absurd (Each-at (λ l. k ≡ l → ⊥) s.layout.loose k (Each-at (λ l. Each (λ m. l ≡ m → ⊥) s.layout.loose) (track_numbers s.layout.tracks) k apart (rw (sym (ap track_numbers e)) at j)) i refl))
      (λ j. j)
      (Memᴰ.append_cases (track_numbers o.layout.tracks) (Memᴰ.cast (sym of_net.2) (o.each of_net.0 of_net.1)))

  same_loose : (text other : List ℕ) (s : Sound job text) (o : Sound job other) → s.layout.tracks ≡ o.layout.tracks →
      s.layout.loose ≡ o.layout.loose
  same_loose text other s o e =
      rising_same s.layout.loose o.layout.loose s.loose_rise o.loose_rise (loose_within text other s o e) (loose_within other text o s (sym e))

  -- a sound text whose tracks are those planned is the text that route writes
  pub only_text : AcceptedJob job → (text : List ℕ) → Sound job text → ShortestText job (plan_of job) text → text ≡ route_text job
  unfolding route_text route_layout
  only_text a text s q =
      let r = route_sound job a in
      let route_is : r.layout ≡ route_layout job = layout_text_injective r.layout (route_layout job) (sym r.rendered) in
      let same : s.layout ≡ q.layout = layout_text_injective s.layout q.layout (sym s.rendered ∙ q.rendered) in
      let tracks : s.layout.tracks ≡ r.layout.tracks =
      ap (λ (l : Layout). l.tracks) same ∙ q.planned ∙ sym (ap (λ (l : Layout). l.tracks) route_is) in
      let loose : s.layout.loose ≡ r.layout.loose = same_loose text (route_text job) s r tracks in
      let layouts : s.layout ≡ r.layout = λ i. record { tracks = tracks i; loose = loose i } in
      s.rendered ∙ ap layout_text (layouts ∙ route_is)

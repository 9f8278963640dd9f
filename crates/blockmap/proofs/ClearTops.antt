-- The flags of tops: one more top, each byte afterwards, and the length. Assumes nothing.
use Prim.Native.Nat.{ℕ, zero, suc, ◌+◌, ◌-◌, ◌≤◌, ◌<◌}
use mathlib.Core.Path.{◌≡◌, refl, sym, ap, ◌∙◌}
use mathlib.Core.Bool.{Bool, false}
use mathlib.Core.List.{List, ◌∷◌, ◌++◌, append_assoc}
use native.Mathlib.Omega.{arith}
use lib.ListN.{get_or, set, length, length-set, take, drop, replicate, length-append, length-drop, length-replicate, take-append-drop}
use lib.Seq.{get_or-set_same, get_or-set_other, set-set, set_comm, set-get_or, set-append_seam, length-take-le, drop-cons}
use borrow.Rule.Slice.PartMut.{put_mid}
use lib.Dec.{eqb}
use borrow.Author.Tests.{eqb-true, eqb-false}
use Rattle.lists.proofs.Cases.{by_test}
use Rattle.blockmap.specs.Clear.{flag, flag_tops}

module _ (test : ℕ → Bool) (first : ℕ) where
  pub flags_length : (k : ℕ) (flags : List ℕ) → length (flag_tops test first k flags) ≡ length flags
  unfolding flag_tops
  flags_length zero flags = refl
  flags_length (suc k) flags = rw length-set (flags_length k flags)

  -- before the first top
  pub flags_none : (flags : List ℕ) → flags ≡ flag_tops test first (first - first) flags
  unfolding flag_tops
  flags_none flags =
      let e : first - first ≡ 0 = omega arith in
      rw e

  -- one more top, after its byte is written
  pub flags_more : (flags now : List ℕ) (top : ℕ) (b : Bool) → first ≤ top → now ≡ flag_tops test first (top - first) flags → test top ≡ b
      → set now (top - 1) (flag b) ≡ flag_tops test first (top + 1 - first) flags
  unfolding flag_tops
  flags_more flags now top b h e t =
      let n : top + 1 - first ≡ suc (top - first) = omega arith in
      let at : first + (top - first) ≡ top = omega arith in
      rw (n, at, e, t)

  -- after the last top
  pub flags_all : (flags now : List ℕ) (last end top : ℕ) → now ≡ flag_tops test first (top - first) flags → end ≤ top → top ≤ end → end ≡ last + 1
      → now ≡ flag_tops test first (last + 1 - first) flags
  flags_all flags now last end top e a b l =
      let t : top ≡ last + 1 = omega arith in
      rw t at e

  -- the byte of a top
  pub flags_at : (k : ℕ) (flags : List ℕ) (top : ℕ) → 1 ≤ first → first ≤ top → top < first + k → first + k ≤ length flags + 1
      → get_or (flag_tops test first k flags) (top - 1) 0 ≡ flag (test top)
  unfolding flag_tops
  flags_at zero flags top o a b l = absurd (omega arith)
  flags_at (suc k) flags top o a b l =
      by_test (eqb top (first + k))
      (λ t.
      let e : top ≡ first + k = eqb-true top (first + k) t in
      let s : first + k - 1 < length (flag_tops test first k flags) = omega (arith, flags_length k flags) in
      rw e (get_or-set_same (flag_tops test first k flags) (first + k - 1) (flag (test (first + k))) 0 s))
      (λ t.
      let d : top ≡ first + k → ⊥ = eqb-false top (first + k) t in
      let d' : top - 1 ≡ first + k - 1 → ⊥ = λ q. d (omega arith) in
      get_or-set_other (flag_tops test first k flags) (first + k - 1) (top - 1) (flag (test (first + k))) 0 d'
      ∙ flags_at k flags top o a (omega arith) (omega arith))

  -- every other byte
  pub flags_other : (k : ℕ) (flags : List ℕ) (i : ℕ) → 1 ≤ first → ((top : ℕ) → first ≤ top → top < first + k → i ≡ top - 1 → ⊥)
      → get_or (flag_tops test first k flags) i 0 ≡ get_or flags i 0
  unfolding flag_tops
  flags_other zero flags i o n = refl
  flags_other (suc k) flags i o n =
      get_or-set_other (flag_tops test first k flags) (first + k - 1) i (flag (test (first + k))) 0 (n (first + k) (omega arith) (omega arith))
      ∙ flags_other k flags i o (λ top a b. n top a (omega arith))

-- a byte before or behind those of the tops may as well be written first
flags_swap : (test : ℕ → Bool) (first k : ℕ) (flags : List ℕ) (i v : ℕ) → ((top : ℕ) → first ≤ top → top < first + k → i ≡ top - 1 → ⊥)
    → flag_tops test first k (set flags i v) ≡ set (flag_tops test first k flags) i v
unfolding flag_tops
flags_swap test first zero flags i v n = refl
flags_swap test first (suc k) flags i v n =
    rw (flags_swap test first k flags i v (λ top a b. n top a (omega arith)))
    (set_comm (flag_tops test first k flags) i (first + k - 1) v (flag (test (first + k))) (n (first + k) (omega arith) (omega arith)))

-- flags written over others on the same tops
pub flags_over : (test other : ℕ → Bool) (first k : ℕ) (flags : List ℕ) → 1 ≤ first
    → flag_tops test first k (flag_tops other first k flags) ≡ flag_tops test first k flags
unfolding flag_tops
flags_over test other first zero flags o = refl
flags_over test other first (suc k) flags o =
    let i = first + k - 1 in
    let w = flag (test (first + k)) in
    let before = flag_tops other first k flags in
    ap (λ l. set l i w) (flags_swap test first k before i (flag (other (first + k))) (λ top a b e. absurd (omega arith)))
    ∙ set-set (flag_tops test first k before) i (flag (other (first + k))) w
    ∙ ap (λ l. set l i w) (flags_over test other first k flags o)

-- where the n tops from `first` on had byte 0 to begin with, a top that fails the test leaves the bytes as they are
pub flags_skip : (test : ℕ → Bool) (first n : ℕ) (flags zeros now : List ℕ) (top : ℕ) → 1 ≤ first → first ≤ top → top < first + n → first + n ≤ length flags + 1
    → zeros ≡ flag_tops (λ t. false) first n flags → now ≡ flag_tops test first (top - first) zeros → test top ≡ false
    → now ≡ flag_tops test first (top + 1 - first) zeros
flags_skip test first n flags zeros now top o a b l z e t =
    let i = top - 1 in
    let zero_before : get_or zeros i 0 ≡ 0 = ap (λ (x : List ℕ). get_or x i 0) z ∙ flags_at (λ t. false) first n flags top o a b l in
    let zero_now : get_or now i 0 ≡ 0 =
    ap (λ (x : List ℕ). get_or x i 0) e ∙ flags_other test first (top - first) zeros i o (λ u c d q. absurd (omega arith)) ∙ zero_before in
    let kept : set now i 0 ≡ now = ap (set now i) (sym zero_now) ∙ set-get_or now i 0 in
    sym kept ∙ flags_more test first zeros now top false a e t

-- tests that agree on the tops give the same flags
pub flags_same : (f g : ℕ → Bool) (first k : ℕ) (flags : List ℕ) → ((top : ℕ) → first ≤ top → top < first + k → f top ≡ g top)
    → flag_tops f first k flags ≡ flag_tops g first k flags
unfolding flag_tops
flags_same f g first zero flags h = refl
flags_same f g first (suc k) flags h =
    rw (flags_same f g first k flags (λ top a b. h top a (omega arith)), h (first + k) (omega arith) (omega arith))

-- a part of the flags that is filled with one byte

replicate_last : (k v : ℕ) (t : List ℕ) → replicate k v ++ (v ∷ t) ≡ v ∷ (replicate k v ++ t)
replicate_last zero v t = refl
replicate_last (suc k) v t = ap (λ (l : List ℕ). v ∷ l) (replicate_last k v t)

fill_more : (before after : List ℕ) (k v y n : ℕ) → length before + k ≡ n
    → set (before ++ (replicate k v ++ (y ∷ after))) n v ≡ before ++ (v ∷ (replicate k v ++ after))
fill_more before after k v y n h =
    let front = before ++ replicate k v in
    let l : n ≡ length front = simp (length-append, length-replicate) (omega arith) in
    ap (λ (l : List ℕ). set l n v) (sym (append_assoc before (replicate k v) (y ∷ after)))
    ∙ ap (λ (m : ℕ). set (front ++ (y ∷ after)) m v) l
    ∙ set-append_seam front y after v
    ∙ append_assoc before (replicate k v) (v ∷ after)
    ∙ ap (λ (l : List ℕ). before ++ l) (replicate_last k v after)

fill_tops : (b : Bool) (first k : ℕ) (flags : List ℕ) → 1 ≤ first → first + k ≤ length flags + 1
    → put_mid (first - 1) k flags (replicate k (flag b)) ≡ flag_tops (λ t. b) first k flags
unfolding flag_tops
fill_tops b first zero flags o h = take-append-drop (first - 1) flags
fill_tops b first (suc k) flags o h =
    let p = first - 1 in
    let l : length (take p flags) + k ≡ first + k - 1 = omega (arith, length-take-le p flags (omega arith)) in
    let d : drop k (drop p flags) ≡ get_or (drop p flags) k 0 ∷ drop (suc k) (drop p flags) = drop-cons (drop p flags) k 0 (omega (arith, length-drop p flags)) in
    sym (fill_more (take p flags) (drop (suc k) (drop p flags)) k (flag b) (get_or (drop p flags) k 0) (first + k - 1) l)
    ∙ ap (λ (r : List ℕ). set (take p flags ++ (replicate k (flag b) ++ r)) (first + k - 1) (flag b)) (sym d)
    ∙ ap (λ (r : List ℕ). set r (first + k - 1) (flag b)) (fill_tops b first k flags o (omega arith))

pub filled : (b : Bool) (first last v n : ℕ) (flags ys : List ℕ) → 1 ≤ first → first ≤ last → last ≤ length flags → v ≡ flag b
    → n ≡ last - (first - 1) → ys ≡ replicate n v → put_mid (first - 1) (last - (first - 1)) flags ys ≡ flag_tops (λ t. b) first (last + 1 - first) flags
filled b first last v n flags ys o h l e m f =
    let k : last - (first - 1) ≡ last + 1 - first = omega arith in
    rw (f, m, e, k) (fill_tops b first (last + 1 - first) flags o (omega arith))

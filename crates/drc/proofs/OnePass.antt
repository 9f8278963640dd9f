-- The pass gives the verdict. While no line above is broken it goes with the verdict line by line; behind a broken wire only the sum of
-- its track is still open. Assumes nothing.
use Prim.Native.Nat.{ℕ, suc, ◌≤◌}
use mathlib.Core.Path.{◌≡◌, refl, sym, ap, ◌∙◌}
use mathlib.Core.Bool.{Bool, true, false, cond, not, ◌&&◌, ◌||◌, false≢true}
use Rattle.std.specs.Prelude.{Option, None, Some}
use mathlib.Core.List.{List, [], ◌∷◌, ◌++◌}
use native.Mathlib.Omega.{arith}
use lib.Dec.{eqb, leb, ltb}
use borrow.Author.Tests.{eqb-true, leb-true, le-leb}
use Rattle.lists.specs.Lists.{all_of}
use Rattle.lists.proofs.Cases.{by_test, and_split}
use Rattle.board.specs.Job.{Job}
use Rattle.board.specs.Accepted.{AcceptedJob}
use Rattle.board.specs.Tests.{is_on}
use Rattle.layout.specs.Tree.{Wire, Line, opens, track, wire, loose, closes}
use Rattle.sound.specs.Wires.{wire_numbers}
use Rattle.drc.specs.Standing.{lines_read, Above, before_layout, in_layout, behind_layout, with_line}
use Rattle.drc.specs.Covers.{drawn_by}
use Rattle.drc.specs.Judge.{none_loose, ends_track, is_in_turn, is_opening, is_in_place, is_true_sum, is_sound_wire, is_unlined, keeps_rules, Verdict, broken_at, at_text_end, judge_from, judge}
use Rattle.drc.specs.Pass.{Summary, empty_summary, add_track, is_next_wire, breach_after, add_wire, add_loose, PassState, unbegun, running, finished, PassStep, passes_on, decides, closed_at, unless_breach, judged_track, or_broken, pass_in_turn, pass_line, pass_ill_formed, pass_step, pass_end, after_step, pass_from, pass_over}
use Rattle.drc.proofs.InPlace.{no_loose_lines}
use Rattle.drc.proofs.JudgedTree.{some_loose}
use Rattle.drc.proofs.Summaries.{SummaryFits, fits_empty, wired_is, fits_track, next_loose, fits_loose, next_wire, fits_wire}

-- ---- the wires of a track end

-- behind a broken wire
settled_breach : (m : Summary) (l : ℕ) (x : PassStep) (go : PassState → Verdict) → m.breach ≡ Some l →
    after_step (judged_track m x) go ≡ cond (eqb m.sum m.printed) (broken_at l) (broken_at m.line)
unfolding after_step judged_track unless_breach
settled_breach m l x go f = by_test (eqb m.sum m.printed) (λ e. rw (e, f)) (λ e. rw e)

-- behind none
settled : (m : Summary) (x : PassStep) (go : PassState → Verdict) → m.breach ≡ None →
    after_step (judged_track m x) go ≡ cond (eqb m.sum m.printed) (after_step x go) (broken_at m.line)
unfolding after_step judged_track unless_breach
settled m x go f = by_test (eqb m.sum m.printed) (λ e. rw (e, f)) (λ e. rw e)

after_test : (n : ℕ) (q : Bool) (st : PassState) (go : PassState → Verdict) → after_step (or_broken n q (passes_on st)) go ≡ cond q (go st) (broken_at n)
unfolding after_step or_broken
after_test n true st go = refl
after_test n false st go = refl

-- ---- tests one inside the other: c, the line can stand there; e, the sum is right; q, the line passes its test

ended_waiting : (c e q : Bool) (x y z v : Verdict) → (c ≡ true → e ≡ true → q ≡ true → x ≡ y) →
    cond c (cond e (cond q x z) v) z ≡ cond (not c || e) (cond (c && q) y z) v
ended_waiting true true true x y z v f = f refl refl refl
ended_waiting true true false x y z v f = refl
ended_waiting true false q x y z v f = refl
ended_waiting false e q x y z v f = refl

ended_clean : (c e q : Bool) (x y z v : Verdict) → e ≡ true → (c ≡ true → e ≡ true → q ≡ true → x ≡ y) → cond c (cond e (cond q x z) v) z ≡ cond (c && q) y z
ended_clean true true true x y z v h f = f refl refl refl
ended_clean true true false x y z v h f = refl
ended_clean false e q x y z v h f = refl
ended_clean true false q x y z v h f = absurd (false≢true h)

-- the same for a track line, whose test looks at the lines below
next_waiting : (c e q : Bool) (x y z v : Verdict) → (c ≡ true → x ≡ cond q y z) → cond c (cond e x v) z ≡ cond (not c || e) (cond (c && q) y z) v
next_waiting true e q x y z v f = ap (λ u. cond e u v) (f refl)
next_waiting false e q x y z v f = refl

next_clean : (c e q : Bool) (x y z v : Verdict) → e ≡ true → (c ≡ true → x ≡ cond q y z) → cond c (cond e x v) z ≡ cond (c && q) y z
next_clean true true q x y z v h f = f refl
next_clean false e q x y z v h f = refl
next_clean true false q x y z v h f = absurd (false≢true h)

module _ (job : Job) where
  abbrev track_count : ℕ
  track_count = job.board.tracks

  abbrev goes_on : ℕ → List (Option Line) → PassState → Verdict
  goes_on n ls st = pass_from job (suc n) st ls

  abbrev above : Summary → List Wire → List ℕ → Above
  above m ws ns = in_layout m.track m.earlier ws ns

  -- ---- behind a broken wire, at line l

  abbrev BreachAbove : List (Option Line) → Type 0
  BreachAbove ls = (n l : ℕ) (m : Summary) → m.breach ≡ Some l → eqb m.last 0 ≡ true → 1 ≤ m.track → m.track ≤ track_count →
      pass_from job n (running m) ls ≡ cond (is_true_sum job m.track m.printed m.sum ls) (broken_at l) (broken_at m.line)

  breach_above_end : (n l : ℕ) (m : Summary) (c : Bool) (x : PassStep) (go : PassState → Verdict) → m.breach ≡ Some l →
      after_step (cond c (judged_track m x) (decides (closed_at m.breach n))) go ≡
      cond (not c || eqb m.sum m.printed) (broken_at l) (broken_at m.line)
  unfolding after_step closed_at
  breach_above_end n l m true x go f = settled_breach m l x go f
  breach_above_end n l m false x go f = rw f

  breach_above : (ls : List (Option Line)) → BreachAbove ls
  unfolding pass_from pass_end pass_step pass_ill_formed pass_line pass_in_turn is_in_turn is_true_sum closed_at after_step breach_after
  breach_above [] n l m f z o b = rw f
  breach_above (None ∷ ls) n l m f z o b = rw f
  breach_above (Some opens ∷ ls) n l m f z o b = rw f
  breach_above (Some (track u s) ∷ ls) n l m f z o b = rw z (breach_above_end n l m (ends_track job m.track (track u s)) _ (goes_on n ls) f)
  breach_above (Some (wire w) ∷ ls) n l m f z o b =
      rw (z, le-leb 1 m.track o, le-leb m.track track_count b)
      (breach_above ls (suc n) l (add_wire job n w (drawn_by job m.track w) m) (rw f) z o b)
  breach_above (Some (loose k) ∷ ls) n l m f z o b = breach_above_end n l m (ends_track job m.track (loose k)) _ (goes_on n ls) f
  breach_above (Some closes ∷ ls) n l m f z o b = breach_above_end n l m (ends_track job m.track closes) _ (goes_on n ls) f

  -- ---- behind the closing line

  behind : (ls : List (Option Line)) (n : ℕ) → pass_from job n finished ls ≡ judge_from job n behind_layout ls
  unfolding pass_from pass_end pass_step pass_ill_formed pass_line after_step judge_from at_text_end is_in_place
  behind [] n = refl
  behind (None ∷ ls) n = refl
  behind (Some x ∷ ls) n = refl

  -- ---- while no line above is broken

  ended_step : (n : ℕ) (m : Summary) (c q : Bool) (st : PassState) (go : PassState → Verdict) → m.breach ≡ None →
      after_step (cond c (judged_track m (or_broken n q (passes_on st))) (decides (closed_at m.breach n))) go ≡
      cond c (cond (eqb m.sum m.printed) (cond q (go st) (broken_at n)) (broken_at m.line)) (broken_at n)
  unfolding after_step closed_at
  ended_step n m true q st go f =
      settled m (or_broken n q (passes_on st)) go f ∙ ap (λ u. cond (eqb m.sum m.printed) u (broken_at m.line)) (after_test n q st go)
  ended_step n m false q st go f = rw f

  next_step : (n : ℕ) (m : Summary) (c : Bool) (st : PassState) (go : PassState → Verdict) → m.breach ≡ None →
      after_step (cond c (judged_track m (passes_on st)) (decides (closed_at m.breach n))) go ≡
      cond c (cond (eqb m.sum m.printed) (go st) (broken_at m.line)) (broken_at n)
  unfolding after_step closed_at
  next_step n m true st go f = settled m (passes_on st) go f
  next_step n m false st go f = rw f

  -- the sum of the last track line is judged already, or there is no track line: no wire can stand there
  abbrev Clean : List (Option Line) → Type 0
  Clean ls = (n : ℕ) (ws : List Wire) (ns : List ℕ) (m : Summary) → SummaryFits job ws ns m → eqb m.sum m.printed ≡ true →
      ((w : Wire) → is_in_turn job m.track (eqb m.last 0) (wire w) ≡ false) →
      pass_from job n (running m) ls ≡ judge_from job n (above m ws ns) ls

  -- under a track line whose sum is still open
  abbrev Waiting : List (Option Line) → Type 0
  Waiting ls = (n : ℕ) (ws : List Wire) (m : Summary) → SummaryFits job ws [] m → 1 ≤ m.track → m.track ≤ track_count →
      pass_from job n (running m) ls ≡
      cond (is_true_sum job m.track m.printed m.sum ls) (judge_from job n (above m ws []) ls) (broken_at m.line)

  none_last : (ws : List Wire) (m : Summary) → SummaryFits job ws [] m → eqb m.last 0 ≡ true
  unfolding none_loose
  none_last ws m f = sym f.loose_is

  -- a track line
  track_turn : (t u s : ℕ) → ends_track job t (track u s) ≡ true → (1 ≤ u) × (u ≤ track_count)
  unfolding ends_track
  track_turn t u s h =
      let b = and_split (eqb u (suc t)) (leb u track_count) h in
      (omega (arith, eqb-true u (suc t) b.0), leb-true u track_count b.1)

  under_next : (u s : ℕ) (ls : List (Option Line)) → Waiting ls → (n : ℕ) (ws : List Wire) (m : Summary) → SummaryFits job ws [] m → ends_track job m.track (track u s) ≡ true →
      pass_from job (suc n) (running (add_track n u s m)) ls ≡
      cond (is_true_sum job u s 0 ls) (judge_from job (suc n) (in_layout u (m.earlier ++ wire_numbers ws) [] []) ls) (broken_at n)
  under_next u s ls g n ws m f c =
      let r = track_turn m.track u s c in
      g (suc n) [] (add_track n u s m) (fits_track job n u s ws m f) r.0 r.1 ∙
      ap (λ (l : List ℕ). cond (is_true_sum job u s 0 ls) (judge_from job (suc n) (in_layout u l [] []) ls) (broken_at n)) (wired_is job ws m f)

  waiting_track : (u s : ℕ) (ls : List (Option Line)) → Waiting ls → Waiting (Some (track u s) ∷ ls)
  unfolding pass_from pass_step pass_line pass_in_turn judge_from is_in_place is_in_turn keeps_rules with_line is_true_sum
  waiting_track u s ls g n ws m f o b =
      rw (f.loose_is, none_last ws m f)
      (next_step n m (ends_track job m.track (track u s)) (running (add_track n u s m)) (goes_on n ls) f.no_breach ∙
      next_waiting (ends_track job m.track (track u s)) (eqb m.sum m.printed) (is_true_sum job u s 0 ls) _ _ (broken_at n) (broken_at m.line)
      (under_next u s ls g n ws m f))

  clean_track : (u s : ℕ) (ls : List (Option Line)) → Waiting ls → Clean (Some (track u s) ∷ ls)
  unfolding pass_from pass_step pass_line pass_in_turn judge_from is_in_place is_in_turn keeps_rules with_line
  clean_track u s ls g n ws ns m f h z =
      rw (← f.loose_is)
      (next_step n m (none_loose ns && ends_track job m.track (track u s)) (running (add_track n u s m)) (goes_on n ls) f.no_breach ∙
      next_clean (none_loose ns && ends_track job m.track (track u s)) (eqb m.sum m.printed) (is_true_sum job u s 0 ls) _ _ (broken_at n) (broken_at m.line) h
      (λ c.
      let d = and_split (none_loose ns) (ends_track job m.track (track u s)) c in
      let e = no_loose_lines ns d.0 in
      rw e (under_next u s ls g n ws m (rw e at f) d.1)))

  -- the closing line
  closing_rest : (ls : List (Option Line)) (n : ℕ) (c e q : Bool) → c ≡ true → e ≡ true → q ≡ true → goes_on n ls finished ≡ judge_from job (suc n) behind_layout ls
  closing_rest ls n c e q x y z = behind ls (suc n)

  waiting_closes : (ls : List (Option Line)) → Waiting (Some closes ∷ ls)
  unfolding pass_from pass_step pass_line pass_in_turn judge_from is_in_place is_in_turn keeps_rules with_line is_true_sum
  waiting_closes ls n ws m f o b =
      let c = ends_track job m.track closes in
      let q = all_of (is_on m.lined) job.nets in
      rw (← f.lined_is)
      (ended_step n m c q finished (goes_on n ls) f.no_breach ∙
      ended_waiting c (eqb m.sum m.printed) q _ _ (broken_at n) (broken_at m.line) (closing_rest ls n c (eqb m.sum m.printed) q))

  clean_closes : (ls : List (Option Line)) → Clean (Some closes ∷ ls)
  unfolding pass_from pass_step pass_line pass_in_turn judge_from is_in_place is_in_turn keeps_rules with_line
  clean_closes ls n ws ns m f h z =
      let c = ends_track job m.track closes in
      let q = all_of (is_on m.lined) job.nets in
      rw (← f.lined_is)
      (ended_step n m c q finished (goes_on n ls) f.no_breach ∙
      ended_clean c (eqb m.sum m.printed) q _ _ (broken_at n) (broken_at m.line) h (closing_rest ls n c (eqb m.sum m.printed) q))

  -- a wire where none can stand
  clean_wire : (w : Wire) (ls : List (Option Line)) → Clean (Some (wire w) ∷ ls)
  unfolding pass_from pass_step pass_line judge_from is_in_place after_step closed_at
  clean_wire w ls n ws ns m f h z = rw (f.loose_is, z w, f.no_breach)

  module _ (a : AcceptedJob job) where
    -- a wire under a track line
    waiting_wire : (w : Wire) (ls : List (Option Line)) → Waiting ls → Waiting (Some (wire w) ∷ ls)
    unfolding pass_from pass_step pass_line pass_in_turn judge_from is_in_place is_in_turn keeps_rules with_line is_true_sum after_step breach_after
    waiting_wire w ls g n ws m f o b =
        let d = drawn_by job m.track w in
        let same = next_wire job a ws m w f o b in
        rw (f.loose_is, none_last ws m f, le-leb 1 m.track o, le-leb m.track track_count b)
        (by_test (is_next_wire job m d)
        (λ e.
        let s : is_sound_wire job m.track m.earlier ws d ≡ true = sym same ∙ e in
        rw s (g (suc n) (ws ++ (w ∷ [])) (add_wire job n w d m) (fits_wire job a ws m w f o b n e) o b))
        (λ e.
        let s : is_sound_wire job m.track m.earlier ws d ≡ false = sym same ∙ e in
        rw s (breach_above ls (suc n) n (add_wire job n w d m) (rw (e, f.no_breach)) (none_last ws m f) o b)))

    -- a loose line
    loose_rest : (k : ℕ) (ls : List (Option Line)) → Clean ls → (n : ℕ) (ws : List Wire) (ns : List ℕ) (m : Summary) → SummaryFits job ws ns m →
        ends_track job m.track (loose k) ≡ true → eqb m.sum m.printed ≡ true → (is_unlined job m.lined k && ltb m.last k) ≡ true →
        pass_from job (suc n) (running (add_loose k m)) ls ≡ judge_from job (suc n) (in_layout m.track m.earlier ws (ns ++ (k ∷ []))) ls
    unfolding is_in_turn
    loose_rest k ls g n ws ns m f c e q =
        let next = fits_loose job a ws ns m k f q in
        let ends_wires : eqb k 0 ≡ false = sym next.loose_is ∙ some_loose ns k in
        g (suc n) ws (ns ++ (k ∷ [])) (add_loose k m) next e (λ w. rw ends_wires)

    waiting_loose : (k : ℕ) (ls : List (Option Line)) → Clean ls → Waiting (Some (loose k) ∷ ls)
    unfolding pass_from pass_step pass_line pass_in_turn judge_from is_in_place is_in_turn keeps_rules with_line is_true_sum
    waiting_loose k ls g n ws m f o b =
        let c = ends_track job m.track (loose k) in
        let q = is_unlined job m.lined k && ltb m.last k in
        rw (← next_loose job a ws [] m k f)
        (ended_step n m c q (running (add_loose k m)) (goes_on n ls) f.no_breach ∙
        ended_waiting c (eqb m.sum m.printed) q _ _ (broken_at n) (broken_at m.line) (loose_rest k ls g n ws [] m f))

    clean_loose : (k : ℕ) (ls : List (Option Line)) → Clean ls → Clean (Some (loose k) ∷ ls)
    unfolding pass_from pass_step pass_line pass_in_turn judge_from is_in_place is_in_turn keeps_rules with_line
    clean_loose k ls g n ws ns m f h z =
        let c = ends_track job m.track (loose k) in
        let q = is_unlined job m.lined k && ltb m.last k in
        rw (← next_loose job a ws ns m k f)
        (ended_step n m c q (running (add_loose k m)) (goes_on n ls) f.no_breach ∙
        ended_clean c (eqb m.sum m.printed) q _ _ (broken_at n) (broken_at m.line) h (loose_rest k ls g n ws ns m f))

    -- every line
    both : (ls : List (Option Line)) → Clean ls × Waiting ls
    unfolding pass_from pass_end pass_step pass_ill_formed pass_line closed_at after_step judge_from at_text_end is_in_place is_in_turn is_true_sum
    both [] = (λ n ws ns m f h z. rw f.no_breach, λ n ws m f o b. rw f.no_breach)
    both (None ∷ ls) = (λ n ws ns m f h z. rw f.no_breach, λ n ws m f o b. rw f.no_breach)
    both (Some opens ∷ ls) = (λ n ws ns m f h z. rw f.no_breach, λ n ws m f o b. rw f.no_breach)
    both (Some (track u s) ∷ ls) = (clean_track u s ls (both ls).1, waiting_track u s ls (both ls).1)
    both (Some (wire w) ∷ ls) = (clean_wire w ls, waiting_wire w ls (both ls).1)
    both (Some (loose k) ∷ ls) = (clean_loose k ls (both ls).0, waiting_loose k ls (both ls).0)
    both (Some closes ∷ ls) = (clean_closes ls, waiting_closes ls)

    -- the first line
    opened_rest : (n : ℕ) (ls : List (Option Line)) → goes_on n ls (running empty_summary) ≡ judge_from job (suc n) (in_layout 0 [] [] []) ls
    unfolding is_in_turn
    opened_rest n ls = (both ls).0 (suc n) [] [] empty_summary (fits_empty job) refl (λ w. refl)

    from_start : (n : ℕ) (ls : List (Option Line)) → pass_from job n unbegun ls ≡ judge_from job n before_layout ls
    unfolding pass_from pass_end pass_step pass_ill_formed pass_line or_broken after_step judge_from at_text_end is_in_place is_opening keeps_rules with_line
    from_start n [] = refl
    from_start n (None ∷ ls) = refl
    from_start n (Some opens ∷ ls) = opened_rest n ls
    from_start n (Some (track u s) ∷ ls) = refl
    from_start n (Some (wire w) ∷ ls) = refl
    from_start n (Some (loose k) ∷ ls) = refl
    from_start n (Some closes ∷ ls) = refl

    -- the pass gives the verdict
    pub one_pass : (text : List ℕ) → pass_over job text ≡ judge job text
    unfolding pass_over judge
    one_pass text = from_start 1 (lines_read text)

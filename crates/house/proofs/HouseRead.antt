-- The fixed text of an accepted job is read as that job with its blocks in order, and two accepted jobs have the same text exactly where they
-- agree in board and nets and hold the same blocks equally often. Assumes nothing.
use Rattle.std.specs.Prelude.{Option, None, Some}
use Prim.Native.Nat.{ℕ, suc, ◌+◌, ◌*◌, ◌≤◌, ◌<◌}
use mathlib.Core.Path.{◌≡◌, refl, sym, ap, subst, ◌∙◌}
use mathlib.Core.Logic.{◌↔◌, ⊎_elim}
use mathlib.Core.Bool.{Bool, true}
use mathlib.Core.List.{List, [], ◌∷◌, ◌++◌, map, append_assoc, append-nil, Memᴰ}
use native.Mathlib.Omega.{arith}
use lib.ListN.{length, length-append, length-map}
use lib.Dec.{eqb}
use borrow.Author.Tests.{le-leb, lt-ltb, eqb-true, eqb-false}
use Rattle.lists.specs.Lists.{Each, EachPair, all_of}
use Rattle.lists.proofs.Cases.{by_test}
use Rattle.lists.proofs.Laws.{Each-map, Each-at, all_of_of}
use Rattle.lists.proofs.Joins.{Each-each, Each-join, Each-mapped, pair_across}
use Rattle.text.specs.Bytes.{same, joined, pieces, non_empty, lines}
use Rattle.text.specs.Digits.{digits}
use Rattle.text.proofs.Numbers.{length_digits}
use Rattle.lines.specs.Tokens.{spaced, line_words}
use Rattle.keywords.specs.Keywords.{board_word, rows_word, tracks_word, net_word, block_word, find_from, find_word}
use Rattle.board.specs.declared.Board.{Board}
use Rattle.board.specs.declared.Net.{Net}
use Rattle.board.specs.declared.Block.{Block}
use Rattle.board.specs.Length.{upper, lower, span, plain_length, shortest, needed}
use Rattle.board.specs.Job.{Job}
use Rattle.board.specs.Accepted.{BoardInRange, BlockInRange, AcceptedNet, AcceptedJob}
use Rattle.jobfile.specs.declared.Form.TheVariants as Is
use Rattle.jobfile.specs.declared.Refusal.{Refusal}
use Rattle.jobfile.specs.Forms.{no_word, if_last, form_after, form_found, form_opened, form_of, read_form}
use Rattle.jobfile.specs.Read.{start, filled, Next, go, unless, at_start, at_opened, at_sized, at_filled, net_of, weight_given, net_given, board_of, empty_job, last_number, pins_free, test_net, is_above, add_net, add_block, step, accepted, ended, follow, read_from, read_job}
use Rattle.jobfile.specs.Faults.{WeightInRange}
use Rattle.jobfile.proofs.Tests.{within_is, differ_is, net_range_is, block_range_is, last_net, free_is, length_is}
use Rattle.house.specs.Blocks.{block_numbers, sort_blocks}
use Rattle.house.specs.HouseText.{spaced_then, opening_line, inner_line, closing_line, weight_written, optional_number, net_numbers, net_line, block_line, house_lines, ended_lines, house_text, house_job, SameJob}
use Rattle.house.proofs.BlockOrder.{sorted_each, sorted_length, sort_same, same_sorted}
use Rattle.house.proofs.HouseLines.{in_word, rows_form, tracks_form, net_form, block_form, Plain, plain_inner, lines_ended}

-- ---- the weight of a net, as its line gives it

-- where it is not the needed rows, it is one that may be written
written_only : (board : Board) (n : Net) → AcceptedNet board n → (n.weight ≡ needed board n → ⊥) → (1 ≤ n.weight) × (n.weight ≤ 999)
written_only board n a d = ⊎_elim (λ (q : n.weight ≡ needed board n). absurd (d q)) (λ (h : (1 ≤ n.weight) × (n.weight ≤ 999)). h) a.weight_is

-- what holds of it, where it is left out and where it is written
by_weight : (P : Option ℕ → Type 0) (board : Board) (n : Net) → AcceptedNet board n → (n.weight ≡ needed board n → P None) →
    ((1 ≤ n.weight) × (n.weight ≤ 999) → P (Some n.weight)) → P (weight_written board n)
unfolding weight_written
by_weight P board n a f g =
    by_test (eqb n.weight (needed board n))
    (λ e. rw e (f (eqb-true _ _ e)))
    (λ e. rw e (g (written_only board n a (eqb-false _ _ e))))

written_range : (board : Board) (n : Net) → AcceptedNet board n → WeightInRange (weight_written board n)
written_range board n a = by_weight WeightInRange board n a (λ e. tt) (λ h. h)

-- the net that its line gives is the net
given_back : (board : Board) (n : Net) → AcceptedNet board n →
    net_given board n.number n.left.0 n.right.0 n.min n.max (weight_written board n) ≡ n
unfolding weight_given
given_back board n a =
    by_weight (λ w. net_given board n.number n.left.0 n.right.0 n.min n.max w ≡ n) board n a
    (λ e i. record { number = n.number; left = n.left; right = n.right; min = n.min; max = n.max; weight = (needed_same ∙ sym e) i })
    (λ h. refl)
  where
    needed_same : needed board (net_of n.number n.left.0 n.right.0 n.min n.max 0) ≡ needed board n
    needed_same = unfold needed shortest plain_length span upper lower in refl

-- ---- one line more

-- a job by its parts
abbrev job_with : Board → List Net → List Block → Job
job_with board ns bs = record { board = board; nets = ns; blocks = bs }

passed : (b : Bool) (o : Refusal) (x y : Next) → b ≡ true → x ≡ y → unless b o x ≡ y
unfolding unless
passed b o x y e q = rw e q

-- a net between others is one of them
mem_between : (ns : List Net) (n : Net) (ms : List Net) → Memᴰ n (ns ++ (n ∷ ms))
mem_between [] n ms = Memᴰ.head refl
mem_between (m ∷ ns) n ms = Memᴰ.tail (mem_between ns n ms)

-- the number of the last of nets that rise is below that of the next
last_below : (ns : List Net) (n : Net) (ms : List Net) → EachPair (λ a b. a.number < b.number) (ns ++ (n ∷ ms)) → 1 ≤ n.number → last_number 0 ns < n.number
unfolding last_number
last_below [] n ms r h = omega arith
last_below (m ∷ ns) n ms r h =
    let l = last_net 0 m ns in
    let a = pair_across (λ a b. a.number < b.number) (m ∷ ns) n ms r in
    let b = Each-at (λ x. x.number < n.number) (m ∷ ns) l.last a (subst (λ xs. Memᴰ l.last xs) (sym l.is_last) (mem_between l.before l.last [])) in
    omega (arith, l.has_number)

-- a net of an accepted job, below those before it
net_added : (k : ℕ) (board : Board) (ns : List Net) (n : Net) (ms : List Net) (bs cs : List Block) → AcceptedJob (job_with board (ns ++ (n ∷ ms)) bs) →
    add_net k n (weight_written board n) (job_with board ns cs) ≡ go (filled (job_with board (ns ++ (n ∷ [])) cs))
unfolding add_net test_net is_above
net_added k board ns n ms bs cs a =
    let x = a.nets_each n (mem_between ns n ms) in
    let few : length ns < 512 = omega (arith, a.nets_count, length-append ns (n ∷ ms)) in
    let lefts = pair_across (λ x y. x.left.0 ≡ y.left.0 → ⊥) ns n ms a.lefts_differ in
    let rights = pair_across (λ x y. x.right.0 ≡ y.right.0 → ⊥) ns n ms a.rights_differ in
    passed _ _ _ _ ((net_range_is board n (weight_written board n)).1 (x.in_range, written_range board n x))
    (passed _ _ _ _ (lt-ltb (length ns) 512 few)
    (passed _ _ _ _ (lt-ltb (last_number 0 ns) n.number (last_below ns n ms a.numbers_rise x.in_range.number_range.0))
    (passed _ _ _ _ (all_of_of (pins_free n) ns (λ m i. (free_is n m).1 (Each-at _ ns m lefts i, Each-at _ ns m rights i)))
    (passed _ _ _ _ ((differ_is n.left.0 n.right.0).1 x.ends_differ)
    (passed _ _ _ _ ((length_is board n).1 (x.some_shape, x.some_length))
    (passed _ _ _ _ (le-leb (needed board n) board.rows x.fits_board) refl))))))

block_added : (k : ℕ) (board : Board) (ns : List Net) (bs : List Block) (b : Block) → BlockInRange board b → length bs < 256 →
    add_block k b (job_with board ns bs) ≡ go (filled (job_with board ns (bs ++ (b ∷ []))))
unfolding add_block
block_added k board ns bs b r few = passed _ _ _ _ ((block_range_is board b).1 r) (passed _ _ _ _ (lt-ltb (length bs) 256 few) refl)

-- ---- several

-- the numbers of a net's line are below any bound above 9,999
net_small : (most : ℕ) → 9999 < most → (board : Board) (n : Net) → BoardInRange board → AcceptedNet board n → Each (λ x. x < most) (net_numbers n (weight_written board n))
net_small most m board n b a =
    let r = a.in_range in
    (omega arith, (omega arith, (omega arith, (omega arith, (omega arith, by_weight (λ w. Each (λ x. x < most) (optional_number w)) board n a (λ e. tt) (λ h. (omega arith, tt)))))))

-- there are at most six
numbers_count : (board : Board) (n : Net) → length (net_numbers n (weight_written board n)) ≤ 6
numbers_count board n = count (weight_written board n)
  where
    count : (w : Option ℕ) → length (net_numbers n w) ≤ 6
    count None = omega arith
    count (Some x) = omega arith

block_small : (board : Board) (b : Block) → BoardInRange board → BlockInRange board b → Each (λ x. x < 100000) (block_numbers b)
block_small board b c r = (omega arith, (omega arith, (omega arith, tt)))

nets_read : (k : ℕ) (board : Board) (ns ms : List Net) (bs : List Block) (rest : List (List ℕ)) → AcceptedJob (job_with board (ns ++ ms) bs) →
    read_from k (filled (job_with board ns [])) (map (net_line board) ms ++ rest) ≡ read_from (k + length ms) (filled (job_with board (ns ++ ms) [])) rest
unfolding read_from step follow at_filled
nets_read k board ns [] bs rest a = let e : k + 0 ≡ k = omega arith in rw (e, append-nil ns)
nets_read k board ns (m ∷ ms) bs rest a =
    let x = a.nets_each m (mem_between ns m ms) in
    let e : suc k + length ms ≡ k + suc (length ms) = omega arith in
    let q = append_assoc ns (m ∷ []) ms in
    rw (net_form m.number m.left.0 m.right.0 m.min m.max (weight_written board m) (net_small 100000 (omega arith) board m a.board_range x), given_back board m x, net_added k board ns m ms bs [] a)
    (nets_read (suc k) board (ns ++ (m ∷ [])) ms bs rest (rw q a) ∙ (rw (e, q)))

blocks_read : (k : ℕ) (board : Board) (ns : List Net) (bs cs : List Block) (rest : List (List ℕ)) → BoardInRange board → Each (BlockInRange board) cs → length bs + length cs ≤ 256 →
    read_from k (filled (job_with board ns bs)) (map block_line cs ++ rest) ≡ read_from (k + length cs) (filled (job_with board ns (bs ++ cs))) rest
unfolding read_from step follow at_filled
blocks_read k board ns bs [] rest r a h = let e : k + 0 ≡ k = omega arith in rw (e, append-nil bs)
blocks_read k board ns bs (c ∷ cs) rest r a h =
    let e : suc k + length cs ≡ k + suc (length cs) = omega arith in
    let q = append_assoc bs (c ∷ []) cs in
    rw (block_form c (block_small board c r a.0), block_added k board ns bs c a.0 (omega arith))
    (blocks_read (suc k) board ns (bs ++ (c ∷ [])) cs rest r a.1 (omega (arith, length-append bs (c ∷ []))) ∙ (rw (e, q)))

-- ---- the lines are short, and hold no byte 10

numbers_length : (ns : List ℕ) → Each (λ n. n < 10000) ns → length (spaced_then ns (41 ∷ [])) ≤ 5 * length ns + 1
unfolding spaced_then
numbers_length [] a = omega arith
numbers_length (n ∷ ns) a =
    omega (arith, length-append (digits n) (spaced_then ns (41 ∷ [])), length_digits 3 n (omega (arith, a.0)), numbers_length ns a.1)

inner_length : (w ns : List ℕ) → Each (λ n. n < 10000) ns → length (inner_line w ns) ≤ length w + 5 * length ns + 3
unfolding inner_line
inner_length w ns a = omega (arith, length-append w (spaced_then ns (41 ∷ [])), numbers_length ns a)

-- a line of the text, without its byte 10
pub record ShortLine (l : List ℕ) : Type 0 where
  pub plain : Plain l
  pub short : length l ≤ 36

net_short : (board : Board) (n : Net) → BoardInRange board → AcceptedNet board n → ShortLine (net_line board n)
unfolding in_word all_of
net_short board n b a = record {
  plain = plain_inner net_word (net_numbers n (weight_written board n)) refl;
  short = omega (arith, numbers_count board n, inner_length net_word (net_numbers n (weight_written board n)) (net_small 10000 (omega arith) board n b a));
}

block_short : (board : Board) (b : Block) → BoardInRange board → BlockInRange board b → ShortLine (block_line b)
unfolding in_word all_of
block_short board b c r = record {
  plain = plain_inner block_word (block_numbers b) refl;
  short = omega (arith, inner_length block_word (block_numbers b) (omega arith, (omega arith, (omega arith, tt))));
}

text_length : (ls : List (List ℕ)) → Each ShortLine ls → length (ended_lines ls) ≤ 37 * length ls
unfolding ended_lines
text_length [] a = omega arith
text_length (l ∷ ls) a = omega (arith, length-append l (10 ∷ ended_lines ls), text_length ls a.1, a.0.short)

-- ---- the whole text

board_form : read_form (opening_line board_word) ≡ Is.Board
unfolding opening_line read_form form_of form_opened form_found form_after if_last no_word line_words spaced pieces joined non_empty find_word find_from same
board_form = refl

close_form : read_form closing_line ≡ Is.Close
unfolding read_form form_of if_last no_word line_words spaced pieces joined non_empty same
close_form = refl

heads_read : (h k : ℕ) (rest : List (List ℕ)) → (1 ≤ h) × (h ≤ 1024) → (1 ≤ k) × (k ≤ 128) →
    read_from 1 start (opening_line board_word ∷ inner_line rows_word (h ∷ []) ∷ inner_line tracks_word (k ∷ []) ∷ rest) ≡ read_from 4 (filled (empty_job (board_of h k))) rest
unfolding read_from step follow at_start at_opened at_sized unless
heads_read h k rest r t =
    rw (board_form, rows_form h (omega arith), (within_is 1 1024 h).1 r, tracks_form k (omega arith), (within_is 1 128 k).1 t)

close_read : (n : ℕ) (job : Job) → read_from n (filled job) (closing_line ∷ []) ≡ accepted job
unfolding read_from step follow at_filled ended
close_read n job = rw close_form

-- the text has a line for each net and block, the first three and the last, and no other
pub lines_count : (job : Job) → length (house_lines job) ≡ 4 + length job.nets + length job.blocks
unfolding house_lines
lines_count job =
    omega (
      arith,
      length-append (map (net_line job.board) job.nets) (map block_line (sort_blocks job.blocks) ++ (closing_line ∷ [])),
      length-append (map block_line (sort_blocks job.blocks)) (closing_line ∷ []),
      length-map job.nets (net_line job.board),
      length-map (sort_blocks job.blocks) block_line,
      sorted_length job.blocks,
    )

module _ (job : Job) (a : AcceptedJob job) where
  blocks_good : Each (BlockInRange job.board) (sort_blocks job.blocks)
  blocks_good = sorted_each (BlockInRange job.board) job.blocks (Each-each job.blocks a.blocks_each)

  lines_short : Each ShortLine (house_lines job)
  unfolding house_lines opening_line in_word all_of
  lines_short =
      let b = a.board_range in
      let size : (w : List ℕ) (x : ℕ) → all_of in_word w ≡ true → length w ≤ 6 → x < 10000 → ShortLine (inner_line w (x ∷ [])) =
      λ w x p l h. record { plain = plain_inner w (x ∷ []) p; short = omega (arith, inner_length w (x ∷ []) (h, tt)) } in (
        record { plain = refl; short = omega arith },
        (
          size rows_word job.board.rows refl (omega arith) (omega arith),
          (
            size tracks_word job.board.tracks refl (omega arith) (omega arith),
            Each-join ShortLine (map (net_line job.board) job.nets) _
                (Each-mapped (net_line job.board) ShortLine job.nets (Each-each job.nets (λ n i. net_short job.board n b (a.nets_each n i))))
                (Each-join ShortLine (map block_line (sort_blocks job.blocks)) _
                (Each-mapped block_line ShortLine (sort_blocks job.blocks) (Each-map (sort_blocks job.blocks) (λ c r. block_short job.board c b r) blocks_good))
                (record { plain = refl; short = omega arith }, tt)),
          ),
        ),
      )

  -- the fixed text is short
  pub house_length : length (house_text job) ≤ 28564
  unfolding house_text
  house_length = omega (arith, text_length (house_lines job) lines_short, lines_count job, a.nets_count, a.blocks_count)

  house_lines_lem : lines (house_text job) ≡ house_lines job
  unfolding house_text
  house_lines_lem = lines_ended (house_lines job) (Each-map (house_lines job) (λ l s. s.plain) lines_short)

  -- reading the fixed text gives the same board and nets, and the same blocks in the order of the text
  pub house_read : read_job (house_text job) ≡ accepted (house_job job)
  unfolding read_job house_lines
  house_read =
      let b = a.board_range in
      let behind = map block_line (sort_blocks job.blocks) ++ (closing_line ∷ []) in
      let h = heads_read job.board.rows job.board.tracks (map (net_line job.board) job.nets ++ behind) b.rows_range b.tracks_range in
      let n = nets_read 4 job.board [] job.nets job.blocks behind a in
      let c = blocks_read (4 + length job.nets) job.board job.nets [] (sort_blocks job.blocks) (closing_line ∷ []) b blocks_good
      (omega (arith, sorted_length job.blocks, a.blocks_count)) in
      rw (le-leb (length (house_text job)) 64000 (omega (arith, house_length)), house_lines_lem)
      (h ∙ n ∙ c ∙ close_read (4 + length job.nets + length (sort_blocks job.blocks)) (house_job job))

-- and so at most 64,000 bytes long
pub house_short : (job : Job) → AcceptedJob job → length (house_text job) ≤ 64000
house_short job a = omega (arith, house_length job a)

-- a text is read as one job
pub read_one : {x y : Job} → accepted x ≡ accepted y → x ≡ y
read_one e = cc

-- two accepted jobs have the same text exactly where they agree in board and nets and hold the same blocks equally often
pub one_text : (j k : Job) → AcceptedJob j → AcceptedJob k → (house_text j ≡ house_text k) ↔ SameJob j k
unfolding house_text house_lines
one_text j k a b = (
  λ e.
      let q : house_job j ≡ house_job k = read_one (sym (house_read j a) ∙ ap read_job e ∙ house_read k b) in
      record {
        board_same = ap (λ (x : Job). x.board) q;
        nets_same = ap (λ (x : Job). x.nets) q;
        blocks_same = same_sorted j.blocks k.blocks (ap (λ (x : Job). x.blocks) q);
      },
  λ s. rw (s.board_same, s.nets_same, sort_same j.blocks k.blocks s.blocks_same),
)

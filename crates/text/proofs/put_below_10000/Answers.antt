-- `text::put_below_10000` meets its contract: the digits of a tenth, and one more, step by step. Assumes nothing.
use mathlib.Core.List.{List}
use Prim.Native.Nat.{ℕ, ◌/◌, ◌<◌}
use native.Mathlib.Omega.{arith}
use Rattle.text.proofs.Numbers.{start, some_digits}
use Rattle.text.proofs.Writing.{lead_first, lead_next, last_digit, start_fits, start_grows, room}
use Rattle.text.specs.Digits.{lead}
use Rattle.text.specs.Written.{Written, WrittenAt}
use Rattle.text.proofs.put_below_10000.Goals as goal

pub put_lead-a-requires : goal.put_lead-a-requires
put_lead-a-requires c = omega (arith, some_digits c.args.n)

pub put_lead-b-requires : goal.put_lead-b-requires
put_lead-b-requires c =
    let n = c.args.n in
    room (lead_first (n / 10 / 10 / 10) (omega arith) c.put_lead-a.ensures) (omega (arith, start_fits n c.args.out.now (omega arith), start_grows (n / 10), start_grows (n / 10 / 10)))

pub put_lead-c-requires : goal.put_lead-c-requires
put_lead-c-requires c =
    let n = c.args.n in
    room (lead_next (n / 10 / 10) (lead_first (n / 10 / 10 / 10) (omega arith) c.put_lead-a.ensures) c.put_lead-b.ensures) (omega (arith, start_fits n c.args.out.now (omega arith), start_grows (n / 10)))

-- what the three calls have written
three :
    (n : ℕ) {s t u v : List ℕ} {i j k : ℕ} →
    n < 10000 →
    WrittenAt 0 (lead (n / 10 / 10 / 10)) s t i →
    WrittenAt i (lead (n / 10 / 10)) t u j →
    WrittenAt j (lead (n / 10)) u v k →
    Written (start (n / 10)) s v k
three n h x y z = lead_next (n / 10) (lead_next (n / 10 / 10) (lead_first (n / 10 / 10 / 10) (omega arith) x) y) z

pub bounds-out-c : goal.bounds-out-c
bounds-out-c c = room (three c.args.n (omega arith) c.put_lead-a.ensures c.put_lead-b.ensures c.put_lead-c.ensures) (start_fits c.args.n c.args.out.now (omega arith))

pub overflow_add-result : goal.overflow_add-result
overflow_add-result c = let h = bounds-out-c c in omega arith

pub returns : goal.returns
returns c = last_digit c.args.n (bounds-out-c c) (three c.args.n (omega arith) c.put_lead-a.ensures c.put_lead-b.ensures c.put_lead-c.ensures)

-- One more pair stores one more line, and nine bytes for each byte of input are room enough.
use Rattle.std.proofs.Common.{◌≡◌, ◌∙◌, ◌+◌, ◌*◌, ◌/◌, ◌≤◌, ℕ, List, [], length, take, slice_index_or, refl, sym, ap, arith}
use borrow.Author.Tests.{eqb-false}
use lib.Seq.{length-take-le}
use Rattle.numbers.specs.Numbers.{signed}
use Rattle.chart.specs.Chart.{line, lines, Stored}
use Rattle.chart.proofs.Stores.{then, reads_as, room}
use Rattle.chart.proofs.Lines.{Bytes, bytes_take, pair_at, lines-length, lines_more, lines_odd}
use Rattle.chart.proofs.put_lines.Goals as goal

pub loop-high-init : goal.loop-high-init
unfolding lines
loop-high-init c = record { after = refl; stored = refl }

-- what the lines of k pairs of xs leave
left : {out out' : List ℕ} {at : ℕ} (xs : List ℕ) (k n : ℕ) → Bytes xs → Stored out 0 (lines (take (2 * k) xs)) out' at → 9 * length xs ≤ length out → 2 * k + n ≤ length xs → at + 9 * n ≤ length out'
left xs k n b s l h =
    let t = lines-length (take (2 * k) xs) (bytes_take (2 * k) xs b) in
    room s (9 * length xs) (9 * n) (omega (arith, t, length-take-le (2 * k) xs (omega arith))) (omega arith)

pub put_line-at-requires : goal.put_line-at-requires
put_line-at-requires c =
    let two : 2 * c.loop-high.high-index + 2 ≤ length c.args.input.now = omega (arith, c.as_chunks.ensures.front_len) in
    omega (arith, left c.args.input.now c.loop-high.high-index 2 (λ i. omega (arith, c.type_inv.input i)) c.loop-high.invariant c.requires two)

pub loop-high-preserved : goal.loop-high-preserved
loop-high-preserved c =
    let i = c.loop-high.high-index in
    let xs = c.args.input.now in
    let pair = pair_at i (length xs / 2) xs (omega (arith, c.as_chunks.ensures.front_len)) in
    let high = ap (λ l. slice_index_or (slice_index_or l i []) 0 0) c.as_chunks.ensures.front ∙ pair.0 in
    let low = ap (λ l. slice_index_or (slice_index_or l i []) 1 0) c.as_chunks.ensures.front ∙ pair.1 in
    reads_as (sym (lines_more xs i (omega (arith, c.as_chunks.ensures.front_len))))
    (then c.loop-high.invariant (reads_as (λ j. line (signed 16 (256 * high j + low j))) c.put_line-at.ensures))

pub put-at-requires : goal.put-at-requires
put-at-requires c =
    let some = eqb-false _ 0 (sym c.is_empty.ensures ∙ c.if-not-is_empty.true) in
    let one : 2 * c.loop-high.high-index + 1 ≤ length c.args.input.now = omega (arith, c.as_chunks.ensures.front_len, c.as_chunks.ensures.back_len) in
    omega (arith, left c.args.input.now c.loop-high.high-index 1 (λ i. omega (arith, c.type_inv.input i)) c.loop-high.invariant c.requires one)

pub returns-then-not-is_empty : goal.returns-then-not-is_empty
returns-then-not-is_empty c =
    let some = eqb-false _ 0 (sym c.is_empty.ensures ∙ c.if-not-is_empty.true) in
    let odd : length c.args.input.now ≡ 2 * c.loop-high.high-index + 1 = omega (arith, c.as_chunks.ensures.front_len, c.as_chunks.ensures.back_len) in
    reads_as (lines_odd c.args.input.now c.loop-high.high-index odd) (then c.loop-high.invariant c.put-at.ensures)

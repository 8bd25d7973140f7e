-- The output has room for the chart of all that was read, and that is the chart of the whole input: so what holds of the bytes that are
-- written holds of the chart, whether all of them are written or a part. Assumes nothing.
use Rattle.std.proofs.Common.{◌≡◌, ◌∙◌, ℕ, ◌*◌, ◌<◌, ◌≤◌, List, Option, Some, None, IfSome, Result, Ok, Err, OnErr, sym, ap, subst, arith, length, take}
use lib.Seq.{length-take-le}
use Rattle.std.specs.Io.KnownBytes.{Appends, Consumes, IsAtEnd}
use Rattle.streams.specs.Parts.{AppendsPart}
use Rattle.chart.specs.Chart.{chart_of, chart_answer, chart_output}
use Rattle.chart.proofs.Answers.{written_within, answer_is, written_is, same_chart}
use Rattle.chart_io.proofs.write_chart.Goals as goal

-- the first n bytes of the input's buffer, and the output
module _ (input out : List ℕ) (n : ℕ) (all : length input ≡ 65537) (within : n ≤ length input) (space : 589833 ≡ length out) where
  count : length (take n input) ≡ n
  count = length-take-le n input within

  room : 9 * length (take n input) ≤ length out
  room = omega (arith, count)

  of_all : (P : List ℕ → Type 0) (a b : Option (List ℕ)) {out' : List ℕ} {k : ℕ} → Consumes a b (take n input) → (n < length input → IsAtEnd b)
      → Some k ≡ chart_answer (take n input) out → out' ≡ chart_output (take n input) out → P (take k out') → IfSome a (λ bytes. P (chart_of bytes))
  of_all P None b p q e f w = tt
  of_all P (Some xs) None p q e f w = absurd p
  of_all P (Some xs) (Some ys) p q e f w =
      subst P (written_is (take n input) out room e f ∙ same_chart (take n input) ys (λ l. q (omega (arith, count))) ∙ ap chart_of (sym p)) w

-- what holds whatever the error is
on_err : {T E : Type 0} (P : Type 0) (r : Result T E) → P → OnErr r P
on_err P (Ok x) p = tt
on_err P (Err e) p = p

pub slice_bounds-out-end : goal.slice_bounds-out-end
slice_bounds-out-end g c = written_within _ _ _ _ (sym c.in-Some.ensures.value) c.chart.ensures.out_after c.chart.auto.out

pub slice_bounds-write_full-end : goal.slice_bounds-write_full-end
slice_bounds-write_full-end g c =
    sym (length-take-le _ _ (written_within _ _ _ _ (sym c.in-Some.ensures.value) c.chart.ensures.out_after c.chart.auto.out))

pub returns-in_ok-write_full-clause-ok : goal.returns-in_ok-write_full-clause-ok
returns-in_ok-write_full-clause-ok g c =
    of_all c.read_full.new.buffer c.zeros-out.result c.in_ok-n.n (omega (arith, c.read_full.auto.buffer)) c.in_ok-n.ensures.bound c.zeros-out.ensures
    (Appends _ _) _ _ c.in_ok-n.ensures.bytes c.in_ok-n.ensures.end c.in-Some.ensures.value c.chart.ensures.out_after c.in_ok-write_full.ensures.ok

pub returns-in_err-write_full-clause-err : goal.returns-in_err-write_full-clause-err
returns-in_err-write_full-clause-err g c =
    on_err _ _ (of_all c.read_full.new.buffer c.zeros-out.result c.in_ok-n.n (omega (arith, c.read_full.auto.buffer)) c.in_ok-n.ensures.bound c.zeros-out.ensures
    (AppendsPart _ _) _ _ c.in_ok-n.ensures.bytes c.in_ok-n.ensures.end c.in-Some.ensures.value c.chart.ensures.out_after c.in_err-write_full.ensures.err)

pub returns-in_default-clause-ok : goal.returns-in_default-clause-ok
returns-in_default-clause-ok g c =
    let fits = room c.read_full.new.buffer c.zeros-out.result c.in_ok-n.n (omega (arith, c.read_full.auto.buffer)) c.in_ok-n.ensures.bound c.zeros-out.ensures in
    absurd (c.in_default.not-Some _ (c.chart.ensures.value ∙ answer_is (take c.in_ok-n.n c.read_full.new.buffer) c.zeros-out.result fits))

-- What a caller of `chart` reads off the answer: the bytes of a chart that was written are within the output, and are the chart; and that the
-- chart of the first 65,537 bytes of an input is the chart of all. Assumes nothing.
use mathlib.Core.Path.{◌≡◌, sym, ap, ◌∙◌}
use mathlib.Core.Bool.{Bool, true, false, cond}
use mathlib.Core.List.{List, [], ◌++◌, append-nil}
use Prim.Native.Nat.{ℕ, ◌*◌, ◌<◌, ◌≤◌}
use native.Mathlib.Omega.{arith}
use borrow.Author.Tests.{lt-ltb, le-ltb}
use lib.Dec.{ltb}
use Rattle.std.specs.declared.option.Option.TheVariants.{Some, None}
use lib.ListN.{length, take, drop, length-append, length-drop}
use lib.Seq.{take-append_seam}
use Rattle.numbers.proofs.Tests.{cases}
use Rattle.chart.specs.Chart.{chart_of, chart_answer, chart_output}

-- by the test for room: an output that keeps its length has all of the chart in it
by_test : (b : Bool) (t out out' : List ℕ) (k : ℕ) → cond b None (Some (length t)) ≡ Some k → out' ≡ cond b out (t ++ drop (length t) out) → length out' ≡ length out → k ≤ length out'
by_test true t out out' k e f l = absurd (let z : ◌≡◌ {A = ℕ} 0 1 = cc in let n : ⊥ = omega arith in n)
by_test false t out out' k e f l =
    let same : length t ≡ k = cc in
    omega (arith, simp (length-append, length-drop) at (ap length f))

pub written_within : (input out out' : List ℕ) (k : ℕ) → chart_answer input out ≡ Some k → out' ≡ chart_output input out → length out' ≡ length out → k ≤ length out'
unfolding chart_answer chart_output
written_within input out out' k e f l = by_test (ltb (length out) (9 * length input)) (chart_of input) out out' k e f l

-- what is read of a longer input is too long as well
pub same_chart : (got rest : List ℕ) → (length got < 65537 → rest ≡ []) → chart_of got ≡ chart_of (got ++ rest)
unfolding chart_of
same_chart got rest h = cases 65536 (length got) (chart_of got ≡ chart_of (got ++ rest))
    (λ l. rw (lt-ltb 65536 (length got) l, lt-ltb 65536 (length (got ++ rest)) (simp length-append (omega arith))))
    (λ l. ap chart_of (sym (append-nil got)) ∙ ap (λ (t : List ℕ). chart_of (got ++ t)) (sym (h (omega arith))))

module _ (input out : List ℕ) (l : 9 * length input ≤ length out) where
  pub answer_is : chart_answer input out ≡ Some (length (chart_of input))
  unfolding chart_answer
  answer_is = rw (le-ltb (length out) (9 * length input) l)

  -- what was written is the chart
  pub written_is : {out' : List ℕ} {k : ℕ} → Some k ≡ chart_answer input out → out' ≡ chart_output input out → take k out' ≡ chart_of input
  unfolding chart_output
  written_is {out'} {k} e f =
      let same : Some k ≡ Some (length (chart_of input)) = e ∙ answer_is in
      let n : k ≡ length (chart_of input) = cc in
      rw (n, f, le-ltb (length out) (9 * length input) l) (take-append_seam (chart_of input) _)

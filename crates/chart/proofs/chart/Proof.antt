-- `chart::chart` meets its contract: without room it does nothing, and with room it stores the chart,
-- which fits. Assumes nothing.
-- A walk and no answers: both clauses stay open at each of three returns, and an answer there would be named after the limit 65536, which an edit changes.
use mathlib.Core.Path.{◌≡◌, refl, ap, ◌∙◌}
use mathlib.Core.List.{List, ◌++◌}
use Prim.Native.Nat.{ℕ, ◌*◌, ◌<◌, ◌≤◌}
use native.Mathlib.Nat.{zero-add}
use native.Mathlib.Omega.{arith}
use borrow.Author.Rules.{rules}
use borrow.Author.Tests.{lt-ltb, le-ltb}
use lib.ListN.{length, drop}
use lib.Seq.{sets-eq}
use Rattle.std.specs.declared.option.Option.{Option}
use Rattle.std.specs.declared.option.Option.TheVariants.{Some, None}
use Rattle.chart.specs.Chart.{too_long, lines, chart_of, chart_answer, chart_output, Stored}
use Rattle.chart.proofs.Lines.{Bytes, lines-length}
use Rattle.chart.proofs.chart.Statement.{statement}
use Rattle.chart.proofs.chart.Tie as tie

-- ---- the chart: of an input that is too long, and of another

too_long_chart : (input : List ℕ) → 65536 < length input → chart_of input ≡ too_long
unfolding chart_of
too_long_chart input h = rw (lt-ltb 65536 (length input) h)

lines_chart : (input : List ℕ) → length input ≤ 65536 → chart_of input ≡ lines input
unfolding chart_of
lines_chart input h = rw (le-ltb 65536 (length input) h)

-- ---- what the call answers, and leaves in the output

module _ (input out : List ℕ) where
  abbrev IsMet : Option ℕ → List ℕ → Type 0
  IsMet answer out' = (answer ≡ chart_answer input out) × (out' ≡ chart_output input out)

  no_room : length out < 9 * length input → IsMet None out
  unfolding chart_answer chart_output
  no_room h = rw (lt-ltb (length out) (9 * length input) h) (refl, refl)

  module _ {out' : List ℕ} {r : ℕ} (h : 9 * length input ≤ length out) where
    -- the text t is the chart, and fits
    written : {t : List ℕ} → chart_of input ≡ t → length t ≤ 9 * length input
        → Stored out 0 t out' r → IsMet (Some r) out'
    unfolding chart_answer chart_output
    written {t} e k s =
        rw (le-ltb (length out) (9 * length input) h, e) (
          ap Some (s.after ∙ zero-add (length t)),
          s.stored
              ∙ sets-eq t out 0 (omega arith)
              ∙ ap (λ (n : ℕ). t ++ drop n out) (zero-add (length t)),
        )

    too_long_written : 65536 < length input → Stored out 0 too_long out' r → IsMet (Some r) out'
    too_long_written l s = written (too_long_chart input l) (omega arith) s

    lines_written : length input ≤ 65536 → Bytes input → Stored out 0 (lines input) out' r
        → IsMet (Some r) out'
    lines_written l b s = written (lines_chart input l) (lines-length input b) s

-- no test is named, so that an edit of one is refused for its fact
pub chart_spec : {M : Type 1} → statement M
chart_spec =
    tie.close
    (tie.spec
    (λ c. no_room _ _ (omega arith))
    (λ c κs. omega arith)
    (λ c. search rules)
    (λ c. too_long_written _ _ (omega arith) (omega arith) c.put.ensures)
    (λ c κs. omega arith)
    (λ c. search rules)
    (λ c. lines_written _ _ (omega arith) (omega arith) (search rules) c.put_lines.ensures))

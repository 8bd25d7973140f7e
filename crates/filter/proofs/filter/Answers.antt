-- `filter::filter`: each output is its pole's, of the output before it.
use Rattle.std.proofs.Common.{◌≡◌, ap, ◌∙◌, ℕ, ◌/◌, ℤ}
use mir.Syntax.{w32}
use Rattle.numbers.proofs.Local.{held, bits-held}
use Rattle.filter.specs.declared.Poles.{Poles}
use Rattle.filter.specs.Filter.{low_pass, pole3, pole4, coefficient, filtered}
use Rattle.filter.proofs.filter.Goals as goal

-- four outputs, each its pole's of the one before
in_a_row : (cr K₁ K₂ : ℕ) (x : ℤ) (p : Poles) {y₁ y₂ y₃ y₄ : ℤ} → y₁ ≡ low_pass (K₁ / 16) x p.o1 → y₂ ≡ low_pass (K₁ / 16) y₁ p.o2
    → y₃ ≡ pole3 cr (K₁ / 16) (K₂ / 16) y₂ p.o2 p.o3 → y₄ ≡ pole4 cr (K₂ / 16) y₃ p.o3 p.o4
    → ◌≡◌ {A = Poles} (record { o1 = y₁; o2 = y₂; o3 = y₃; o4 = y₄ }) (filtered cr K₁ K₂ x p)
unfolding filtered coefficient
in_a_row cr K₁ K₂ x p e₁ e₂ e₃ e₄ =
    let f₂ = e₂ ∙ ap (λ (y : ℤ). low_pass (K₁ / 16) y p.o2) e₁ in
    let f₃ = e₃ ∙ ap (λ (y : ℤ). pole3 cr (K₁ / 16) (K₂ / 16) y p.o2 p.o3) f₂ in
    let f₄ = e₄ ∙ ap (λ (y : ℤ). pole4 cr (K₂ / 16) y p.o3 p.o4) f₃ in
    λ i. record { o1 = e₁ i; o2 = f₂ i; o3 = f₃ i; o4 = f₄ i }

pub returns : goal.returns
returns c =
    let a = c.args in
    let o = c.requires.poles_fit in
    let x = (held w32 tt c.requires.x_fits).is in
    let o1 = (held w32 tt o.o1).is in
    let o2 = (held w32 tt o.o2).is in
    let o3 = (held w32 tt o.o3).is in
    let o4 = (held w32 tt o.o4).is in
    let y1 = (held w32 tt c.y1.invariant).is ∙ c.y1.view_is in
    let y2 = (held w32 tt c.y2.invariant).is ∙ c.y2.view_is in
    let y3 = (held w32 tt c.y3.invariant).is ∙ c.y3.view_is in
    let y4 = (held w32 tt c.y4.invariant).is ∙ c.y4.view_is in (
      (λ i. record { o1 = y1 i; o2 = y2 i; o3 = y3 i; o4 = y4 i })
          ∙ in_a_row a.cr a.k1 a.k2 a.x a.p
          (c.low_pass-y1.ensures ∙ (λ i. low_pass (a.k1 / 16) (x i) (o1 i)))
          (c.low_pass-y2.ensures ∙ ap (low_pass (a.k1 / 16) c.low_pass-y1.result) o2)
          (c.third-y3.ensures ∙ (λ i. pole3 a.cr (a.k1 / 16) (a.k2 / 16) c.low_pass-y2.result (o2 i) (o3 i)))
          (c.fourth-y4.ensures ∙ (λ i. pole4 a.cr (a.k2 / 16) c.third-y3.result (o3 i) (o4 i))),
      record { o1 = bits-held w32 tt c.y1.invariant; o2 = bits-held w32 tt c.y2.invariant; o3 = bits-held w32 tt c.y3.invariant; o4 = bits-held w32 tt c.y4.invariant },
    )

-- Six values on each side, read back from their bits, and the bytes of the two sums.
use Rattle.std.proofs.Common.{◌≡◌, ℕ, ◌+◌, ◌*◌, ◌<◌, ◌^◌, List, [], ◌∷◌, ◌∙◌, refl, ap, get_or, ℤ, pos, arith}
use Rattle.std.specs.Prelude.{◌+ℤ◌}
use Rattle.std.specs.Int.{w16, w32, to_le_bytes}
use lib.Signed.{mag}
use mir.Val.{to_z, of_z, hbits}
use Rattle.numbers.specs.Numbers.{word}
use Rattle.numbers.proofs.Local.{back}
use Rattle.layout.specs.Bytes.{little_bytes}
use Rattle.scores.specs.Sound.{side_of, heard_of, sample_bytes}
use Rattle.scores.proofs.sample_bytes.Goals as goal

abbrev small : ℤ → Type 0
small z = mag z < 2 ^ hbits w32

read : (values : List ℤ) (side : ℕ) → small (get_or values (2 * 0 + side) (pos 0)) → small (get_or values (2 * 1 + side) (pos 0))
    → small (get_or values (2 * 2 + side) (pos 0)) → small (get_or values (2 * 3 + side) (pos 0)) → small (get_or values (2 * 4 + side) (pos 0))
    → small (get_or values (2 * 5 + side) (pos 0))
    → (let of : ℕ → ℤ = λ channel. to_z w32 (of_z w32 (get_or values (2 * channel + side) (pos 0))) in of 0 +ℤ of 1 +ℤ of 2 +ℤ of 3 +ℤ of 4 +ℤ of 5) ≡ side_of side values
unfolding side_of
read values side g₀ g₁ g₂ g₃ g₄ g₅ =
    let at : ℕ → ℤ = λ channel. get_or values (2 * channel + side) (pos 0) in
    let e : (k : ℕ) → small (at k) → to_z w32 (of_z w32 (at k)) ≡ at k = λ k h. back w32 h in
    λ i. e 0 g₀ i +ℤ e 1 g₁ i +ℤ e 2 g₂ i +ℤ e 3 g₃ i +ℤ e 4 g₄ i +ℤ e 5 g₅ i

joined : (values : List ℤ) (l r : List ℕ) (a b : ℕ) → a ≡ word 16 (heard_of (side_of 0 values)) → b ≡ word 16 (heard_of (side_of 1 values))
    → l ≡ to_le_bytes w16 a → r ≡ to_le_bytes w16 b → get_or l 0 0 ∷ get_or l 1 0 ∷ get_or r 0 0 ∷ get_or r 1 0 ∷ [] ≡ sample_bytes values
unfolding little_bytes sample_bytes
joined values l r a b ea eb el er = rw (el, er, ea, eb) refl

pub returns : goal.returns
returns c =
    let out = c.args.out.now in
    let heard : ℤ → ℕ = λ z. word 16 (heard_of z) in
    joined out _ _ _ _
    (c.heard.ensures ∙ ap heard (read out 0 (omega arith) (omega arith) (omega arith) (omega arith) (omega arith) (omega arith)))
    (c.heard-2.ensures ∙ ap heard (read out 1 (omega arith) (omega arith) (omega arith) (omega arith) (omega arith) (omega arith)))
    c.to_le_bytes-l.ensures c.to_le_bytes-r.ensures

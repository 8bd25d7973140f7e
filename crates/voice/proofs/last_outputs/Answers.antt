-- `voice::last_outputs` meets its contract: each output is its word's number, of 18 bits. Assumes nothing.
use mathlib.Core.Path.{◌≡◌, refl, subst, sym}
use Prim.Native.Nat.{ℕ, ◌<◌, ◌^◌}
use lib.Dec.{lit<}
use lib.IntN.{ℤ}
use lib.Signed.{mag}
use mir.Syntax.{w32}
use mir.Val.{to_z, of_z, hbits}
use Rattle.numbers.specs.Numbers.{signed, Bits}
use Rattle.numbers.proofs.Words.{signed-bits}
use Rattle.numbers.proofs.Local.{handed}
use Rattle.voice.specs.Turn.{last_outputs}
use Rattle.voice.proofs.last_outputs.Goals as goal

-- what `number_of` gave for a word of 18 bits
number : (w : ℕ) {r : ℤ} → w < 262144 → mag r < 2 ^ hbits w32 → r ≡ signed 18 w → (to_z w32 (of_z w32 r) ≡ signed 18 w) × Bits 18 (to_z w32 (of_z w32 r))
number w h f e = handed w32 (Bits 18) f (e, subst (Bits 18) (sym e) (signed-bits 18 w (lit< tt) h)) refl

pub returns : goal.returns
unfolding last_outputs
returns c =
    let n1 = number _ c.requires.o1n1 c.number_of.type_inv c.number_of.ensures in
    let n2 = number _ c.requires.o2n1 c.number_of-2.type_inv c.number_of-2.ensures in
    let n3 = number _ c.requires.o3n1 c.number_of-3.type_inv c.number_of-3.ensures in
    let n4 = number _ c.requires.o4n1 c.number_of-4.type_inv c.number_of-4.ensures in
    (λ i. record { o1 = n1.0 i; o2 = n2.0 i; o3 = n3.0 i; o4 = n4.0 i }, record { o1 = n1.1; o2 = n2.1; o3 = n3.1; o4 = n4.1 })

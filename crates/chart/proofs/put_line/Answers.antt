-- The sample, its code and the code's value are the numbers of the line, and each field leaves room for those after it.
use Rattle.std.proofs.Common.{◌≡◌, ◌∙◌, ◌+◌, ◌*◌, ◌-◌, ◌<◌, ◌≤◌, ◌++◌, ℕ, suc, ℤ, pos, List, length, sym, ap, subst, length-append, arith, w16, to_z, of_z}
use lib.Signed.{mag}
use borrow.Author.Tests.{lt-ltb, le-ltb}
use Rattle.numbers.specs.Numbers.{signed, Bits}
use Rattle.numbers.proofs.Tests.{cases}
use Rattle.numbers.proofs.Difference.{is_neg}
use Rattle.numbers.proofs.Words.{pos-sub, signed-bits}
use Rattle.numbers.proofs.Local.{back}
use Rattle.codes.specs.Codes.{value_of, code_of, Compressed}
use Rattle.codes.proofs.Samples.{compressed_is}
use Rattle.chart.specs.Chart.{Stored}
use Rattle.chart.proofs.Stores.{then, reads_as, room}
use Rattle.chart.proofs.Lines.{sample_low, sample_length, code_length, field, line_fields}
use Rattle.chart.proofs.put_line.Goals as goal

-- the number of 16 bits, as `i16` has it
sixteen : (n : ℕ) → n < 65536 → to_z w16 n ≡ signed 16 n
unfolding signed
sixteen n h = cases n 32768 (to_z w16 n ≡ signed 16 n)
    (λ l. rw (lt-ltb n 32768 l))
    (λ l. rw (le-ltb n 32768 l) (sym (pos-sub n 65536 ∙ is_neg n 65536 (65536 - suc n) (omega arith))))

module _ {high low : ℕ} (h : high < 256) (l : low < 256) where
  abbrev sample : ℤ
  sample = signed 16 (256 * high + low)

  bits : Bits 16 sample
  bits = signed-bits 16 (256 * high + low) (omega arith) (omega arith)

  -- ---- the numbers: of the bytes; of its code; of the code's value

  first : {v : ℤ} → mag v < 32768 → v ≡ to_z w16 (high * 256 + low) → to_z w16 (of_z w16 v) ≡ sample
  first f e =
      let turned : high * 256 + low ≡ 256 * high + low = omega arith in
      back w16 f ∙ e ∙ ap (to_z w16) turned ∙ sixteen (256 * high + low) (omega arith)

  code : {v : ℤ} {k : ℕ} → v ≡ sample → Compressed v k → k ≡ code_of sample
  code {k} e s = compressed_is (sample_low sample bits) (subst (λ (z : ℤ). Compressed z k) e s)

  second : {v : ℤ} {k : ℕ} → k ≡ code_of sample → mag v < 32768 → v ≡ pos k → to_z w16 (of_z w16 v) ≡ pos (code_of sample)
  second k f e = back w16 f ∙ e ∙ ap pos k

  third : {v : ℤ} {k : ℕ} → k ≡ code_of sample → mag v < 32768 → v ≡ value_of k → to_z w16 (of_z w16 v) ≡ value_of (code_of sample)
  third k f e = back w16 f ∙ e ∙ ap value_of k

  -- ---- the room after one of them, and after two

  after_one : {out out' : List ℕ} {at r : ℕ} → Stored out at (field sample 32) out' r → at + 18 ≤ length out → r + 7 ≤ length out'
  after_one s fits = room s 18 7 (simp length-append (omega (arith, sample_length sample bits))) fits

  after_two : {out out' : List ℕ} {at r : ℕ} → Stored out at (field sample 32 ++ field (pos (code_of sample)) 32) out' r → at + 18 ≤ length out → r + 7 ≤ length out'
  after_two s fits = room s 18 7 (simp length-append (omega (arith, sample_length sample bits, code_length sample bits))) fits

-- a field of one number is that of an equal one
of : {out out' : List ℕ} {at r : ℕ} {y z : ℤ} (end : ℕ) → y ≡ z → Stored out at (field y end) out' r → Stored out at (field z end) out' r
of end e s = reads_as (ap (λ (z : ℤ). field z end) e) s

pub put_field-at_value-requires : goal.put_field-at_value-requires
put_field-at_value-requires c =
    let high : c.args.high < 256 = omega arith in
    let low : c.args.low < 256 = omega arith in
    let e = first high low c.from_be_bytes-sample.type_inv c.from_be_bytes-sample.ensures in
    omega (arith, after_one high low (of 32 e c.put_field-at_code.ensures) c.requires)

pub put_field-requires : goal.put_field-requires
put_field-requires c =
    let high : c.args.high < 256 = omega arith in
    let low : c.args.low < 256 = omega arith in
    let e = first high low c.from_be_bytes-sample.type_inv c.from_be_bytes-sample.ensures in
    let f = second high low (code high low e c.compress-code.ensures) c.from.type_inv c.from.ensures in
    omega (arith, after_two high low (then (of 32 e c.put_field-at_code.ensures) (of 32 f c.put_field-at_value.ensures)) c.requires)

pub returns : goal.returns
returns c =
    let high : c.args.high < 256 = omega arith in
    let low : c.args.low < 256 = omega arith in
    let e = first high low c.from_be_bytes-sample.type_inv c.from_be_bytes-sample.ensures in
    let k = code high low e c.compress-code.ensures in
    let f = second high low k c.from.type_inv c.from.ensures in
    let g = third high low k c.expand.type_inv c.expand.ensures in
    reads_as (line_fields (signed 16 (256 * c.args.high + c.args.low)))
    (then (then (of 32 e c.put_field-at_code.ensures) (of 32 f c.put_field-at_value.ensures)) (of 10 g c.put_field.ensures))

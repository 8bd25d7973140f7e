-- A loop as the registers of a voice, where the first sample of its file is put into a word of
-- sample memory. In order: a sample's place; START; END; the loop bits. Assumes nothing.
use Rattle.std.specs.Prelude.{ℕ, ◌+◌, ◌*◌, ◌%◌, if◌then◌else◌, ◌==◌, Option, Some, None}
use Rattle.control.specs.Control.{with_bit, lpe_bit, ble_bit, dir_bit}
use Rattle.sample.specs.Sample.{bank_words, whole_sample}
use Rattle.wave.specs.declared.Loop.{Loop}

-- a sample's place in the bank of the word, as START and END have it
abbrev pub register_at : ℕ → ℕ → ℕ
register_at word sample = (word % bank_words + sample) * whole_sample

unfoldable pub start_of : ℕ → Option Loop → ℕ
start_of word None = 0
start_of word (Some l) = register_at word l.start

-- where the sample after the last one of the loop begins
unfoldable pub end_of : ℕ → Option Loop → ℕ
end_of word None = 0
end_of word (Some l) = register_at word (l.last + 1)

-- the loop bits at their places in CR, by the loop's type
--   0  one-directional                 LPE
--   1  bidirectional                   LPE, BLE
--   2  one-directional, in reverse     LPE, DIR
abbrev pub type_bits : ℕ → ℕ
type_bits type =
    let one = with_bit lpe_bit 1 0 in
    if type == 1 then with_bit ble_bit 1 one else if type == 2 then with_bit dir_bit 1 one else one

unfoldable pub loop_bits : Option Loop → ℕ
loop_bits None = 0
loop_bits (Some l) = type_bits l.form

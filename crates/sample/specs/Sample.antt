-- The sample of a voice: the two words that it fetches from sample memory, each with whether it was
-- there; how many were missing; what a word stands for, and the value between two. Assumes nothing.
use Rattle.std.specs.Prelude.{ℕ, ◌+◌, ◌*◌, ◌/◌, ◌%◌, Bool, true, false, if◌then◌else◌, Option, None}
use Rattle.std.specs.Prelude.{Some, List, nat_lt, ℤ, pos, ◌+ℤ◌, ◌-ℤ◌, ◌*ℤ◌, length, slice_index}
use Rattle.numbers.specs.Numbers.{floor_div, signed}
use Rattle.codes.specs.Codes.{value_of}
use Rattle.control.specs.Control.{flag_of, bank_of, cmpd_bit}

-- how many words a bank has, and how many the memory may have at most: four banks
abbrev pub bank_words : ℕ
bank_words = 2097152

abbrev pub most_memory_words : ℕ
most_memory_words = 4 * bank_words

-- so many words of memory are more than can be lent
abbrev pub too_many_words : ℕ → Bool
too_many_words n = nat_lt most_memory_words n

-- what one sample is in START, END and ACCUM, which also have a fraction of one
abbrev pub whole_sample : ℕ
whole_sample = 2048

-- a word that was asked for, 0 where it was not there, and whether it was; and the two words of a
-- fetch
pub record MemoryWord : Type 0 where
  pub bits : ℕ
  pub there : Bool

pub record Words : Type 0 where
  pub first : MemoryWord
  pub second : MemoryWord

-- as the code has a word: None is one that was not there
abbrev pub as_word : Option ℕ → MemoryWord
as_word None = record { bits = 0; there = false }
as_word (Some bits) = record { bits = bits; there = true }

-- a word of the lent memory, and whether it is there; one beyond the memory is 0, and is not
abbrev pub word_at : List ℕ → ℕ → MemoryWord
word_at memory i = record { bits = slice_index memory i; there = nat_lt i (length memory) }

-- the words of the first and of the second sample: one at ACCUM's whole part, in the voice's bank,
-- and the next, which wraps within the bank
unfoldable pub first_at : ℕ → ℕ → ℕ
first_at CR ACCUM = bank_of CR * bank_words + ACCUM / whole_sample

unfoldable pub second_at : ℕ → ℕ → ℕ
second_at CR ACCUM = bank_of CR * bank_words + (ACCUM / whole_sample + 1) % bank_words

unfoldable pub fetched : List ℕ → ℕ → ℕ → Words
fetched memory CR ACCUM =
    record {
      first = word_at memory (first_at CR ACCUM);
      second = word_at memory (second_at CR ACCUM);
    }

-- how many of the two were missing: each counts by itself, also where F is 0 and the second is not
-- heard
unfoldable pub missing_of : Words → ℕ
missing_of w = (if w.first.there then 0 else 1) + (if w.second.there then 0 else 1)

-- what a word stands for: a sample of 16 bits, or where CMPD is 1 the value of the code in its high
-- byte
unfoldable pub sample_of : ℕ → ℕ → ℤ
sample_of CR w = if flag_of cmpd_bit CR then value_of (w / 256) else signed 16 w

-- F: ACCUM's nine upper fractional bits
unfoldable pub fraction : ℕ → ℕ
fraction ACCUM = ACCUM % whole_sample / 4

-- X = 4 * S1 + F * (S2 - S1) / 128
unfoldable pub interpolated : ℕ → ℤ → ℤ → ℤ
interpolated F s₁ s₂ = pos 4 *ℤ s₁ +ℤ floor_div (pos F *ℤ (s₂ -ℤ s₁)) 128

-- the value between the two words fetched
unfoldable pub sampled : List ℕ → ℕ → ℕ → ℤ
sampled memory CR ACCUM =
    let w = fetched memory CR ACCUM in
    interpolated (fraction ACCUM) (sample_of CR w.first.bits) (sample_of CR w.second.bits)

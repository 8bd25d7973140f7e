-- The test of END: it is a number of whole samples, so it is past its register exactly where it has more than 32 bits. Assumes nothing.
use mathlib.Core.Path.{◌≡◌, refl, sym, ◌∙◌}
use Prim.Native.Nat.{ℕ, ◌+◌, ◌*◌, ◌%◌}
use native.Mathlib.Omega.{arith}
use borrow.Author.Tests.{lt-ltb, le-ltb, le-leb, lt-leb}
use lib.Dec.{leb, ltb}
use Rattle.std.specs.Prelude.{Option, Some, None}
use Rattle.numbers.proofs.Tests.{cases}
use Rattle.machine.specs.Words.{voice_range, end_word}
use Rattle.sample.specs.Sample.{bank_words, whole_sample}
use Rattle.wave_in.specs.Registers.{end_of}
use Rattle.wave.specs.declared.Loop.{Loop}

-- END is a number of whole samples, and so fits its register exactly where it has 32 bits
pub end_whole : (word : ℕ) (l : Option Loop) → (k : ℕ) × (end_of word l ≡ k * whole_sample)
unfolding end_of
end_whole word None = (0, refl)
end_whole word (Some l) = (word % bank_words + (l.last + 1), refl)

pub end_test : (word : ℕ) (l : Option Loop) → ltb 4294967295 (end_of word l) ≡ leb (voice_range end_word) (end_of word l)
end_test word l =
    let w = end_whole word l in
    cases (end_of word l) 4294967296 (ltb 4294967295 (end_of word l) ≡ leb (voice_range end_word) (end_of word l))
    (λ h. le-ltb 4294967295 (end_of word l) (omega arith) ∙ sym (lt-leb (voice_range end_word) (end_of word l) (omega arith)))
    (λ h. lt-ltb 4294967295 (end_of word l) (omega arith) ∙ sym (le-leb (voice_range end_word) (end_of word l) (omega arith)))

-- `Samples::interpolate` meets its contract: one more for each word that was missing, and the value between what the two stand for.
-- Assumes nothing.
use mathlib.Core.Path.{◌≡◌, ap, ◌∙◌}
use Prim.Native.Nat.{ℕ, ◌%◌, ◌/◌}
use mathlib.Core.Bool.{cond}
use native.Mathlib.Omega.{arith}
use mir.Syntax.{w32}
use Rattle.std.specs.Prelude.{Option, None, Some}
use Rattle.std.specs.Option.{unwrap_or}
use Rattle.numbers.specs.Numbers.{Bits}
use Rattle.numbers.proofs.Local.{handed, back}
use Rattle.sample.specs.Sample.{as_word, MemoryWord, fraction, interpolated, sample_of, missing_of, sampled}
use Rattle.sample.proofs.Samples.interpolate.Goals as goal

-- a word's bits, as the code has them
bits_of : (w : Option ℕ) {a : ℕ} {m : MemoryWord} → a ≡ unwrap_or w 0 → as_word w ≡ m → a ≡ m.bits
bits_of None e f = e ∙ ap (λ (m : MemoryWord). m.bits) f
bits_of (Some b) e f = e ∙ ap (λ (m : MemoryWord). m.bits) f

-- what a word counts
abbrev one_for : MemoryWord → ℕ
one_for m = cond m.there 0 1

pub returns-clause-value : goal.returns-clause-value
unfolding fraction sampled
returns-clause-value c =
    let n = c.args.accum % 2048 / 4 in
    let a = c.sample_of-s1 in
    let b = c.sample_of-s2 in
    let s1 = back w32 a.type_inv ∙ a.ensures.0 ∙ ap (sample_of c.args.cr) (bits_of c.fetch-first.result.0 c.unwrap_or.ensures c.fetch-first.ensures.first) in
    let s2 = back w32 b.type_inv ∙ b.ensures.0 ∙ ap (sample_of c.args.cr) (bits_of c.fetch-first.result.1 c.unwrap_or-2.ensures c.fetch-first.ensures.second) in
    handed w32 (Bits 18) c.blend.type_inv c.blend.ensures (λ i. interpolated n (s1 i) (s2 i))

pub returns-clause-missing_after : goal.returns-clause-missing_after
unfolding missing_of
returns-clause-missing_after c =
    omega (arith, c.tally.ensures, c.tally-2.ensures, ap one_for c.fetch-first.ensures.first, ap one_for c.fetch-first.ensures.second)

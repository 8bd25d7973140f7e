-- What the promise of an import says, for readers: two outcomes are equal; a refusal changes nothing and answers 0; the samples stand in their part, and
-- nothing outside it changes; START and END are what their registers keep; and the steps of the pass, which are few. Assumes nothing.
use mathlib.Core.Path.{◌≡◌, refl, sym, ap, ◌∙◌}
use mathlib.Core.Bool.{Bool, true, false, cond}
use mathlib.Core.List.{List}
use Prim.Native.Nat.{ℕ, ◌+◌, ◌-◌, ◌*◌, ◌%◌, ◌^◌, ◌≤◌, ◌<◌}
use native.Mathlib.Nat.{mul-div_cancel, mod-eq_of_lt}
use native.Mathlib.Omega.{arith}
use lib.Bits.{bit_and, and_high}
use lib.ListN.{length, get_or}
use lib.Pow.{pow_pos}
use Rattle.answer.specs.Answer.{is_done}
use Rattle.std.specs.Prelude.{Option, Some, None}
use Rattle.numbers.proofs.Tests.{split}
use Rattle.machine.specs.Words.{voice_word, voice_range, bits_of, cut, start_word, end_word}
use Rattle.machine.proofs.Valid.{cut_voice}
use Rattle.layout.specs.Parts.{part, with_part}
use Rattle.layout.proofs.Parts.{with_length, with_part_lem, with_before, with_after}
use Rattle.sample.specs.Sample.{bank_words, whole_sample}
use Rattle.chunks.specs.Chunks.{listing, is_unreadable, chunks_of, header_bytes, first_chunk, riff_end}
use Rattle.chunks.proofs.Row.{row_few}
use Rattle.wave.specs.Wave.{data_of, samples_of, loop_of}
use Rattle.wave_in.specs.Registers.{start_of}
use Rattle.wave_in.specs.Import.{import_answer, refused_by, taken_at, imported, import_memory, Imported, Imports}
use Rattle.wave.specs.declared.Loop.{Loop}
use Rattle.wave_in.proofs.Copied.{samples_length}
use Rattle.wave_in.proofs.Placed.{end_whole}
use Rattle.wave.proofs.Parsing.{read_row}
use Rattle.wave_in.proofs.Importing.{importable, placeable, end_fits, start_fits}

pub one_import : {file memory : List ℕ} {word : ℕ} {r s : Imported} {x y : List ℕ} → Imports file memory word r x → Imports file memory word s y → (r ≡ s) × (x ≡ y)
one_import p q = (p.answers ∙ sym q.answers, p.leaves ∙ sym q.leaves)

-- what is answered is done exactly where the tests say so
answer_by : (t : Bool) (x y : Imported) → is_done x.answer ≡ true → is_done y.answer ≡ t → is_done (cond t x y).answer ≡ t
answer_by true x y e f = e
answer_by false x y e f = f

module _ {file memory : List ℕ} {word : ℕ} {r : Imported} {after : List ℕ} (p : Imports file memory word r after) where
  pub same_done : is_done r.answer ≡ is_done (import_answer file (length memory) word)
  unfolding imported
  same_done =
      ap (λ (x : Imported). is_done x.answer) p.answers
      ∙ answer_by (is_done (import_answer file (length memory) word)) (taken_at word (data_of (chunks_of file)) (loop_of file (chunks_of file))) (refused_by (import_answer file (length memory) word)) refl refl

  -- ---- refused

  pub import_refused : is_done r.answer ≡ false → (r ≡ refused_by (import_answer file (length memory) word)) × (after ≡ memory)
  unfolding imported import_memory
  import_refused h =
      let d : is_done (import_answer file (length memory) word) ≡ false = sym same_done ∙ h in
      (p.answers ∙ rw d, p.leaves ∙ rw d)

  -- ---- done

  module _ (h : is_done r.answer ≡ true) where
    done : is_done (import_answer file (length memory) word) ≡ true
    done = sym same_done ∙ h

    pub import_done : r ≡ taken_at word (data_of (chunks_of file)) (loop_of file (chunks_of file))
    unfolding imported
    import_done = p.answers ∙ rw done

    in_place : after ≡ with_part memory word (samples_of file (data_of (chunks_of file)))
    unfolding import_memory
    in_place = p.leaves ∙ rw done

    count_is : length (samples_of file (data_of (chunks_of file))) ≡ r.samples
    count_is =
        samples_length file (data_of (chunks_of file)) (length memory) word (placeable (importable file (length memory) word done))
        ∙ sym (ap (λ (x : Imported). x.samples) import_done)

    part_lent : word + length (samples_of file (data_of (chunks_of file))) ≤ length memory
    part_lent =
        rw (samples_length file (data_of (chunks_of file)) (length memory) word (placeable (importable file (length memory) word done))) (placeable (importable file (length memory) word done)).lent

    pub samples_in_part : part after word r.samples ≡ samples_of file (data_of (chunks_of file))
    samples_in_part = rw (in_place, ← count_is) (with_part_lem memory word (samples_of file (data_of (chunks_of file))) part_lent)

  -- ---- nothing outside the part changes, and the memory is as long as it was

  pub outside_kept : (k d : ℕ) → (k < word → get_or after k d ≡ get_or memory k d) × (word + r.samples ≤ k → get_or after k d ≡ get_or memory k d)
  outside_kept k d = split ((k < word → get_or after k d ≡ get_or memory k d) × (word + r.samples ≤ k → get_or after k d ≡ get_or memory k d)) (is_done r.answer)
      (λ h. (
        (λ b. rw (in_place h) (with_before memory word (samples_of file (data_of (chunks_of file))) (part_lent h) k d b)),
        (λ b. rw (in_place h) (with_after memory word (samples_of file (data_of (chunks_of file))) (part_lent h) k d (rw (count_is h) b))),
      ))
      (λ h. ((λ b. rw (import_refused h).1), (λ b. rw (import_refused h).1)))

  pub length_kept : length after ≡ length memory
  length_kept = split (length after ≡ length memory) (is_done r.answer)
      (λ h. ap length (in_place h) ∙ with_length memory word (samples_of file (data_of (chunks_of file))) (part_lent h))
      (λ h. ap length (import_refused h).1)

-- ---- START and END as registers keep them

-- a number of bits k and up, below 2 to the j + k, is what a register of these bits keeps
high_kept : (j k m : ℕ) → m < 2 ^ j → bit_and (m * 2 ^ k) (2 ^ (j + k) - 2 ^ k) ≡ m * 2 ^ k
high_kept j k m h =
    and_high (m * 2 ^ k) j k ∙ ap (λ (x : ℕ). x % 2 ^ j * 2 ^ k) (mul-div_cancel m (pow_pos k)) ∙ ap (λ (x : ℕ). x * 2 ^ k) (mod-eq_of_lt h)

start_whole : (word : ℕ) (l : Option Loop) → (k : ℕ) × (start_of word l ≡ k * whole_sample)
unfolding start_of
start_whole word None = (0, refl)
start_whole word (Some l) = (word % bank_words + l.start, refl)

module _ (v : ℕ) (h : v < 32) where
  start_cut : (k : ℕ) → k * whole_sample < voice_range end_word → cut (voice_word v start_word) (k * whole_sample) ≡ k * whole_sample
  unfolding cut bits_of
  start_cut k l = cut_voice v start_word (k * whole_sample) h (omega arith) ∙ high_kept 21 11 k (omega arith)

  end_cut : (k : ℕ) → k * whole_sample < voice_range end_word → cut (voice_word v end_word) (k * whole_sample) ≡ k * whole_sample
  unfolding cut bits_of
  end_cut k l =
      let e : k * whole_sample ≡ k * 16 * 2 ^ 7 = omega arith in
      cut_voice v end_word (k * whole_sample) h (omega arith) ∙ rw e (high_kept 25 7 (k * 16) (omega arith))

  -- so a voice to which they are written holds them as they were answered
  pub registers_keep : {file memory : List ℕ} {word : ℕ} {r : Imported} {after : List ℕ} → Imports file memory word r after
      → (cut (voice_word v start_word) r.start ≡ r.start) × (cut (voice_word v end_word) r.end ≡ r.end)
  registers_keep {file} {memory} {word} {r} p = split ((cut (voice_word v start_word) r.start ≡ r.start) × (cut (voice_word v end_word) r.end ≡ r.end)) (is_done r.answer)
      (λ d.
      let l = loop_of file (chunks_of file) in
      let q = importable file (length memory) word (sym (same_done p) ∙ d) in
      let s = start_whole word l in
      let e = end_whole word l in
      let f = end_fits q in
      let g = start_fits q in
      rw (import_done p d, s.1, e.1) (start_cut s.0 (omega arith), end_cut e.0 (omega arith)))
      (λ d. rw (import_refused p d).0 (start_cut 0 (omega arith), end_cut 0 (omega arith)))

-- ---- the steps of the pass: each of the chunks takes eight bytes or more

pub chunks_few : (file : List ℕ) → is_unreadable (listing file) ≡ false → first_chunk + header_bytes * length (chunks_of file) ≤ length file
chunks_few file h =
    let r = read_row file h in
    let f = row_few file (riff_end file) first_chunk (chunks_of file) r.row in
    let w = r.within in
    omega arith

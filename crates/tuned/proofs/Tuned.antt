-- A loop that was imported plays in tune, by the theorem of the held note.
-- In order: the loop of an import that is done; the mode of a voice that gets its bits; the period; the theorem; when the note is back where it was; and
-- a file of each type of loop with a voice that the theorem speaks of. Assumes nothing.
use mathlib.Core.Path.{◌≡◌, refl, sym, ap, ◌∙◌}
use mathlib.Core.Bool.{true, false, ◌||◌}
use mathlib.Core.List.{List, [], ◌∷◌, ◌++◌}
use Prim.Native.Nat.{ℕ, zero, suc, ◌+◌, ◌*◌, ◌%◌, ◌≤◌, ◌<◌}
use native.Mathlib.Omega.{arith}
use borrow.Author.Tests.{ltb-false}
use lib.Dec.{leb, ltb}
use lib.ListN.{length, replicate}
use Rattle.numbers.proofs.Tests.{neither}
use Rattle.answer.specs.Answer.{is_done}
use Rattle.control.specs.Control.{bit_of, flag_of, with_bit, runs, lei_bit, lpe_bit, ble_bit, dir_bit}
use Rattle.layout.specs.Bytes.{little, twos}
use Rattle.sample.specs.Sample.{whole_sample}
use Rattle.chunks.specs.Chunks.{chunks_of, chunk_at, is_whole, before, chunks_from, is_headed, listing, is_unreadable, chunks_in, named}
use Rattle.wave.specs.Wave.{data_of, count_of, Present, loop_of, first_of, is_once, any_short, is_mono16, is_sampler_short, loop_in, first_sampler_short, first_loop, is_broken}
use Rattle.wave_in.specs.Registers.{register_at, start_of, end_of, type_bits, loop_bits}
use Rattle.wave_in.specs.Import.{is_loop_invalid, import_answer, taken_at, Imported, imported, is_miscounted, is_other_format, has_no_place}
use Rattle.wave_in.proofs.Importing.{importable, end_fits}
use Rattle.wave_in.proofs.Corollaries.{same_done, import_done}
use Rattle.wave_in.proofs.Files.{whole, mono, two_samples, sampler}
use Rattle.voice.specs.Voice.{Voice, voice_of}
use Rattle.voice.specs.Tune.{turns_of, Mode, position_of, period_of, Loops}
use Rattle.voice.proofs.Tune.{held_in_tune, back_again}
use Rattle.tuned.specs.Tuned.{loop_samples, kind_of, round_samples, Gets, Plays, Holds, ImportedInTune}

-- ---- the loop of an import that is done

-- it starts at or before its last sample, and is of type 0, 1 or 2
valid_loop : (count type first last : ℕ) → is_loop_invalid count (Present type first last) ≡ false → (first ≤ last) × (type ≤ 2)
unfolding is_loop_invalid
valid_loop count type first last h =
    let n = neither (ltb last first) (ltb 2 type) (neither (leb count last) (ltb last first || ltb 2 type) h).1 in
    (ltb-false last first n.0, ltb-false 2 type n.1)

-- ---- the bits and the period, by the loop's type

mode_of : (type CR : ℕ) → type ≤ 2 → flag_of lpe_bit CR ≡ flag_of lpe_bit (type_bits type) → flag_of ble_bit CR ≡ flag_of ble_bit (type_bits type) → (flag_of ble_bit (type_bits type) ≡ false → flag_of dir_bit CR ≡ flag_of dir_bit (type_bits type)) → Mode (kind_of type) CR
unfolding flag_of bit_of with_bit
mode_of zero CR h l b d = (b, l, d refl)
mode_of (suc zero) CR h l b d = (b, l)
mode_of (suc (suc zero)) CR h l b d = (b, l, d refl)
mode_of (suc (suc (suc type))) CR h l b d = absurd (omega arith)

round_is : (type n : ℕ) (v : Voice) → type ≤ 2 → v.end ≡ v.start + n * whole_sample → period_of (kind_of type) v ≡ round_samples type n * whole_sample
unfolding period_of
round_is zero n v h e = omega arith
round_is (suc zero) n v h e = omega arith
round_is (suc (suc zero)) n v h e = omega arith
round_is (suc (suc (suc type))) n v h e = absurd (omega arith)

-- ---- the theorem

pub imported_in_tune : ImportedInTune
unfolding start_of end_of loop_bits
imported_in_tune file memory word r after p h type first last l v g q =
    let t = importable file (length memory) word (sym (same_done p) ∙ h) in
    let i = valid_loop (count_of (data_of (chunks_of file))) type first last (rw l at t.loop) in
    let k : r ≡ taken_at word (data_of (chunks_of file)) (Present type first last) = rw l at (import_done p h) in
    let f : end_of word (Present type first last) < 4294967296 = omega (arith, rw l at (end_fits t)) in
    let s : v.start ≡ register_at word first = g.start ∙ ap (λ (x : Imported). x.start) k in
    let e : v.end ≡ register_at word (last + 1) = g.end ∙ ap (λ (x : Imported). x.end) k in
    let n = loop_samples first last in
    let w : v.end ≡ v.start + n * whole_sample = omega arith in
    let b : r.bits ≡ type_bits type = ap (λ (x : Imported). x.bits) k in
    let loops : Loops (kind_of type) v = record {
      running = q.running;
      heeded = q.heeded;
      mode = mode_of type v.cr i.1 (g.loops ∙ ap (flag_of lpe_bit) b) (g.both_ways ∙ ap (flag_of ble_bit) b) (λ e. g.direction (ap (flag_of ble_bit) b ∙ e) ∙ ap (flag_of dir_bit) b);
      from = q.from;
      to = q.to;
      length = omega arith;
      pace = omega (arith, q.pace);
      address = omega arith;
    } in
    record { period = round_is type n v i.1 w; in_tune = λ memory slow turns. held_in_tune (kind_of type) memory slow turns v loops }

-- So the note is back at its place when its steps come to whole rounds, each of just as many samples as the loop has: at one sample a turn, after as many
-- turns.
pub back_after_rounds : (type n : ℕ) (v : Voice) → Holds type n v → (memory : ℕ → List ℕ) (slow : ℕ → ℕ) (turns rounds : ℕ)
    → turns * v.fc ≡ rounds * (round_samples type n * whole_sample)
    → position_of (kind_of type) (turns_of memory slow turns v) % (round_samples type n * whole_sample) ≡ position_of (kind_of type) v % (round_samples type n * whole_sample)
unfolding turns_of
back_after_rounds type n v h memory slow turns rounds e =
    rw h.period at (back_again (kind_of type) memory slow turns v (h.in_tune memory slow 0).loops rounds (e ∙ ap (λ (x : ℕ). rounds * x) (sym h.period)))

-- ---- such files and voices

-- two samples and a loop of both
abbrev pub looped : ℕ → List ℕ
looped type = whole (mono ++ two_samples ++ sampler type 0 1)

-- what is answered where they are imported at word 10 of twenty
abbrev pub answered : ℕ → Imported
answered type = imported (looped type) 20 10

-- a voice at the start of that loop, which moves by a sample a turn; what a loop does not need is 0
abbrev pub at_start : ℕ → Voice
at_start CR = voice_of (CR ∷ whole_sample ∷ replicate 9 0 ++ 20480 ∷ 24576 ∷ 20480 ∷ [])

-- for each type of loop: the import is done, its loop is that one, and such a voice gets it and plays it
pub record Speaks (type CR : ℕ) : Type 0 where
  pub done : is_done (answered type).answer ≡ true
  pub its_loop : loop_of (looped type) (chunks_of (looped type)) ≡ Present type 0 1
  pub gets : Gets (answered type) (at_start CR)
  pub plays : Plays (loop_samples 0 1) (at_start CR)

pub speaks : Speaks 0 0x08 × Speaks 1 0x18 × Speaks 2 0x48
unfolding runs flag_of bit_of with_bit little twos chunk_at is_whole before chunks_from is_headed listing is_unreadable chunks_in named first_of is_once any_short is_mono16 is_sampler_short loop_in first_sampler_short first_loop start_of end_of loop_bits is_broken is_miscounted is_other_format is_loop_invalid has_no_place import_answer imported
speaks = (by 0 0x08 refl refl refl refl (refl, refl, refl) refl refl, by 1 0x18 refl refl refl refl (refl, refl, refl) refl refl, by 2 0x48 refl refl refl refl (refl, refl, refl) refl refl)
  where
    by : (type CR : ℕ) → is_done (answered type).answer ≡ true → loop_of (looped type) (chunks_of (looped type)) ≡ Present type 0 1 → 20480 ≡ (answered type).start → 24576 ≡ (answered type).end
        → (flag_of lpe_bit CR ≡ flag_of lpe_bit (answered type).bits) × (flag_of ble_bit CR ≡ flag_of ble_bit (answered type).bits) × (flag_of dir_bit CR ≡ flag_of dir_bit (answered type).bits)
        → runs CR ≡ true → flag_of lei_bit CR ≡ false → Speaks type CR
    by type CR d l s e f r h = record {
      done = d;
      its_loop = l;
      gets = record { start = s; end = e; loops = f.0; both_ways = f.1; direction = λ e. f.2 };
      plays = record { running = r; heeded = h; from = omega arith; to = omega arith; pace = omega arith };
    }

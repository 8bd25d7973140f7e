-- An import that is done, and one that is refused.
-- In order: what `wave_in::settle` told; what holds where an import is done: none of the refusals, so the samples have their place and START and END fit
-- their registers; the promise of each. Assumes nothing.
use mathlib.Core.Path.{◌≡◌, refl, ap, ◌∙◌}
use mathlib.Core.Bool.{true, false, not, ◌||◌}
use mathlib.Core.List.{List}
use Prim.Native.Nat.{ℕ, ◌+◌, ◌*◌, ◌/◌, ◌%◌, ◌≤◌, ◌<◌}
use native.Mathlib.Omega.{arith}
use borrow.Author.Tests.{ltb-false, leb-false, eqb-false}
use lib.Dec.{leb, ltb, eqb}
use lib.ListN.{length}
use Rattle.std.specs.Prelude.{Option, Some, None, Result, Ok, Err}
use Rattle.numbers.proofs.Tests.{neither}
use Rattle.answer.specs.Answer.{Answer, is_done}
use Rattle.answer.specs.declared.Refusal.{Refusal}
use Rattle.answer.proofs.Refusals.{none_holds}
use Rattle.machine.specs.Words.{voice_range, end_word}
use Rattle.layout.specs.Parts.{with_part}
use Rattle.sample.specs.Sample.{bank_words, too_many_words}
use Rattle.chunks.specs.Chunks.{chunks_of, data_name}
use Rattle.chunks.specs.declared.Chunk.{Chunk}
use Rattle.wave.specs.Wave.{format_of, data_of, count_of, samples_of, is_mono16, loop_of, is_broken}
use Rattle.wave_in.specs.Registers.{start_of, end_of}
use Rattle.wave_in.specs.Import.{is_miscounted, is_other_format, is_loop_invalid, has_no_place, import_tests, import_answer, taken_at, imported, import_memory, outcome_of, Imported, Imports}
use Rattle.wave_in.specs.Steps.{given, settled_of, Placeable}
use Rattle.wave.specs.Parse.{InFile}
use Rattle.wave.specs.declared.Loop.{Loop}
use Rattle.wave_in.specs.declared.Taken.{Taken}
use Rattle.wave.proofs.NotBroken.{not_broken, named_in}

-- ---- what was settled

abbrev Settled : Type 0
Settled = Result (Chunk × Option Loop) Refusal

refused_by_lem : (a : Answer) (x : Chunk × Option Loop) (r : Settled) (e : Refusal) → r ≡ Err e → r ≡ given a x → a ≡ Err e
refused_by_lem (Ok _) x r e p q = absurd (let z : ◌≡◌ {A = ℕ} 0 1 = cc in omega arith)
refused_by_lem (Err d) x r e p q = cc

taken_by : (a : Answer) (x : Chunk × Option Loop) (r : Settled) (y : Chunk × Option Loop) → r ≡ Ok y → r ≡ given a x → (is_done a ≡ true) × (y ≡ x)
taken_by (Ok _) x r y p q = (refl, cc)
taken_by (Err d) x r y p q = absurd (let z : ◌≡◌ {A = ℕ} 0 1 = cc in omega arith)

pub was_refused : (file : List ℕ) (room word : ℕ) (r : Settled) → r ≡ settled_of file room word → (e : Refusal) → r ≡ Err e → import_answer file room word ≡ Err e
unfolding settled_of
was_refused file room word r settled e p = refused_by_lem (import_answer file room word) (data_of (chunks_of file), loop_of file (chunks_of file)) r e p settled

-- ---- an import that is done

module _ (file : List ℕ) (room word : ℕ) where
  abbrev count : ℕ
  count = count_of (data_of (chunks_of file))

  -- none of the refusals holds
  pub record Importable : Type 0 where
    pub small : too_many_words room ≡ false
    pub unbroken : is_broken file ≡ false
    pub counted : is_miscounted (chunks_of file) ≡ false
    pub format : is_other_format file (chunks_of file) ≡ false
    pub loop : is_loop_invalid count (loop_of file (chunks_of file)) ≡ false
    pub place : has_no_place room word count (loop_of file (chunks_of file)) ≡ false

  pub importable : is_done (import_answer file room word) ≡ true → Importable
  unfolding import_answer
  importable h =
      let n = none_holds (import_tests file room word) h in
      record { small = n.0; unbroken = n.1.0; counted = n.1.1.0; format = n.1.1.1.0; loop = n.1.1.1.1.0; place = n.1.1.1.1.1.0 }

-- what is known where the samples are taken
pub record Takes (file : List ℕ) (room word : ℕ) (c : Chunk) (l : Option Loop) : Type 0 where
  pub done : is_done (import_answer file room word) ≡ true
  pub importing : Importable file room word
  pub data_is : c ≡ data_of (chunks_of file)
  pub loop_is : l ≡ loop_of file (chunks_of file)

pub was_taken : {file : List ℕ} {room word : ℕ} {r : Settled} {c : Chunk} {l : Option Loop} → r ≡ settled_of file room word → r ≡ Ok (c, l) → Takes file room word c l
unfolding settled_of
was_taken {file} {room} {word} {r} {c} {l} settled p =
    let t = taken_by (import_answer file room word) (data_of (chunks_of file), loop_of file (chunks_of file)) r (c, l) p settled in
    record {
      done = t.0;
      importing = importable file room word t.0;
      data_is = ap (λ (x : Chunk × Option Loop). x.0) t.1;
      loop_is = ap (λ (x : Chunk × Option Loop). x.1) t.1;
    }

even : (n : ℕ) → (n % 2 ≡ 1 → ⊥) → n ≡ 2 * (n / 2)
even n h = omega arith

module _ {file : List ℕ} {room word : ℕ} (p : Importable file room word) where
  data_in_file : InFile file (data_of (chunks_of file))
  data_in_file = named_in file (not_broken file p.unbroken) data_name

  -- the samples' bytes are in the file, by twos, and the words for them are lent, in one bank
  pub placeable : Placeable file (data_of (chunks_of file)) room word
  unfolding is_other_format has_no_place
  placeable =
      let d = data_of (chunks_of file) in
      let o = neither (not (is_mono16 file (format_of (chunks_of file)))) (eqb (d.size % 2) 1) p.format in
      let n = neither (ltb room (word + count_of d)) (ltb bank_words (word % bank_words + count_of d) || leb (voice_range end_word) (end_of word (loop_of file (chunks_of file)))) p.place in
      record { inside = data_in_file; even = even d.size (eqb-false (d.size % 2) 1 o.1); lent = ltb-false room (word + count_of d) n.0 }

  pub in_bank : word % bank_words + count_of (data_of (chunks_of file)) ≤ bank_words
  unfolding has_no_place
  in_bank =
      let d = data_of (chunks_of file) in
      let e = leb (voice_range end_word) (end_of word (loop_of file (chunks_of file))) in
      let n = neither (ltb room (word + count_of d)) (ltb bank_words (word % bank_words + count_of d) || e) p.place in
      ltb-false bank_words (word % bank_words + count_of d) (neither (ltb bank_words (word % bank_words + count_of d)) e n.1).0

  pub end_fits : end_of word (loop_of file (chunks_of file)) < voice_range end_word
  unfolding has_no_place
  end_fits =
      let d = data_of (chunks_of file) in
      let e = leb (voice_range end_word) (end_of word (loop_of file (chunks_of file))) in
      let n = neither (ltb room (word + count_of d)) (ltb bank_words (word % bank_words + count_of d) || e) p.place in
      leb-false (voice_range end_word) (end_of word (loop_of file (chunks_of file))) (neither (ltb bank_words (word % bank_words + count_of d)) e n.1).1

  pub data_fits : (data_of (chunks_of file)).size < 4294967296
  data_fits =
      let f = (not_broken file p.unbroken).row.few in
      let i = data_in_file in
      omega arith

-- a loop that is valid starts before it ends
start_before : (count word : ℕ) (l : Option Loop) → is_loop_invalid count l ≡ false → start_of word l ≤ end_of word l
unfolding is_loop_invalid start_of end_of
start_before count word None h = omega arith
start_before count word (Some l) h =
    let n = neither (leb count l.last) (ltb l.last l.start || ltb 2 l.form) h in
    let s = ltb-false l.last l.start (neither (ltb l.last l.start) (ltb 2 l.form) n.1).0 in
    omega arith

pub start_fits : {file : List ℕ} {room word : ℕ} → Importable file room word → start_of word (loop_of file (chunks_of file)) ≤ end_of word (loop_of file (chunks_of file))
start_fits {file} {room} {word} p = start_before (count_of (data_of (chunks_of file))) word (loop_of file (chunks_of file)) p.loop

-- ---- the promise

module _ (file memory : List ℕ) (word : ℕ) where
  pub refused_imports : (e : Refusal) (r : Result Taken Refusal) → r ≡ Err e → import_answer file (length memory) word ≡ Err e → Imports file memory word (outcome_of r) memory
  unfolding imported import_memory
  refused_imports e r s d = record { answers = rw (s, d); leaves = rw d }

  pub done_imports : (r : Imported) (after : List ℕ) → is_done (import_answer file (length memory) word) ≡ true → r ≡ taken_at word (data_of (chunks_of file)) (loop_of file (chunks_of file))
      → after ≡ with_part memory word (samples_of file (data_of (chunks_of file))) → Imports file memory word r after
  unfolding imported import_memory
  done_imports r after d e f = record { answers = e ∙ rw d; leaves = f ∙ rw d }

-- What `wave_in::settle` answers at each test, in their order: first until format and data are there, each once, and then with what is known of them.
-- Assumes nothing.
use mathlib.Core.Path.{◌≡◌, refl, sym, ap, ◌∙◌}
use mathlib.Core.Bool.{Bool, true, false, cond, not, ◌&&◌, ◌||◌, or-true, and-eq-true_iff}
use mathlib.Core.Logic.{◌⊎◌, inl, inr}
use mathlib.Core.List.{List, [], ◌∷◌}
use Prim.Native.Nat.{ℕ, ◌/◌, ◌%◌, ◌≤◌, ◌<◌}
use native.Mathlib.Omega.{arith}
use borrow.Author.Tests.{lt-ltb, le-ltb, not-false, ne_eqb}
use lib.Dec.{eqb}
use Rattle.std.specs.Prelude.{Option, Some, None, ok_or, Result, Ok, Err}
use Rattle.answer.specs.Answer.{first_refusal}
use Rattle.answer.specs.declared.Refusal.{Refusal}
use Rattle.answer.specs.declared.Refusal.TheVariants.{MemoryLength, FileBroken, ChunkCount, SampleFormat, LoopInvalid, NoPlace}
use Rattle.sample.specs.Sample.{most_memory_words}
use Rattle.chunks.specs.Chunks.{chunks_of, named, format_name, data_name, sampler_name}
use Rattle.chunks.specs.declared.Chunk.{Chunk}
use Rattle.wave.specs.Wave.{is_once, is_mono16, format_of, data_of, loop_of, format_bytes, is_broken}
use Rattle.wave_in.specs.Import.{is_miscounted, is_other_format, is_loop_invalid, has_no_place, import_answer}
use Rattle.wave.specs.Parse.{found_of, once_both, first_sampler_short_of, loop_of_kept, parsed_of, InFile, FirstInFile}
use Rattle.wave_in.specs.Steps.{settled_of}
use Rattle.wave.specs.declared.Loop.{Loop}
use Rattle.wave.specs.declared.Found.{Found}
use Rattle.chunks.proofs.Told.{none_where, some_where}
use Rattle.wave.proofs.Keeping.{kept_both, kept_loop}
use Rattle.wave.proofs.Parsing.{was_broken, was_found}
use Rattle.wave.proofs.NotBroken.{not_broken, named_in, sampler_in_file, format_full, sampler_full}

-- ---- what `ok_or` made of an option

pub none_was : {T E : Type 0} (p : Option T) (e x : E) (r : Result T E) → r ≡ ok_or p e → r ≡ Err x → (p ≡ None) × (x ≡ e)
none_was None e x r f g = (refl, cc)
none_was (Some y) e x r f g = absurd (let z : ◌≡◌ {A = ℕ} 0 1 = cc in omega arith)

pub some_was : {T E : Type 0} (p : Option T) (e : E) (y : T) (r : Result T E) → r ≡ ok_or p e → r ≡ Ok y → p ≡ Some y
some_was None e y r f g = absurd (let z : ◌≡◌ {A = ℕ} 0 1 = cc in omega arith)
some_was (Some x) e y r f g = let z : y ≡ x = cc in rw z

abbrev Settles : List ℕ → ℕ → ℕ → Result (Chunk × Option Loop) Refusal → Type 0
Settles file room word r = r ≡ settled_of file room word

-- ---- how often format and data are there

module _ (cs : List Chunk) where
  module _ (r : Option (Chunk × Chunk)) (r-is : r ≡ once_both (found_of cs)) where
    by_count : r ≡ cond (is_once (named format_name cs) && is_once (named data_name cs)) (Some (format_of cs, data_of cs)) None
    by_count = r-is ∙ kept_both (named format_name cs) (named data_name cs)

    pub none_both : r ≡ None → is_miscounted cs ≡ true
    unfolding is_miscounted
    none_both e = ap not (none_where (is_once (named format_name cs) && is_once (named data_name cs)) (format_of cs, data_of cs) r by_count e)

    pub both_there : (x : Chunk × Chunk) → r ≡ Some x → (is_miscounted cs ≡ false) × (x ≡ (format_of cs, data_of cs))
    unfolding is_miscounted
    both_there x e =
        let t = some_where (is_once (named format_name cs) && is_once (named data_name cs)) (format_of cs, data_of cs) x r by_count e in
        (ap not t.0, t.1)

  once_format : is_miscounted cs ≡ false → is_once (named format_name cs) ≡ true
  unfolding is_miscounted
  once_format h = ((and-eq-true_iff (is_once (named format_name cs)) (is_once (named data_name cs))).0 (not-false (is_once (named format_name cs) && is_once (named data_name cs)) h)).0

-- ---- the answers before

module _ (file : List ℕ) (room word : ℕ) where
  pub too_much : most_memory_words < room → Settles file room word (Err MemoryLength)
  unfolding settled_of import_answer
  too_much h = rw (lt-ltb most_memory_words room h)

  module _ (small : room ≤ most_memory_words) (p : Option Found) (parsed : p ≡ parsed_of file) where
    pub broken : p ≡ None → Settles file room word (Err FileBroken)
    unfolding settled_of import_answer
    broken e = rw (le-ltb most_memory_words room small, was_broken file p parsed e)

    pub miscounted_so : (found : Found) → p ≡ Some found → (q : Option (Chunk × Chunk)) → q ≡ once_both found → q ≡ None → Settles file room word (Err ChunkCount)
    unfolding settled_of import_answer
    miscounted_so found e q q-is m =
        let w = was_found file p parsed found e in
        rw (le-ltb most_memory_words room small, w.0, none_both (chunks_of file) q (rw w.1 at q-is) m)

-- ---- the answers once format and data are there, each once

pub record Ready (file : List ℕ) (room : ℕ) (found : Found) (format pcm : Chunk) : Type 0 where
  pub small : room ≤ most_memory_words
  pub unbroken : is_broken file ≡ false
  pub found_is : found ≡ found_of (chunks_of file)
  pub counted : is_miscounted (chunks_of file) ≡ false
  pub format_is : format ≡ format_of (chunks_of file)
  pub pcm_is : pcm ≡ data_of (chunks_of file)

pub ready : (room : ℕ) {file : List ℕ} {p : Option Found} {r : Result Found Refusal} {found : Found} {q : Option (Chunk × Chunk)}
    {s : Result (Chunk × Chunk) Refusal} {format pcm : Chunk} → p ≡ parsed_of file → room ≤ most_memory_words → r ≡ ok_or p FileBroken → r ≡ Ok found
    → q ≡ once_both found → s ≡ ok_or q ChunkCount → s ≡ Ok (format, pcm) → Ready file room found format pcm
ready room {file} {p} {r} {found} {q} {s} {format} {pcm} parsed small r-is r-was q-is s-is s-was =
    let w = was_found file p parsed found (some_was p FileBroken found r r-is r-was) in
    let t = both_there (chunks_of file) q (rw w.1 at q-is) (format, pcm) (some_was q ChunkCount (format, pcm) s s-is s-was) in
    record {
      small = small;
      unbroken = w.0;
      found_is = w.1;
      counted = t.0;
      format_is = ap (λ (x : Chunk × Chunk). x.0) t.1;
      pcm_is = ap (λ (x : Chunk × Chunk). x.1) t.1;
    }

module _ {file : List ℕ} {room : ℕ} {found : Found} {format pcm : Chunk} (g : Ready file room found format pcm) where
  -- what is asked before the chunks are read
  pub format_in : InFile file format
  format_in = rw g.format_is (named_in file (not_broken file g.unbroken) format_name)

  pub format_long : format_bytes ≤ format.size
  format_long = rw g.format_is (format_full file (not_broken file g.unbroken) (once_format (chunks_of file) g.counted))

  pub sampler_in : FirstInFile file found.sampler
  sampler_in = rw g.found_is (sampler_in_file file (not_broken file g.unbroken))

  pub sampler_long : first_sampler_short_of file found.sampler ≡ false
  sampler_long = rw g.found_is (sampler_full file (not_broken file g.unbroken))

  pub data_small : pcm.size / 2 ≤ 65536
  data_small =
      let s = not_broken file g.unbroken in
      let i : InFile file pcm = rw g.pcm_is (named_in file s data_name) in
      let f = s.row.few in
      omega arith

  module _ (word : ℕ) where
    -- the tests so far: the lent memory, the file, the two chunks
    so_far : (t : Bool) → (not (is_mono16 file format) || eqb (pcm.size % 2) 1) ≡ t → import_answer file room word
        ≡ first_refusal
        ((t, SampleFormat)
        ∷ (is_loop_invalid (pcm.size / 2) (loop_of file (chunks_of file)), LoopInvalid)
        ∷ (has_no_place room word (pcm.size / 2) (loop_of file (chunks_of file)), NoPlace)
        ∷ [])
    unfolding import_answer is_other_format
    so_far t e = rw (le-ltb most_memory_words room g.small, g.unbroken, g.counted, ← e, g.format_is, g.pcm_is)

    module _ (mono : Bool) (is-mono : mono ≡ is_mono16 file format) where
      pub other_format : (mono ≡ false) ⊎ ((mono ≡ true) × (pcm.size % 2 ≡ 1)) → Settles file room word (Err SampleFormat)
      unfolding settled_of
      other_format (inl h) = rw (so_far true (rw (← is-mono, h)))
      other_format (inr h) = rw (so_far true (rw (h.1, or-true (not (is_mono16 file format)))))

      pub its_format : mono ≡ true → (pcm.size % 2 ≡ 1 → ⊥) → (not (is_mono16 file format) || eqb (pcm.size % 2) 1) ≡ false
      its_format h odd = rw (← is-mono, h, ne_eqb (pcm.size % 2) 1 odd)

    module _ (o : (not (is_mono16 file format) || eqb (pcm.size % 2) 1) ≡ false) (l : Option Loop) (first : l ≡ loop_of_kept file found.sampler) where
      its_loop : loop_of file (chunks_of file) ≡ l
      its_loop = sym (first ∙ rw g.found_is (kept_loop file (named sampler_name (chunks_of file))))

      pub loop_invalid : is_loop_invalid (pcm.size / 2) l ≡ true → Settles file room word (Err LoopInvalid)
      unfolding settled_of
      loop_invalid i = rw (so_far false o, its_loop, i)

      module _ (i : is_loop_invalid (pcm.size / 2) l ≡ false) where
        pub no_place : has_no_place room word (pcm.size / 2) l ≡ true → Settles file room word (Err NoPlace)
        unfolding settled_of
        no_place p = rw (so_far false o, its_loop, i, p)

        pub fine : has_no_place room word (pcm.size / 2) l ≡ false → Settles file room word (Ok (pcm, l))
        unfolding settled_of
        fine p = rw (so_far false o, its_loop, i, p, g.pcm_is)

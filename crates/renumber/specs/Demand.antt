-- Which voice plays a note is inaudible: what two machines whose voices match under a renumbering
-- have to have in common, what may be called on them, and what then follows.
-- In order: renumberings; machines that match; whole register writes; the calls between two frames;
-- a trace of calls with frames; two traces that are alike; what holds along them; the theorem.
-- Assumes nothing.
use Rattle.std.specs.Prelude.{◌≡◌, ◌≢◌, IsTrue, IsFalse, if◌then◌else◌, List, [], ◌∷◌, ◌++◌, ℕ, ◌+◌}
use Rattle.std.specs.Prelude.{◌*◌, ◌≤◌, ◌<◌, ◌==◌, ℤ, length, slice_index}
use Rattle.answer.specs.Answer.{Done, is_done}
use Rattle.control.specs.Control.{bit_of, irq_bit}
use Rattle.machine.specs.Words.{voice_count, voice_words, cr_word, page_word, actv_word, slow_word}
use Rattle.machine.specs.Words.{sums_word, output_values, voice_word, valid}
use Rattle.machine.specs.Voices.{voice_at}
use Rattle.registers.specs.Registers.{register_of}
use Rattle.registers.specs.declared.Register.TheVariants.{Word}
use Rattle.calls.specs.Calls.{Call, Write, Read, SetPot, Waiting, Frame, answer_to, after, given_by}
use Rattle.calls.specs.Calls.{output_from, run, outputs}

-- ---- renumberings

-- s maps the numbers below k to such numbers, and no two of them to one
abbrev pub Into : ℕ → (ℕ → ℕ) → Type 0
Into k s = (v : ℕ) → v < k → s v < k

abbrev pub OneToOne : ℕ → (ℕ → ℕ) → Type 0
OneToOne k s = (v u : ℕ) → v < k → u < k → s v ≡ s u → v ≡ u

-- voice v of the one machine is voice s v of the other; the active voices, 0 to `active`, become
-- active ones
pub record Renumbering (active : ℕ) (s : ℕ → ℕ) : Type 0 where
  pub into : Into voice_count s
  pub one_to_one : OneToOne voice_count s
  pub stays_active : (v : ℕ) → v ≤ active → s v ≤ active

-- ---- machines that match

-- two voices hold the same registers, interrupt flags excepted: of CR every bit but IRQ, and every
-- other word
pub record SameVoice (w x : List ℕ) : Type 0 where
  pub control : (b : ℕ) → b ≢ irq_bit
      → bit_of b (slice_index w cr_word) ≡ bit_of b (slice_index x cr_word)
  pub others : (j : ℕ) → cr_word < j → j < voice_words → slice_index w j ≡ slice_index x j

-- The voices match under s, and the active counts, the slow-ramp counters and the channel sums are
-- equal. All else may differ: PAGE, IRQV, PAR, MODE, W_ST, W_END, LR_END, both latches, and the
-- mask of the waiting voices, which is excepted with the flags.
pub record Match (s : ℕ → ℕ) (m n : List ℕ) : Type 0 where
  pub voices : (v : ℕ) → v < voice_count → SameVoice (voice_at m v) (voice_at n (s v))
  pub active : slice_index m actv_word ≡ slice_index n actv_word
  pub slow : slice_index m slow_word ≡ slice_index n slow_word
  pub sums : (c : ℕ) → c < output_values
      → slice_index m (sums_word + c) ≡ slice_index n (sums_word + c)

-- ---- whole register writes

-- one of a voice: the voice, which of its words, and the 32 bits written
pub record Put : Type 0 where
  pub voice : ℕ
  pub word : ℕ
  pub number : ℕ

-- a voice's own writes, in their order
abbrev pub of_voice : ℕ → List Put → List (ℕ × ℕ)
of_voice v [] = []
of_voice v (p ∷ ps) = if v == p.voice then (p.word, p.number) ∷ of_voice v ps else of_voice v ps

-- ---- the calls between two frames

-- how far the writes have come: none is begun; or k bytes of register r, which names word j of
-- voice v, are written and make the number x
pub data Phase : Type 0 where
  idle : Phase
  begun : (r v j k x : ℕ) → Phase

-- `Between m φ t ps ψ`: on the record m, from the phase φ on, the calls t are allowed, no frame is
-- among them, ps are the whole writes that they finish, in order, and ψ is how far the writes have
-- come at the end. There is no reset among them, and no write but those named here.
pub data Between : List ℕ → Phase → List Call → List Put → Phase → Type 0 where
  nothing : {m : List ℕ} {φ : Phase} → Between m φ [] [] φ
  -- reads may stand anywhere, also between the bytes of a write; so may pot results, the call that
  -- tells which voices wait, and writes that are refused
  reading : {m : List ℕ} {φ ψ : Phase} {t : List Call} {ps : List Put} (a : ℕ)
      → Between (after m (Read a)) φ t ps ψ → Between m φ (Read a ∷ t) ps ψ
  potting : {m : List ℕ} {φ ψ : Phase} {t : List Call} {ps : List Put} (p : ℕ)
      → Between (after m (SetPot p)) φ t ps ψ → Between m φ (SetPot p ∷ t) ps ψ
  asking : {m : List ℕ} {φ ψ : Phase} {t : List Call} {ps : List Put}
      → Between (after m Waiting) φ t ps ψ → Between m φ (Waiting ∷ t) ps ψ
  refused : {m : List ℕ} {φ ψ : Phase} {t : List Call} {ps : List Put} (a b : ℕ)
      → IsFalse (is_done (answer_to m (Write a b)))
      → Between (after m (Write a b)) φ t ps ψ → Between m φ (Write a b ∷ t) ps ψ
  -- a byte of PAGE, register 15: single bytes will do, in any order
  paging : {m : List ℕ} {ψ : Phase} {t : List Call} {ps : List Put} (k b : ℕ) → k < 4 → b < 256
      → Between (after m (Write (4 * 15 + k) b)) idle t ps ψ
      → Between m idle (Write (4 * 15 + k) b ∷ t) ps ψ
  -- byte 0 of a register that, as PAGE stands now, names word j of voice v
  first : {m : List ℕ} {ψ : Phase} {t : List Call} {ps : List Put} (r v j b : ℕ) → r < 16
      → v < voice_count → j < voice_words → b < 256
      → register_of (slice_index m page_word) r ≡ Word (voice_word v j)
      → Between (after m (Write (4 * r + 0) b)) (begun r v j 1 b) t ps ψ
      → Between m idle (Write (4 * r + 0) b ∷ t) ps ψ
  -- byte 1 or 2 of it
  next : {m : List ℕ} {r v j k x : ℕ} {ψ : Phase} {t : List Call} {ps : List Put} (b : ℕ) → k < 3
      → b < 256
      → Between (after m (Write (4 * r + k) b)) (begun r v j (k + 1) (256 * x + b)) t ps ψ
      → Between m (begun r v j k x) (Write (4 * r + k) b ∷ t) ps ψ
  -- byte 3, which finishes the write
  last : {m : List ℕ} {r v j x : ℕ} {ψ : Phase} {t : List Call} {ps : List Put} (b : ℕ) → b < 256
      → Between (after m (Write (4 * r + 3) b)) idle t ps ψ
      → Between m (begun r v j 3 x) (Write (4 * r + 3) b ∷ t)
      (record { voice = v; word = j; number = 256 * x + b } ∷ ps) ψ

-- ---- traces

-- what a trace did: the whole writes finished before each frame, the sample memory that the frame
-- was lent, and the writes finished after the last one
pub data Log : Type 0 where
  End : List Put → Log
  Then : List Put → List ℕ → Log → Log

-- `Trace m φ t l`: on the record m, from the phase φ on, the calls t are allowed; between them
-- stand frames, none refused; and l is what they did. A frame is no write, so it may stand between
-- the bytes of a whole write: the calls after it go on with that write, which counts where its byte
-- 3 stands. One that is unfinished in the end does not count.
pub data Trace : List ℕ → Phase → List Call → Log → Type 0 where
  stop : {m : List ℕ} {φ ψ : Phase} {t : List Call} {ps : List Put} → Between m φ t ps ψ
      → Trace m φ t (End ps)
  go_on : {m : List ℕ} {φ ψ : Phase} {t u : List Call} {ps : List Put} {l : Log} (memory : List ℕ)
      (out : List ℤ)
      → Between m φ t ps ψ → answer_to (run m t) (Frame memory out) ≡ Done
      → Trace (after (run m t) (Frame memory out)) ψ u l
      → Trace m φ (t ++ Frame memory out ∷ u) (Then ps memory l)

-- ---- two traces that are alike

-- each voice gets the same writes in its own order, however they are mixed with those of others
abbrev pub SameWrites : (ℕ → ℕ) → List Put → List Put → Type 0
SameWrites s ps qs = (v : ℕ) → v < voice_count → of_voice v ps ≡ of_voice (s v) qs

-- so before each frame and after the last; there are as many frames, and each gets the same sample
-- memory
abbrev pub Alike : (ℕ → ℕ) → Log → Log → Type 0
Alike s (End ps) (End qs) = SameWrites s ps qs
Alike s (End ps) (Then qs memory l) = ⊥
Alike s (Then ps memory l) (End qs) = ⊥
Alike s (Then ps memory l) (Then qs memory' k) =
    SameWrites s ps qs × (memory ≡ memory') × Alike s l k

-- ---- what holds along them

-- a frame puts out the same twelve values on both machines, and answers the same number of missing
-- words
pub record SameFrame (m n : List ℕ) (c d : Call) : Type 0 where
  pub values : output_from m c ≡ output_from n d
  pub twelve : length (output_from m c) ≡ output_values
  pub missing : given_by m c ≡ given_by n d

-- every frame does; as it begins and after it, and after the calls that follow the last, the
-- machines match
abbrev pub Along : (s : ℕ → ℕ) {m n : List ℕ} {φ ψ : Phase} {t u : List Call} {l k : Log}
    → Trace m φ t l → Trace n ψ u k → Type 0
Along s (stop {m = m} {t = t} b) (stop {m = n} {t = u} d) = Match s (run m t) (run n u)
Along s (stop b) (go_on memory out d e f) = ⊥
Along s (go_on memory out b e f) (stop d) = ⊥
Along s (go_on {m = m} {t = t} memory out b e f) (go_on {m = n} {t = u} memory' out' d e' g) =
    Match s (run m t) (run n u)
    × SameFrame (run m t) (run n u) (Frame memory out) (Frame memory' out')
    × Match s (after (run m t) (Frame memory out)) (after (run n u) (Frame memory' out'))
    × Along s f g

-- ---- the theorem

-- Two valid machines whose voices match under a renumbering of that kind, and two traces that are
-- alike under it: every frame puts out the same twelve values, so that the whole output is the
-- same, and answers the same number of missing words; and as every frame begins, after it and in
-- the end matching voices hold the same registers, interrupt flags excepted.
abbrev pub Inaudible : Type 0
Inaudible =
    (s : ℕ → ℕ) (m n : List ℕ) → IsTrue (valid m) → IsTrue (valid n)
    → Renumbering (slice_index m actv_word) s → Match s m n
    → (t u : List Call) (l k : Log) (T : Trace m idle t l) (U : Trace n idle u k) → Alike s l k
    → Along s T U × (outputs m t ≡ outputs n u) × Match s (run m t) (run n u)

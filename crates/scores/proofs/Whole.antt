-- A whole score: what is heard of it is heard of its parts, one after the other, wherever it is cut; how many bytes that is; and that its frames are
-- counted right.
-- In order: all frames of a score leave twelve values; two runs (`heard_both`); a score in two parts (`in_parts`), the first of which was played
-- (`part-heard`); two outcomes of playing one (`one_part`); all parts of a score (`score_heard`); its frames (`frames_counted`), and its bytes
-- (`score_bytes`). Assumes nothing.
use mathlib.Core.Path.{◌≡◌, refl, sym, ap, ◌∙◌}
use mathlib.Core.Bool.{Bool, true, false, cond}
use mathlib.Core.List.{List, [], ◌∷◌, ◌++◌, append_assoc}
use Prim.Native.Nat.{ℕ, zero, suc, ◌+◌, ◌-◌, ◌*◌, ◌/◌}
use native.Mathlib.Nat.{add-zero, zero-add}
use native.Mathlib.Omega.{arith}
use lib.IntN.{ℤ}
use lib.ListN.{length, take, drop, replicate, take-append-drop}
use Rattle.numbers.specs.Sum.{sum}
use Rattle.numbers.proofs.Sum.{sum_ext, sum_first}
use Rattle.layout.specs.Bytes.{little_bytes}
use Rattle.machine.specs.Words.{output_values}
use Rattle.calls.specs.Calls.{Call, after, run, outputs}
use Rattle.calls.specs.Asks.{call_of}
use Rattle.calls.specs.declared.Ask.{Ask}
use Rattle.repeats.specs.Repeats.{command_count}
use Rattle.scores.specs.Score.{silence, command_no, calls_of, calls_from, commands_of, all_calls, score_calls, frames_of, all_frames, score_frames}
use Rattle.scores.specs.Sound.{sample_size, sample_bytes, sound_of}
use Rattle.scores.specs.Playing.{left_from, is_frame, frames_in, heard_from, first_record, score_sound, heard_at, Plays, Part, PlaysAll, parts_heard}
use Rattle.scores.specs.declared.Command.{Command}
use Rattle.scores.specs.declared.Played.{Played}
use Rattle.scores.proofs.Making.{asks_frame, Long, call_long}
use Rattle.scores.proofs.Playing.{left_none, heard-cons}

-- each call of a list
abbrev AllLong : List Call → Type 0
AllLong [] = Unit {0}
AllLong (c ∷ cs) = Long c × AllLong cs

both_long : (t u : List Call) → AllLong t → AllLong u → AllLong (t ++ u)
both_long [] u a b = b
both_long (c ∷ t) u a b = (a.0, both_long t u a.1 b)

replicate_long : (n : ℕ) (c : Call) → Long c → AllLong (replicate n c)
replicate_long zero c l = tt
replicate_long (suc n) c l = (l, replicate_long n c l)

take_long : (n : ℕ) (cs : List Call) → AllLong cs → AllLong (take n cs)
take_long zero cs a = tt
take_long (suc n) [] a = tt
take_long (suc n) (c ∷ cs) a = (a.0, take_long n cs a.1)

drop_long : (n : ℕ) (cs : List Call) → AllLong cs → AllLong (drop n cs)
drop_long zero cs a = a
drop_long (suc n) [] a = tt
drop_long (suc n) (c ∷ cs) a = drop_long n cs a.1

command_long : (memory : List ℕ) (c : Command) → AllLong (calls_of memory c)
unfolding calls_of
command_long memory (Command.Once a) = (call_long a memory, tt)
command_long memory (Command.Frames n) = replicate_long n (call_of Ask.Frame memory silence) (call_long Ask.Frame memory)
command_long memory Command.Nothing = tt

calls_long : (memory commands : List ℕ) (n k : ℕ) → AllLong (calls_from memory commands n k)
unfolding calls_from
calls_long memory commands zero k = tt
calls_long memory commands (suc n) k =
    both_long (calls_of memory (command_no commands k)) (calls_from memory commands n (suc k))
    (command_long memory (command_no commands k))
    (calls_long memory commands n (suc k))

-- ---- what is heard

pub none_heard : (m : List ℕ) → heard_from m [] ≡ []
unfolding heard_from frames_in outputs sound_of
none_heard m = refl

heard_both : (m : List ℕ) (t u : List Call) → AllLong t → heard_from m (t ++ u) ≡ heard_from m t ++ heard_from (run m t) u
unfolding run
heard_both m [] u a = ap (λ (l : List ℕ). l ++ heard_from m u) (sym (none_heard m))
heard_both m (c ∷ t) u a =
    heard-cons m c (t ++ u) (a.0 m)
    ∙ ap (λ (l : List ℕ). heard_at m c ++ l) (heard_both (after m c) t u a.1)
    ∙ sym (append_assoc (heard_at m c) (heard_from (after m c) t) (heard_from (run (after m c) t) u))
    ∙ ap (λ (l : List ℕ). l ++ heard_from (run (after m c) t) u) (sym (heard-cons m c t (a.0 m)))

-- wherever it is cut
pub in_parts : (m memory commands : List ℕ) (k made n : ℕ)
    → (let cs = left_from memory commands k made in heard_from m cs ≡ heard_from m (take n cs) ++ heard_from (run m (take n cs)) (drop n cs))
in_parts m memory commands k made n =
    let cs = left_from memory commands k made in
    let a = drop_long made (calls_from memory commands (command_count commands - k) k) (calls_long memory commands (command_count commands - k) k) in
    ap (heard_from m) (sym (take-append-drop n cs)) ∙ heard_both m (take n cs) (drop n cs) (take_long n cs a)

-- a part that was played, and what is left of the score after it
module _ {m memory commands : List ℕ} {k made : ℕ} {sound : List ℕ} {r : Played} {later heard : List ℕ}
    (p : Plays m memory commands k made sound r later heard) where
  pub part-heard : heard_from m (left_from memory commands k made)
      ≡ take (sample_size * r.frames) heard ++ heard_from later (left_from memory commands r.position.command r.position.made)
  part-heard = in_parts m memory commands k made (length sound / sample_size) ∙ rw (p.hears, p.leaves, p.goes) refl

  -- two outcomes are equal, but that the place in the score may have another name: the calls that are left are the same
  pub one_part : {s : Played} {later' heard' : List ℕ} → Plays m memory commands k made sound s later' heard'
      → (later ≡ later') × (heard ≡ heard') × (r.frames ≡ s.frames) × (r.refused ≡ s.refused)
      × (left_from memory commands r.position.command r.position.made ≡ left_from memory commands s.position.command s.position.made)
  one_part {s} {heard'} q =
      let f : r.frames ≡ s.frames = p.counts ∙ sym q.counts in
      let t : take (sample_size * r.frames) heard ≡ take (sample_size * r.frames) heard' =
      p.hears ∙ sym q.hears ∙ ap (λ (n : ℕ). take (sample_size * n) heard') (sym f) in
      let d : drop (sample_size * r.frames) heard ≡ drop (sample_size * r.frames) heard' =
      p.stays ∙ ap (λ (n : ℕ). drop (sample_size * n) sound) f ∙ sym q.stays ∙ ap (λ (n : ℕ). drop (sample_size * n) heard') (sym f) in (
        p.leaves ∙ sym q.leaves,
        sym (take-append-drop (sample_size * r.frames) heard) ∙ (λ i. t i ++ d i) ∙ take-append-drop (sample_size * r.frames) heard',
        f,
        p.refuses ∙ sym q.refuses,
        p.goes ∙ sym q.goes,
      )

-- all parts, from a place of the score on
parts_heard_lem : (ps : List Part) (m memory commands : List ℕ) (k made : ℕ) → PlaysAll m memory commands k made ps
    → parts_heard ps ≡ heard_from m (left_from memory commands k made)
unfolding parts_heard
parts_heard_lem [] m memory commands k made none = sym (ap (heard_from m) (left_none memory commands k made none) ∙ none_heard m)
parts_heard_lem (p ∷ ps) m memory commands k made plays =
    ap (λ (l : List ℕ). take (sample_size * p.played.frames) p.heard ++ l)
    (parts_heard_lem ps p.later memory commands p.played.position.command p.played.position.made plays.1)
    ∙ sym (part-heard plays.0)

-- and from its start on
pub score_heard : (ps : List Part) (memory score : List ℕ) → PlaysAll first_record memory (commands_of score) 0 0 ps → parts_heard ps ≡ score_sound memory score
score_heard ps memory score plays =
    let e : command_count (commands_of score) - 0 ≡ command_count (commands_of score) = omega arith in
    parts_heard_lem ps first_record memory (commands_of score) 0 0 plays
    ∙ ap (λ (n : ℕ). heard_from first_record (calls_from memory (commands_of score) n 0)) e

-- four bytes a frame
sound_bytes : (n : ℕ) (values : List ℤ) → length (sound_of n values) ≡ sample_size * n
unfolding sound_of sample_bytes little_bytes
sound_bytes zero values = refl
sound_bytes (suc n) values =
    let e : sample_size * suc n ≡ suc (suc (suc (suc (sample_size * n)))) = omega arith in
    rw e (ap (λ (k : ℕ). suc (suc (suc (suc k)))) (sound_bytes n (drop output_values values)))

heard_bytes : (m : List ℕ) (cs : List Call) → length (heard_from m cs) ≡ sample_size * frames_in cs
unfolding heard_from
heard_bytes m cs = sound_bytes (frames_in cs) (outputs m cs)

-- ---- how many frames there are

frames_both : (t u : List Call) → frames_in (t ++ u) ≡ frames_in t + frames_in u
unfolding frames_in
frames_both [] u = sym (zero-add (frames_in u))
frames_both (c ∷ t) u = omega (arith, frames_both t u)

frames_replicate : (c : Call) (b : Bool) → is_frame c ≡ b → (n : ℕ) → frames_in (replicate n c) ≡ cond b n 0
unfolding frames_in
frames_replicate c true e zero = refl
frames_replicate c false e zero = refl
frames_replicate c true e (suc n) = rw e (omega (arith, frames_replicate c true e n))
frames_replicate c false e (suc n) = rw e (omega (arith, frames_replicate c false e n))

frames_of_command : (memory : List ℕ) (c : Command) → frames_in (calls_of memory c) ≡ frames_of c
unfolding calls_of frames_of frames_in is_frame
frames_of_command memory (Command.Once a) = add-zero _ ∙ ap (λ (b : Bool). cond b 1 0) (asks_frame a memory silence)
frames_of_command memory (Command.Frames n) = frames_replicate (call_of Ask.Frame memory silence) true refl n
frames_of_command memory Command.Nothing = refl

-- of n commands, from command k on
frames_from : (memory commands : List ℕ) (n k : ℕ) → frames_in (calls_from memory commands n k) ≡ sum n (λ i. frames_of (command_no commands (k + i)))
unfolding calls_from frames_in sum
frames_from memory commands zero k = refl
frames_from memory commands (suc n) k =
    let f : ℕ → ℕ = λ j. frames_of (command_no commands j) in
    let here : frames_in (calls_from memory commands (suc n) k) ≡ frames_in (calls_of memory (command_no commands k)) + frames_in (calls_from memory commands n (suc k)) =
    frames_both (calls_of memory (command_no commands k)) (calls_from memory commands n (suc k)) in
    let first : f (k + 0) ≡ f k = ap f (add-zero k) in
    let others : sum n (λ i. f (suc k + i)) ≡ sum n (λ i. f (k + suc i)) =
    sum_ext n (λ i. f (suc k + i)) (λ i. f (k + suc i)) (λ i h. ap f (omega arith)) in
    omega (arith, here, frames_of_command memory (command_no commands k), frames_from memory commands n (suc k), first, others, sum_first n (λ i. f (k + i)))

all_counted : (memory commands : List ℕ) → all_frames commands ≡ frames_in (all_calls memory commands)
unfolding all_frames
all_counted memory commands =
    sum_ext (command_count commands) (λ k. frames_of (command_no commands k)) (λ i. frames_of (command_no commands (0 + i)))
    (λ i h. ap (λ (j : ℕ). frames_of (command_no commands j)) (sym (zero-add i)))
    ∙ sym (frames_from memory commands (command_count commands) 0)

pub frames_counted : (memory score : List ℕ) → score_frames score ≡ frames_in (score_calls memory score)
frames_counted memory score = all_counted memory (commands_of score)

pub score_bytes : (memory score : List ℕ) → length (score_sound memory score) ≡ sample_size * score_frames score
score_bytes memory score = heard_bytes first_record (score_calls memory score) ∙ ap (λ (n : ℕ). sample_size * n) (sym (frames_counted memory score))

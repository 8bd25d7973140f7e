-- What follows for a plain host, whose calls are those of a score: played on other voices the score sounds the same, and so it does when two
-- voices are written in the other order.
-- In order: a trace's parts put together; the calls of writes; a score is a trace; scores that are alike; the two corollaries. The record
-- that the calls of one write leave is `calls/proofs/WholeWrite`. Assumes nothing.
use mathlib.Core.Path.{◌≡◌, refl, sym, ap, subst, ◌∙◌}
use mathlib.Core.Logic.{◌≢◌}
use mathlib.Core.Bool.{true, false}
use mathlib.Core.List.{List, [], ◌∷◌, ◌++◌, map}
use Prim.Native.Nat.{ℕ, ◌+◌, ◌*◌, ◌≤◌}
use native.Mathlib.Decide.{ℕ_discrete}
use native.Mathlib.Omega.{arith}
use lib.Dec.{lit<, lit≤}
use lib.IntN.{ℤ, pos}
use lib.ListN.{length, get_or, replicate}
use borrow.Author.Tests.{eq-eqb, ne_eqb}
use Rattle.machine.specs.Words.{page_word, actv_word, voice_word, valid}
use Rattle.machine.proofs.Valid.{Sound, sound}
use Rattle.sample.specs.Sample.{most_memory_words}
use Rattle.registers.specs.Registers.{register_of, byte_of}
use Rattle.registers.specs.declared.Register.TheVariants.{Word}
use Rattle.registers.specs.Access.{write_record}
use Rattle.registers.specs.Named.{page_for, register_for}
use Rattle.registers.proofs.Named.{page_lt, register_lt, named}
use Rattle.registers.proofs.Writing.{byte_small, four_bytes, page_after}
use Rattle.frame.specs.Frame.{too_few}
use Rattle.frame.proofs.Answered.{not_refused_frame}
use Rattle.calls.specs.Calls.{Call, Frame, answer_to, after, run, outputs}
use Rattle.calls.specs.WholeWrite.{write_calls}
use Rattle.calls.proofs.Runs.{frame_sound, frame_word}
use Rattle.renumber.specs.Demand.{Renumbering, Match, Put, of_voice, Phase, idle, Between, nothing, reading, potting, asking, refused, paging, first, next, last}
use Rattle.renumber.specs.Demand.{Log, End, Then, Trace, stop, go_on, SameWrites, Alike}
use Rattle.renumber.specs.Score.{writes, all_writes, Step, calls_of, put_on, step_on, Fits, AllFit, Playable}
use Rattle.renumber.proofs.Same.{same_equal}
use Rattle.renumber.proofs.Stretch.{In, stretch, between}
use Rattle.renumber.proofs.Theorem.{over_frame, inaudible}

-- ---- parts put together

pub one_after_other : {m : List ℕ} {φ χ ψ : Phase} {t u : List Call} {ps qs : List Put} → Between m φ t ps χ → Between (run m t) χ u qs ψ
    → Between m φ (t ++ u) (ps ++ qs) ψ
unfolding run
one_after_other nothing e = e
one_after_other (reading a d) e = reading a (one_after_other d e)
one_after_other (potting p d) e = potting p (one_after_other d e)
one_after_other (asking d) e = asking (one_after_other d e)
one_after_other (refused a b l d) e = refused a b l (one_after_other d e)
one_after_other (paging k b hk hb d) e = paging k b hk hb (one_after_other d e)
one_after_other (first r v j b hr hv hj hb n d) e = first r v j b hr hv hj hb n (one_after_other d e)
one_after_other (next b hk hb d) e = next b hk hb (one_after_other d e)
one_after_other (last b hb d) e = last b hb (one_after_other d e)

-- calls, then a frame that is lent what it asks for, then a trace on the machine that it leaves: together they are a trace
pub one_frame_more : {m : List ℕ} {φ ψ : Phase} {t u : List Call} {ps : List Put} {l : Log} (memory : List ℕ) (out : List ℤ) → length memory ≤ most_memory_words → length out ≡ 12
    → Sound m → too_few m ≡ false → In m φ → Between m φ t ps ψ
    → (let n = after (run m t) (Frame memory out) in Sound n → too_few n ≡ false → In n ψ → Trace n ψ u l)
    → Trace m φ (t ++ Frame memory out ∷ u) (Then ps memory l)
unfolding answer_to
one_frame_more {m} {ψ = ψ} {t = t} memory out h k s v i d f =
    let r = stretch s i d in
    let s₁ = r.moved.sound in
    let v₁ : too_few (run m t) ≡ false = rw r.moved.active v in
    let v₂ : too_few (after (run m t) (Frame memory out)) ≡ false = rw (frame_word (run m t) memory out s₁ actv_word (lit≤ tt) (lit< tt) (λ e. omega arith) (λ e. omega arith)) v₁ in
    let a = not_refused_frame (run m t) memory out (record { machine = s₁; voices = v₁; samples = h; values = k }) in
    go_on memory out d a (f (frame_sound (run m t) memory out s₁) v₂ (over_frame ψ memory out s₁ r.phase))

-- ---- the calls of writes

pub one_write : {m : List ℕ} (p : Put) → Sound m → Fits p → Between m idle (writes p) (p ∷ []) idle
unfolding after writes write_calls
one_write {m} p s f =
    let v = p.voice in
    let j = p.word in
    let x = p.number in
    let hv = f.voice in
    let hj = f.word in
    let hp = page_lt v j hv in
    let e : register_of (get_or (write_record m (4 * 15 + 3) (page_for v j)) page_word 0) (register_for j) ≡ Word (voice_word v j) = rw (page_after (page_for v j) s (omega arith)) (named v j hv hj) in
    let q : ◌≡◌ {A = Put} (record { voice = v; word = j; number = 256 * (256 * (256 * byte_of 0 x + byte_of 1 x) + byte_of 2 x) + byte_of 3 x }) p =
    λ i. record { voice = v; word = j; number = four_bytes x f.number i } in
    subst (λ (y : Put). Between m idle (writes p) (y ∷ []) idle) q
    (paging 3 (page_for v j) (lit< tt) (omega arith)
    (first (register_for j) v j (byte_of 0 x) (register_lt j hj) hv hj (byte_small 0 x) e
    (next {k = 1} (byte_of 1 x) (lit< tt) (byte_small 1 x)
    (next {k = 2} (byte_of 2 x) (lit< tt) (byte_small 2 x)
    (last (byte_of 3 x) (byte_small 3 x) nothing)))))

all_writes_lem : {m : List ℕ} (ps : List Put) → Sound m → AllFit ps → Between m idle (all_writes ps) ps idle
unfolding all_writes
all_writes_lem [] s f = nothing
all_writes_lem {m = m} (p ∷ ps) s f = let d = one_write p s f.0 in one_after_other d (all_writes_lem {m = run m (writes p)} ps (between s d).sound f.1)

-- ---- a score is a trace

unfoldable pub log_of : List Step → Log
log_of [] = End []
log_of (f ∷ fs) = Then f.puts f.memory (log_of fs)

pub score_trace : {m : List ℕ} (fs : List Step) → Sound m → too_few m ≡ false → Playable fs → Trace m idle (calls_of fs) (log_of fs)
unfolding calls_of log_of
score_trace [] s v h = stop nothing
score_trace {m = m} (f ∷ fs) s v h = one_frame_more f.memory (replicate 12 (pos 0)) h.1 refl s v tt (all_writes_lem f.puts s h.0) (λ s₁ v₁ _. score_trace {m = after (run m (all_writes f.puts)) (Frame f.memory (replicate 12 (pos 0)))} fs s₁ v₁ h.2)

-- ---- scores that are alike

module _ (s : ℕ → ℕ) (active : ℕ) (R : Renumbering active s) where
  -- a voice and the voice that it becomes get the same writes
  writes_on : (ps : List Put) → AllFit ps → SameWrites s ps (map (put_on s) ps)
  unfolding put_on
  writes_on [] f v h = refl
  writes_on (p ∷ ps) f v h = at (ℕ_discrete v p.voice) (writes_on ps f.1 v h)
    where
      at : Dec (v ≡ p.voice) → of_voice v ps ≡ of_voice (s v) (map (put_on s) ps) → of_voice v (p ∷ ps) ≡ of_voice (s v) (map (put_on s) (p ∷ ps))
      at (yes e) q = rw (eq-eqb v p.voice e, eq-eqb (s v) (s p.voice) (ap s e), q)
      at (no e) q = rw (ne_eqb v p.voice e, ne_eqb (s v) (s p.voice) (λ z. e (R.one_to_one v p.voice h f.0.voice z)), q)

  score_on : (fs : List Step) → Playable fs → Alike s (log_of fs) (log_of (map (step_on s) fs))
  unfolding log_of step_on
  score_on [] h = λ v l. refl
  score_on (f ∷ fs) h = (writes_on f.puts h.0, refl, score_on fs h.2)

  fits_on : (ps : List Put) → AllFit ps → AllFit (map (put_on s) ps)
  unfolding put_on
  fits_on [] f = tt
  fits_on (p ∷ ps) f = (record { voice = R.into p.voice f.0.voice; word = f.0.word; number = f.0.number }, fits_on ps f.1)

  playable_on : (fs : List Step) → Playable fs → Playable (map (step_on s) fs)
  unfolding step_on
  playable_on [] h = tt
  playable_on (f ∷ fs) h = (fits_on f.puts h.0, h.1, playable_on fs h.2)

-- ---- the corollaries

-- A score played on other voices sounds the same, and leaves each voice as it would have left the other. Five voices or more are active, so
-- that no frame is refused; no score writes ACTV.
pub on_other_voices : (s : ℕ → ℕ) (m n : List ℕ) → valid m ≡ true → valid n ≡ true → too_few m ≡ false → Renumbering (get_or m actv_word 0) s → Match s m n
    → (fs : List Step) → Playable fs
    → (outputs m (calls_of fs) ≡ outputs n (calls_of (map (step_on s) fs))) × Match s (run m (calls_of fs)) (run n (calls_of (map (step_on s) fs)))
on_other_voices s m n vm vn v R M fs h =
    let r = inaudible s m n vm vn R M (calls_of fs) (calls_of (map (step_on s) fs)) (log_of fs) (log_of (map (step_on s) fs))
    (score_trace fs (sound m vm) v h) (score_trace (map (step_on s) fs) (sound n vn) (rw (← M.active) v) (playable_on s (get_or m actv_word 0) R fs h))
    (score_on s (get_or m actv_word 0) R fs h) in
    (r.1, r.2)

itself : ℕ → ℕ
itself v = v

score_itself : (fs : List Step) → Alike itself (log_of fs) (log_of fs)
unfolding log_of itself
score_itself [] = λ v h. refl
score_itself (f ∷ fs) = ((λ v h. refl), refl, score_itself fs)

nothing_renumbered : (active : ℕ) → Renumbering active itself
unfolding itself
nothing_renumbered active = record { into = λ v h. h; one_to_one = λ v u h k e. e; stays_active = λ v h. h }

matches_itself : (m : List ℕ) → Match itself m m
unfolding itself
matches_itself m = record { voices = λ v h. same_equal refl; active = refl; slow = refl; sums = λ c h. refl }

-- Two voices may be written in either order.
pub in_either_order : (m : List ℕ) → valid m ≡ true → too_few m ≡ false → (p q : Put) → p.voice ≢ q.voice → Fits p → Fits q → (memory : List ℕ) → length memory ≤ most_memory_words
    → (fs : List Step) → Playable fs
    → outputs m (calls_of (record { puts = p ∷ q ∷ []; memory = memory } ∷ fs)) ≡ outputs m (calls_of (record { puts = q ∷ p ∷ []; memory = memory } ∷ fs))
unfolding log_of itself
in_either_order m vm v p q d hp hq memory l fs h =
    let a : List Step = record { puts = p ∷ q ∷ []; memory = memory } ∷ fs in
    let b : List Step = record { puts = q ∷ p ∷ []; memory = memory } ∷ fs in
    (inaudible itself m m vm vm (nothing_renumbered (get_or m actv_word 0)) (matches_itself m) (calls_of a) (calls_of b) (log_of a) (log_of b)
    (score_trace a (sound m vm) v ((hp, (hq, tt)), l, h)) (score_trace b (sound m vm) v ((hq, (hp, tt)), l, h)) (either, refl, score_itself fs)).1
  where
    either : SameWrites itself (p ∷ q ∷ []) (q ∷ p ∷ [])
    either v h = at (ℕ_discrete v p.voice) (ℕ_discrete v q.voice)
      where
        at : Dec (v ≡ p.voice) → Dec (v ≡ q.voice) → of_voice v (p ∷ q ∷ []) ≡ of_voice v (q ∷ p ∷ [])
        at (yes e) (yes f) = absurd (d (sym e ∙ f))
        at (yes e) (no f) = rw (eq-eqb v p.voice e, ne_eqb v q.voice f)
        at (no e) (yes f) = rw (ne_eqb v p.voice e, eq-eqb v q.voice f)
        at (no e) (no f) = rw (ne_eqb v p.voice e, ne_eqb v q.voice f)

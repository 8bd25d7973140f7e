-- Which voice plays a note is inaudible: the theorem, for every pair of traces that it speaks of.
-- In order: two machines after the calls between two frames; that those put nothing out; a write over a frame; the traces, frame by frame; the
-- theorem. Assumes nothing.
use mathlib.Core.Path.{◌≡◌, refl, sym, ap, ap₂, ◌∙◌}
use mathlib.Core.List.{List, [], ◌∷◌, ◌++◌}
use Prim.Native.Nat.{ℕ}
use native.Mathlib.Omega.{arith}
use lib.Dec.{lit<, lit≤}
use lib.IntN.{ℤ}
use lib.ListN.{get_or}
use Rattle.answer.specs.Answer.{Done}
use Rattle.machine.specs.Words.{page_word, actv_word, write_latch_word}
use Rattle.machine.specs.Voices.{voice_at}
use Rattle.machine.proofs.Valid.{Sound, sound}
use Rattle.calls.specs.Calls.{Call, Frame, answer_to, after, output_from, run, outputs}
use Rattle.calls.proofs.Runs.{run_both, outputs_at, frame_sound, frame_word}
use Rattle.renumber.specs.Demand.{Into, Renumbering, Match, Put, of_voice, Phase, Between, nothing, reading, potting, asking, refused, paging, first, next, last}
use Rattle.renumber.specs.Demand.{Log, Trace, stop, go_on, SameWrites, Alike, SameFrame, Along, Inaudible}
use Rattle.renumber.proofs.Same.{same_equal, same_back, same_then}
use Rattle.renumber.proofs.Frame.{frame_same, frame_match}
use Rattle.renumber.proofs.Stretch.{Moved, puts, puts_same, voice_size, In, in_kept, stretch}

-- ---- two machines after the calls between two frames

moved_match : {s : ℕ → ℕ} {m n m' n' : List ℕ} {ps qs : List Put} → Into 32 s → Sound m → Sound n → Moved m ps m' → Moved n qs n' → SameWrites s ps qs → Match s m n
    → Match s m' n'
moved_match {s} {m} {n} {m'} {n'} {ps} {qs} into sm sn a b w M = record {
  voices = λ v h.
      same_then (a.voices v h)
      (same_then (puts_same (of_voice v ps) (voice_at m v) (voice_at n (s v)) (voice_size v sm h) (voice_size (s v) sn (into v h)) (M.voices v h))
      (same_then (same_equal (ap (λ p. puts p (voice_at n (s v))) (w v h))) (same_back (b.voices (s v) (into v h)))));
  active = a.active ∙ M.active ∙ sym b.active;
  slow = a.slow ∙ M.slow ∙ sym b.slow;
  sums = λ c h. a.sums c h ∙ M.sums c h ∙ sym (b.sums c h);
}

-- ---- the calls between two frames put nothing out

silent : {m : List ℕ} {φ ψ : Phase} {t : List Call} {ps : List Put} → Between m φ t ps ψ → outputs m t ≡ []
unfolding outputs output_from
silent nothing = refl
silent (reading a d) = silent d
silent (potting p d) = silent d
silent (asking d) = silent d
silent (refused a b l d) = silent d
silent (paging k b hk hb d) = silent d
silent (first r v j b hr hv hj hb e d) = silent d
silent (next b hk hb d) = silent d
silent (last b hb d) = silent d

-- ---- a write over a frame

-- a frame leaves PAGE and the write latch, so a begun write goes on after it
pub over_frame : {m : List ℕ} (φ : Phase) (memory : List ℕ) (out : List ℤ) → Sound m → In m φ → In (after m (Frame memory out)) φ
over_frame {m} φ memory out s i =
    let keeps = frame_word m memory out s in
    in_kept φ
    (record {
      page = keeps page_word (lit≤ tt) (lit< tt) (λ e. omega arith) (λ e. omega arith);
      latch = keeps write_latch_word (lit≤ tt) (lit< tt) (λ e. omega arith) (λ e. omega arith);
    })
    i

-- ---- the traces, frame by frame

along : (s : ℕ → ℕ) {m n : List ℕ} {φ ψ : Phase} {t u : List Call} {l k : Log} → Sound m → Sound n → In m φ → In n ψ → Renumbering (get_or m actv_word 0) s → Match s m n
    → (T : Trace m φ t l) (U : Trace n ψ u k) → Alike s l k → Along s T U × (outputs m t ≡ outputs n u) × Match s (run m t) (run n u)
unfolding run
along s sm sn pm pn R M (stop d) (stop e) w =
    let q = moved_match R.into sm sn (stretch sm pm d).moved (stretch sn pn e).moved w M in
    (q, silent d ∙ sym (silent e), q)
along s sm sn pm pn R M (stop d) (go_on memory out e a f) w = absurd w
along s sm sn pm pn R M (go_on memory out d a f) (stop e) w = absurd w
along s {m} {n} sm sn pm pn R M (go_on {ψ = φ₁} {t = t} {u = u} memory out d dm f) (go_on {ψ = ψ₁} {t = t'} {u = u'} memory' out' e dn g) w =
    let p = stretch sm pm d in
    let q = stretch sn pn e in
    let a = p.moved in
    let b = q.moved in
    let M₁ = moved_match R.into sm sn a b w.0 M in
    let R₁ : Renumbering (get_or (run m t) actv_word 0) s = rw a.active R in
    let dn₁ : answer_to (run n t') (Frame memory out') ≡ Done = rw w.1 dn in
    let F : SameFrame (run m t) (run n t') (Frame memory out) (Frame memory' out') =
    rw (← w.1) (frame_same memory s (run m t) (run n t') a.sound b.sound R₁ M₁ out out' dm dn₁) in
    let M₂ : Match s (after (run m t) (Frame memory out)) (after (run n t') (Frame memory' out')) =
    rw (← w.1) (frame_match memory s (run m t) (run n t') a.sound b.sound R₁ M₁ out out' dm dn₁) in
    let R₂ : Renumbering (get_or (after (run m t) (Frame memory out)) actv_word 0) s =
    rw (frame_word (run m t) memory out a.sound actv_word (lit≤ tt) (lit< tt) (λ e. omega arith) (λ e. omega arith)) R₁ in
    let r = along s (frame_sound (run m t) memory out a.sound) (frame_sound (run n t') memory' out' b.sound)
    (over_frame φ₁ memory out a.sound p.phase) (over_frame ψ₁ memory' out' b.sound q.phase) R₂ M₂ f g w.2 in (
      (M₁, F, M₂, r.0),
      outputs_at m t (Frame memory out) u (silent d) ∙ ap₂ (λ x y. x ++ y) F.values r.1 ∙ sym (outputs_at n t' (Frame memory' out') u' (silent e)),
      rw (run_both m t (Frame memory out ∷ u), run_both n t' (Frame memory' out' ∷ u')) r.2,
    )

-- ---- the theorem

pub inaudible : Inaudible
inaudible s m n vm vn R M t u l k T U w = along s (sound m vm) (sound n vn) tt tt R M T U w

-- A score that is good has its memory, and no more frames than a WAVE file holds. Assumes nothing.
use Rattle.std.proofs.Common.{◌≡◌, ◌≤◌, ◌*◌, ◌-◌, ℕ, List, ◌++◌, Option, Result, Ok, Err, OnOk, ap, length, length-append, subst, ◌∙◌, arith}
use Rattle.std.proofs.lemmas.List.{get_or_append_left}
use Rattle.std.specs.Io.KnownBytes.{Appends}
use Rattle.std.proofs.KnownBytes.{Appends-trans}
use Rattle.repeats.specs.Repeats.{command_count}
use Rattle.wave_head.specs.Head.{sound_head}
use Rattle.scores.specs.Sound.{sample_size}
use Rattle.scores.specs.Playing.{heard_from, left_from, first_record, score_sound}
use Rattle.scores.specs.Score.{most_frames, Filled, calls_from, commands_of, score_frames, all_frames}
use Rattle.scores.proofs.Judged.{good_score}
use Rattle.play.specs.Wave.{WritesSound}
use Rattle.play.proofs.sound.Goals as goal

-- the head and then the sound, written by one after the other
file_written : {T E : Type 0} (r : Result T E) (a b d : Option (List ℕ)) (score words commands : List ℕ) (bytes : ℕ) → commands ≡ commands_of score → bytes ≡ sample_size * score_frames score
    → length words ≡ 4096 → Filled 4096 score words → Appends a b (sound_head 2 31250 bytes) → OnOk r (Appends b d (heard_from first_record (left_from words commands 0 0)))
    → OnOk r (WritesSound a d score)
file_written (Err e) a b d score words commands bytes ec eb l f p s = tt
file_written (Ok v) a b d score words commands bytes ec eb l f p s =
    let zero : command_count (commands_of score) - 0 ≡ command_count (commands_of score) = omega arith in
    let sound : heard_from first_record (left_from words commands 0 0) ≡ score_sound words score =
    ap (λ (l : List ℕ). heard_from first_record (left_from words l 0 0)) ec ∙ ap (λ (n : ℕ). heard_from first_record (calls_from words (commands_of score) n 0)) zero in
    (words, l, f, subst (Appends a d) ((λ i. sound_head 2 31250 (eb i) ++ sound i)) (Appends-trans a b d _ _ p s))

pub fill-requires : goal.fill-requires
fill-requires g c = omega (arith, (good_score c.args.score.now c.requires.0).1)

pub frames_of-frames-requires : goal.frames_of-frames-requires
frames_of-frames-requires g c = rw c.requires.1 (good_score c.args.score.now c.requires.0).2

pub overflow_mul-frames : goal.overflow_mul-frames
overflow_mul-frames g c =
    let e = c.frames_of-frames.ensures ∙ ap all_frames c.requires.1 in
    let few : c.frames_of-frames.result ≤ most_frames = omega (arith, e, (good_score c.args.score.now c.requires.0).3) in
    record { fits = omega (arith, few) }

pub overflow_cast-frames : goal.overflow_cast-frames
overflow_cast-frames g c =
    let e = c.frames_of-frames.ensures ∙ ap all_frames c.requires.1 in
    let few : c.frames_of-frames.result ≤ most_frames = omega (arith, e, (good_score c.args.score.now c.requires.0).3) in
    record { fits = omega (arith, few) }

pub put_head-requires : goal.put_head-requires
put_head-requires g c =
    let e = c.frames_of-frames.ensures ∙ ap all_frames c.requires.1 in
    let few : c.frames_of-frames.result ≤ most_frames = omega (arith, e, (good_score c.args.score.now c.requires.0).3) in
    omega (arith, few)

pub returns : goal.returns
returns g c =
    let e = c.frames_of-frames.ensures ∙ ap all_frames c.requires.1 in
    file_written c.render.result _ _ _ c.args.score.now _ c.args.commands.now _ c.requires.1 (ap (λ (n : ℕ). sample_size * n) e)
    (omega (arith, length-append {A = ℕ})) (λ k h. grind (arith, get_or_append_left, c.fill.ensures k h)) c.in_ok-put_head.ensures c.render.ensures

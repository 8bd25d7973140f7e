-- Each call's own promise, with the number of its answer, is that of its C function. Assumes nothing.
use mathlib.Core.Path.{◌≡◌, refl, ap, ◌∙◌}
use mathlib.Core.List.{List}
use Prim.Native.Nat.{ℕ}
use lib.IntN.{ℤ}
use Rattle.answer.specs.Answer.{Answer, answer_number}
use Rattle.machine.specs.Reset.{Resets}
use Rattle.machine.specs.Waiting.{TellsWaiting}
use Rattle.registers.specs.Access.{Writes, Reads, SetsPot}
use Rattle.frame.specs.Frame.{Frames}
use Rattle.wave_in.specs.Import.{Imported, Imports}
use Rattle.calls.specs.Calls.{Reset, Write, SetPot, answer_to, after, given_by, output_from}
use Rattle.otto.specs.Promises.{Calling, Reading, TellingWaiting, Framing, Importing}

module _ {m later : List ℕ} {a : Answer} {n : ℕ} (number : n ≡ answer_number a) where
  pub reset_number : Resets m a later → Calling m Reset n later
  unfolding answer_to after
  reset_number p = record { answers = number ∙ ap answer_number p.answers; leaves = p.leaves }

  pub write_number : (address value : ℕ) → Writes m address value a later → Calling m (Write address value) n later
  unfolding answer_to after
  write_number address value p = record { answers = number ∙ ap answer_number p.answers; leaves = p.leaves }

  pub read_number : (address : ℕ) {b byte : ℕ} → byte ≡ b → Reads m address a b later → Reading m address n byte later
  unfolding answer_to after given_by
  read_number address e p = record { calls = record { answers = number ∙ ap answer_number p.answers; leaves = p.leaves }; gives = e ∙ p.gives }

  pub pot_number : (pot : ℕ) → SetsPot m pot a later → Calling m (SetPot pot) n later
  unfolding answer_to after
  pot_number pot p = record { answers = number ∙ ap answer_number p.answers; leaves = p.leaves }

  pub frame_number : (memory : List ℕ) (out : List ℤ) {x missing : ℕ} {sound : List ℤ} → missing ≡ x → Frames m memory out a x later sound
      → Framing m memory out n missing later sound
  unfolding answer_to after given_by output_from
  frame_number memory out e p = record {
    calls = record { answers = number ∙ ap answer_number p.answers; leaves = p.leaves };
    misses = e ∙ p.misses;
    sounds = p.sounds;
  }

pub waiting_number : {m : List ℕ} {a : Answer} {n x mask : ℕ} → n ≡ answer_number a → mask ≡ x → TellsWaiting m a x → TellingWaiting m n mask
unfolding answer_to after given_by
waiting_number number e p = record { calls = record { answers = number ∙ ap answer_number p.answers; leaves = refl }; gives = e ∙ p.gives }

pub import_number : (file memory : List ℕ) (word : ℕ) {r : Imported} {n start end bits samples : ℕ} {later : List ℕ} → n ≡ answer_number r.answer
    → start ≡ r.start → end ≡ r.end → bits ≡ r.bits → samples ≡ r.samples → Imports file memory word r later → Importing file memory word n start end bits samples later
import_number file memory word a s e b c p = record {
  answers = a ∙ ap (λ (x : Imported). answer_number x.answer) p.answers;
  starts = s ∙ ap (λ (x : Imported). x.start) p.answers;
  ends = e ∙ ap (λ (x : Imported). x.end) p.answers;
  loops = b ∙ ap (λ (x : Imported). x.bits) p.answers;
  counts = c ∙ ap (λ (x : Imported). x.samples) p.answers;
  leaves = p.leaves;
}

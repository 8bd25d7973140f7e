-- The three pieces that are written are the head. Assumes nothing.
use Rattle.std.proofs.Common.{◌≡◌, ◌∙◌, ℕ, ◌+◌, List, ◌++◌, Option, Result, Ok, Err, OnOk, sym, subst, append_assoc}
use Rattle.std.specs.Io.KnownBytes.{Appends}
use Rattle.std.proofs.KnownBytes.{Appends-trans}
use Rattle.wave_head.specs.Head.{riff_head, format_chunk, data_head, sound_head}
use Rattle.wave_head.proofs.Pieces.{head_pieces}
use Rattle.play.proofs.put_head.Goals as goal

head_written : {T E : Type 0} (r : Result T E) (a b c d : Option (List ℕ)) (x y z : List ℕ) (n : ℕ) → x ≡ riff_head (32 + n) → y ≡ format_chunk 2 31250 → z ≡ data_head n
    → Appends a b x → Appends b c y → OnOk r (Appends c d z) → OnOk r (Appends a d (sound_head 2 31250 n))
head_written (Err e) a b c d x y z n ex ey ez p q s = tt
head_written (Ok v) a b c d x y z n ex ey ez p q s =
    subst (Appends a d) (append_assoc x y z ∙ (λ i. ex i ++ (ey i ++ ez i)) ∙ sym (head_pieces 2 31250 n))
    (Appends-trans a c d _ _ (Appends-trans a b c x y p q) s)

pub returns : goal.returns
returns g c =
    head_written c.write_all-3.result _ _ _ _ _ _ _ c.args.bytes c.riff_head.ensures c.format_chunk.ensures c.data_head.ensures c.in_ok-write_all.ensures.bytes c.in_ok-write_all-2.ensures.bytes c.write_all-3.ensures.bytes

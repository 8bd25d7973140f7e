-- The checked figures, one table under one theorem. A row is a pair: what a definition gives, and the number that it has to be.
-- `figures_hold` says that the table's two columns are the same list, by computation, so a new figure is a new row and nothing else.
-- The definitions are those that contracts cite, with two exceptions. Samples are compressed by the promise `Compressed`, which says what
-- the code has to be and not how to find it, and `code_of` finds it; so figure 2 stands once more after the table, over the promise. And
-- `volume_of` is `panned` once o = O4 / 4 is taken. Before the table stands what its rows share; after it also a table of words that a voice
-- misses, and what figures 5, 8 and 12 say of every value. Assumes nothing.
use mathlib.Core.Path.{◌≡◌, refl, ◌∙◌}
use mathlib.Core.List.{List, [], ◌∷◌, ◌++◌, map}
use mathlib.Core.Bool.{false}
use Prim.Native.Nat.{ℕ, zero, suc, ◌+◌, ◌<◌}
use native.Mathlib.Nat.{mul-zero}
use native.Mathlib.Omega.{arith}
use lib.IntN.{ℤ, pos}
use lib.ListN.{replicate}
use lib.Signed.{le_z_yes}
use Rattle.numbers.specs.Numbers.{floor_div, floor_mod, minus, signed, word, held}
use Rattle.codes.specs.Codes.{value_of, Compressed, best_below, code_of}
use Rattle.codes.proofs.Samples.{compressed_is}
use Rattle.control.specs.Control.{stp0_bit, lpe_bit, ble_bit, dir_bit, bit_of, flag_of, with_bit, runs}
use Rattle.sample.specs.Sample.{first_at, second_at, fetched, missing_of, interpolated}
use Rattle.filter.specs.Filter.{low_pass, high_pass}
use Rattle.volume.specs.Volume.{mantissa, exponent, volume_of}
use Rattle.channel.specs.Channel.{mixed, put_out}
use Rattle.address.specs.Address.{raised, forward_event, reverse_event, forward, reverse, stepped}
use Rattle.address.proofs.Laws.{same_place, on_within}
use Rattle.ramp.specs.Ramp.{increment, ramped}
use Rattle.voice.specs.Voice.{Voice, voice_of}
use Rattle.voice.specs.Missed.{missed_by}

-- a channel after n voices have added z to it, from 0 on
mixed_times : ℕ → ℤ → ℕ
mixed_times zero z = 0
mixed_times (suc n) z = mixed (mixed_times n z) (word 23 z)

-- The control register by loop mode, BLE and LPE, with all other bits 0.
abbrev stops : ℕ
stops = 0

abbrev loops : ℕ
loops = with_bit lpe_bit 1 0

abbrev turns_round : ℕ
turns_round = with_bit ble_bit 1 (with_bit lpe_bit 1 0)

-- in reverse
abbrev back : ℕ → ℕ
back = with_bit dir_bit 1

-- the registers that a step reads
record Registers : Type 0 where
  cr : ℕ
  fc : ℕ
  start : ℕ
  end : ℕ
  accum : ℕ

-- what the step leaves: ACCUM, and a bit of the control register
accum_after : Registers → ℤ
accum_after r = pos (stepped r.cr r.fc r.start r.end r.accum).accum

bit_after : ℕ → Registers → ℤ
bit_after n r = pos (bit_of n (stepped r.cr r.fc r.start r.end r.accum).cr)

pub figures : List (ℤ × ℤ)
figures =
    -- 1. codes expanded: the greatest value, and the ends of exponent 0
    (value_of 0xFF, pos 31744)
    ∷ (value_of 0x10, minus 256)
    ∷ (value_of 0x0F, pos 240)
    ∷ (value_of 0x1F, minus 16)
    -- 2. samples compressed: one between two values takes the lower
    ∷ (pos (code_of (minus 17)), pos 0x1E)
    ∷ (pos (code_of (pos 256)), pos 0x30)
    -- 3. between two samples, upwards and downwards
    ∷ (interpolated 511 (pos 100) (pos 101), pos 403)
    ∷ (interpolated 511 (pos 101) (pos 100), pos 400)
    -- 4. a low pass comes to rest at 0 from above, and at -1 from below
    ∷ (low_pass 4095 (pos 0) (pos 100), pos 0)
    ∷ (low_pass 4095 (pos 0) (minus 1), minus 1)
    -- 5. a high pass is held to its range
    ∷ (high_pass 0 (pos 131071) (minus 131072) (pos 0), pos 131071)
    -- 6. the loudest volume, and volume 0, which is no silence
    ∷ (volume_of 0xFFF0 (pos 32767), pos 523248)
    ∷ (volume_of 0 (pos 32767), pos 7)
    ∷ (volume_of 0 (minus 1), minus 1)
    -- 7. eight loud voices in a channel reach the upper rail; a ninth wraps the sum, which reaches the lower
    ∷ (put_out (mixed_times 8 (pos 523248)), pos 524287)
    ∷ (put_out (mixed_times 9 (pos 523248)), minus 524288)
    -- 8. a step onto END is no event; one past END goes on one past START
    ∷ (accum_after (record { cr = loops; fc = 1; start = 2048; end = 10240; accum = 10239 }), pos 10240)
    ∷ (accum_after (record { cr = loops; fc = 1; start = 2048; end = 10240; accum = 10240 }), pos 2049)
    -- 9. a voice turns round at END; where the loop has no length, it does so past the end of the addresses
    ∷ (accum_after (record { cr = turns_round; fc = 5; start = 2048; end = 10240; accum = 10240 }), pos 10235)
    ∷ (bit_after dir_bit (record { cr = turns_round; fc = 5; start = 2048; end = 10240; accum = 10240 }), pos 1)
    ∷ (accum_after (record { cr = turns_round; fc = 5; start = 0; end = 0; accum = 0 }), pos 4294967291)
    ∷ (bit_after dir_bit (record { cr = turns_round; fc = 5; start = 0; end = 0; accum = 0 }), pos 1)
    -- 10. in reverse a target below 0 is past START
    ∷ (accum_after (record { cr = (back stops); fc = 5; start = 0; end = 10240; accum = 3 }), pos 0)
    ∷ (bit_after stp0_bit (record { cr = (back stops); fc = 5; start = 0; end = 10240; accum = 3 }), pos 1)
    -- 11. a ramp is held to its range at either end
    ∷ (pos (ramped 65500 0x7F00), pos 65535)
    ∷ (pos (ramped 100 0x8000), pos 0)
    -- 12. a voice that does not move is at its loop point without an event; past it, it has one
    ∷ (accum_after (record { cr = stops; fc = 0; start = 2048; end = 10240; accum = 10240 }), pos 10240)
    ∷ (bit_after stp0_bit (record { cr = stops; fc = 0; start = 2048; end = 10240; accum = 10240 }), pos 0)
    ∷ (accum_after (record { cr = stops; fc = 0; start = 2048; end = 10240; accum = 10241 }), pos 10240)
    ∷ (bit_after stp0_bit (record { cr = stops; fc = 0; start = 2048; end = 10240; accum = 10241 }), pos 1)
    -- 13. a high pass keeps half of its last output where k is 0; and it rounds once: half of -1 and 1 / 8192 of it, each rounded down, would
    -- be -2 together
    ∷ (high_pass 0 (pos 0) (pos 0) (pos 1000), pos 500)
    ∷ (high_pass 1 (pos 0) (pos 0) (minus 1), minus 1)
    -- Beside the thirteen, a target past the end of the addresses: it is past END. Tested after it has wrapped, it would be 72 and no event.
    ∷ (accum_after (record { cr = loops; fc = 200; start = 2048; end = 4294967168; accum = 4294967168 }), pos 2248)
    ∷ []

pub figures_hold : map (λ (row : ℤ × ℤ). row.0) figures ≡ map (λ (row : ℤ × ℤ). row.1) figures
unfolding figures mixed_times accum_after bit_after floor_div floor_mod signed word held value_of best_below code_of bit_of flag_of with_bit interpolated low_pass high_pass mantissa exponent volume_of mixed put_out raised forward_event reverse_event forward reverse stepped increment ramped
figures_hold = refl

-- Whatever code the promise allows for these samples is the table's.
pub promised_codes : {c : ℕ} → (Compressed (minus 17) c → c ≡ 0x1E) × (Compressed (pos 256) c → c ≡ 0x30)
unfolding value_of best_below code_of
promised_codes = (compressed_is (le_z_yes tt), compressed_is (le_z_yes tt))

-- ---- words that a voice misses

-- a voice by CR and ACCUM, all else 0, and how many words it misses where the memory has one
abbrev placed : ℕ → ℕ → Voice
placed CR ACCUM = voice_of (CR ∷ replicate 12 0 ++ ACCUM ∷ [])

missed_of_one : ℕ → ℕ → ℕ
missed_of_one CR ACCUM = missed_by (1000 ∷ []) (placed CR ACCUM)

-- At that word the next is missing, though it is not heard; at the bank's last word that one is, and the next is the word that is there; at the
-- second word both are. A voice that is stopped there misses none.
pub missed : List (ℕ × ℕ)
missed = (missed_of_one 0 0, 1) ∷ (missed_of_one 0 4294965248, 1) ∷ (missed_of_one 0 2048, 2) ∷ (missed_of_one (with_bit stp0_bit 1 0) 2048, 0) ∷ []

pub missed_hold : map (λ (row : ℕ × ℕ). row.0) missed ≡ map (λ (row : ℕ × ℕ). row.1) missed
unfolding missed missed_of_one missed_by missing_of fetched first_at second_at runs flag_of bit_of with_bit
missed_hold = refl

-- ---- figures that hold of every value

-- 8 and 12: whatever the loop points, the mode and LEI are, a step that leads onto END is no event.
pub onto_END : (CR FC START END ACCUM : ℕ) → flag_of dir_bit CR ≡ false → ACCUM + FC ≡ END → END < 4294967296
    → stepped CR FC START END ACCUM ≡ record { accum = END; cr = CR }
onto_END CR FC START END ACCUM d e h = on_within CR FC START END ACCUM d (omega arith) h ∙ same_place e refl

-- 5: with a last output of 0 the coefficient has no part in the high pass.
pub no_coefficient : (k : ℕ) (x x' : ℤ) → high_pass k x x' (pos 0) ≡ high_pass 0 x x' (pos 0)
unfolding high_pass
no_coefficient k x x' = rw (mul-zero (4096 + k))

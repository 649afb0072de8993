-- One more device.
use Rattle.std.proofs.Common.{◌≡◌, ℕ, suc, ◌+◌, ◌-◌, ◌<◌, List, ◌∷◌, ◌++◌, [], ap, sym, ◌∙◌, append_assoc, arith}
use Rattle.iasl_messages.specs.declared.place.Line.{Line}
use Rattle.generated_lines.specs.Generated.{device_text, line_at, devices_from}

next_device : (number count : ℕ) → number < count → devices_from number (count - number) ≡ line_at (number + 3) (device_text number) ∷ devices_from (number + 1) (count - (number + 1))
next_device number count lt =
    let one_less : count - number ≡ suc (count - (number + 1)) = omega arith in
    ap (devices_from number) one_less

pub one_more : (lines more all : List Line) (number count : ℕ) → number < count → lines ++ devices_from number (count - number) ≡ all → more ≡ lines ++ line_at (number + 3) (device_text number) ∷ [] → more ++ devices_from (number + 1) (count - (number + 1)) ≡ all
one_more lines more all number count lt h e =
    ap (λ ls. ls ++ devices_from (number + 1) (count - (number + 1))) e
    ∙ append_assoc lines (line_at (number + 3) (device_text number) ∷ []) (devices_from (number + 1) (count - (number + 1)))
    ∙ ap (λ ls. lines ++ ls) (sym (next_device number count lt)) ∙ h

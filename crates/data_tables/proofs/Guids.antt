-- UUIDs as values.
use Rattle.std.proofs.Common.{◌≡◌, ◌≤◌, ℕ, List, [], drop, take, ap, ◌∙◌}
use Rattle.std.specs.Prelude.{cond, length, None}
use Rattle.std.specs.declared.option.Option.{Option}
use Rattle.std.proofs.lemmas.List.{take_all}
use Rattle.std.proofs.Math.ListN.{drop_of_length-le}
use Rattle.resource_macros.specs.Identifiers.{uuid_of}
use Rattle.hex_text.specs.Blanks.{has_blanks_alone}
use Rattle.data_tables.specs.Fields.{guid_from}

-- of at most 36 characters all are asked
pub short : (text : List ℕ) → length text ≤ 36 → guid_from text ≡ uuid_of text
short text h =
    let none : drop 36 text ≡ [] = drop_of_length-le text h in
    let all : take 36 text ≡ text = take_all 36 text h in
    ap (λ (rest : List ℕ). cond {A = Option (List ℕ)} (has_blanks_alone rest) (uuid_of (take 36 text)) None) none ∙ ap uuid_of all

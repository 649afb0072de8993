use Rattle.std.proofs.Common.{◌≡◌, ℕ, List, string_bytes}
use Rattle.std.specs.Option.{option_map}
use Rattle.table_outputs.specs.Noted.{is_noted}
use Rattle.table_outputs.proofs.NameLaws.{met, first_from}
use Rattle.table_outputs.proofs.names.first_in_use.Given as goal

abbrev pub invariant-loop-i : goal.invariant-loop-i
invariant-loop-i l = record {
  noted : (name : List ℕ) → is_noted l.noted (λ key. key.items) name ≡ met l.files (λ name. string_bytes name.now) l.names l.i name;
  found : option_map (λ name. string_bytes name.now) l.found ≡ first_from l.files (λ name. string_bytes name.now) l.names l.i;
}

use Rattle.std.proofs.Common.{◌≡◌, ℕ, List, take}
use Rattle.table_outputs.specs.Files.{is_fetched}
use Rattle.table_outputs.specs.Noted.{is_noted}
use Rattle.table_outputs.proofs.names.noted_files.Given as goal

abbrev pub invariant-loop-file : goal.invariant-loop-file
invariant-loop-file l = (name : List ℕ) → is_noted l.noted (λ key. key.items) name ≡ is_fetched (take l.file-index l.files) name

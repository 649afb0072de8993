use Rattle.std.proofs.Common.{◌≡◌, ℕ, List, subst}
use Rattle.std.specs.Prelude.{◌||◌}
use Rattle.iasl_ports.specs.Fetched.{same_name}
use Rattle.table_outputs.specs.Noted.{is_noted}
use Rattle.table_outputs.proofs.NameLaws.{file_noted}
use Rattle.table_outputs.proofs.names.noted_files.Goals as goal

pub loop-file-preserved : goal.loop-file-preserved
loop-file-preserved c =
    file_noted c.args.files.now c.loop-file.file-index c.file-item.result (is_noted c.loop-file.noted (λ key. key.items)) (is_noted c.note.new.noted (λ key. key.items)) c.loop-file-test.true c.file-item.is
    (subst (λ file. (name : List ℕ) → is_noted c.note.new.noted (λ key. key.items) name ≡ (is_noted c.loop-file.noted (λ key. key.items) name || same_name file name)) c.as_bytes.ensures c.in_ok-note.ensures.noted)
    c.loop-file.invariant

use Rattle.std.proofs.Common.{ℕ, List, ap, ◌∙◌}
use Rattle.std.specs.Prelude.{◌||◌}
use Rattle.std.specs.List.{list_any}
use Rattle.iasl_ports.specs.Fetched.{same_name}
use Rattle.table_outputs.specs.Noted.{is_noted}
use Rattle.table_outputs.proofs.NameLaws.{noted}
use Rattle.table_outputs.proofs.names.note.Goals as goal

pub returns-clause-noted : goal.returns-clause-noted
returns-clause-noted c = λ other.
    ap (list_any (λ key. same_name key.items other)) c.in_ok-is_new.ensures.keys ∙ noted (λ key. key.items) c.in_ok-copy.copy c.args.noted.now.keys other
    ∙ ap (λ (name : List ℕ). is_noted c.args.noted.now (λ key. key.items) other || same_name name other) c.in_ok-copy.ensures

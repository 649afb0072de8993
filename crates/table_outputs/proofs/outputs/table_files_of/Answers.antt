use Rattle.std.proofs.Common.{string_bytes}
use Rattle.iasl_ports.specs.Delivery.{name_and_bytes}
use Rattle.iasl_backends.specs.declared.backend.Kind.TheVariants as kinds
use Rattle.iasl_backends.specs.Rendering.{rendering}
use Rattle.table_outputs.specs.Decision.{file_under}
use Rattle.table_outputs.proofs.OutputLaws.{behind_table}
use Rattle.table_outputs.proofs.outputs.table_files_of.Goals as goal

pub returns : goal.returns
returns g c = λ all fed.
    behind_table name_and_bytes c.file_of.result c.args.earlier.items c.push.new.self.items c.push_named.new.files.items c.push_named-2.new.files.items (string_bytes c.args.names.table, rendering kinds.RawAml all)
    (file_under string_bytes c.args.names.c_text (rendering kinds.CHex all)) (file_under string_bytes c.args.names.listing (rendering kinds.Listing all))
    c.in_ok-push.ensures.items (c.file_of.ensures all fed) (c.in_ok-push_named.ensures all fed) (c.in_ok-push_named-2.ensures all fed)

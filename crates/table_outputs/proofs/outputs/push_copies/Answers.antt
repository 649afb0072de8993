use Rattle.std.proofs.Common.{refl, string_bytes}
use Rattle.iasl_ports.specs.Delivery.{name_and_bytes}
use Rattle.iasl_backends.specs.declared.backend.Kind.TheVariants as kinds
use Rattle.iasl_backends.specs.Rendering.{rendering}
use Rattle.table_outputs.specs.Decision.{file_under}
use Rattle.table_outputs.proofs.OutputLaws.{behind_step}
use Rattle.table_outputs.proofs.outputs.push_copies.Goals as goal

pub push_copy-requires-clause-there : goal.push_copy-requires-clause-there
push_copy-requires-clause-there g c = c.requires.there kinds.RawAml refl

pub push_copy_named-requires-clause-there : goal.push_copy_named-requires-clause-there
push_copy_named-requires-clause-there g c = c.requires.there kinds.CHex

pub push_copy_named-requires-2-clause-there : goal.push_copy_named-requires-2-clause-there
push_copy_named-requires-2-clause-there g c = c.requires.there kinds.Listing

pub returns : goal.returns
returns g c = λ all fed.
    behind_step name_and_bytes c.args.files.now.items c.push_copy.new.files.items c.push_copy_named.new.files.items c.push_copy_named-2.new.files.items (string_bytes c.args.names.now.table, rendering kinds.RawAml all)
    (file_under string_bytes c.args.names.now.c_text (rendering kinds.CHex all)) (file_under string_bytes c.args.names.now.listing (rendering kinds.Listing all))
    (c.in_ok-push_copy.ensures all fed) (c.in_ok-push_copy_named.ensures all fed) (c.in_ok-push_copy_named-2.ensures all fed)

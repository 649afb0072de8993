use Rattle.std.proofs.Common.{refl, string_bytes}
use Rattle.iasl_backends.specs.declared.backend.Kind.TheVariants.{CHex, Listing}
use Rattle.iasl_backends.specs.Rendering.{rendering}
use Rattle.table_outputs.specs.Decision.{file_under}
use Rattle.table_outputs.proofs.OutputLaws.{names_behind}
use Rattle.table_outputs.proofs.names.push_names.Goals as goal

pub returns : goal.returns
returns c = λ pieces.
    names_behind (λ name. string_bytes name.now) c.args.names.now.items c.push.new.self.items c.push_name.new.names.items c.push_name-2.new.names.items _ (string_bytes c.args.table.now.table)
    (file_under string_bytes c.args.table.now.c_text (rendering CHex pieces)) (file_under string_bytes c.args.table.now.listing (rendering Listing pieces))
    c.in_ok-push.ensures.items refl (c.in_ok-push_name.ensures (rendering CHex pieces)) (c.in_ok-push_name-2.ensures (rendering Listing pieces))

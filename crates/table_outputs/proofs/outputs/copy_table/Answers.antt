use Rattle.std.proofs.Common.{◌≡◌, refl, subst}
use Rattle.std.specs.List.{All}
use Rattle.table_outputs.specs.Decision.{table_kinds}
use Rattle.table_outputs.proofs.KindLaws.{still_there}
use Rattle.table_outputs.proofs.outputs.copy_table.Goals as goal

pub push_copies-requires-clause-there : goal.push_copies-requires-clause-there
push_copies-requires-clause-there g c =
    let kinds = table_kinds c.args.table.now.names in
    still_there (λ b. (goal.Backend-dyn g (b.vtable, b.value)).kind_of b.value) kinds kinds c.args.backends.now.items c.render_all.new.backends.items refl c.render_all.ensures.kinds c.requires.there

pub returns-clause-files : goal.returns-clause-files
returns-clause-files g c =
    c.push_copies.ensures c.args.table.now.pieces (subst (λ table. All (λ b. (goal.Backend-dyn g (b.vtable, b.value)).pieces b.value ≡ table) c.render_all.new.backends.items) c.as_slice.ensures c.in_ok-render_all.ensures.shared)

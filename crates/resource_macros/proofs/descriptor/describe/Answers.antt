use Rattle.std.proofs.Common.{ap, ◌∙◌}
use Rattle.resource_macros.specs.Resources.{bytes_in, has_room}
use Rattle.resource_macros.proofs.Law.{reads_where_room}
use Rattle.resource_macros.proofs.descriptor.describe.Goals as goal

pub returns-clause-reads : goal.returns-clause-reads
returns-clause-reads c =
    let args = c.args.args.now in
    let body = c.args.body.now in
    reads_where_room c.args.descriptor args body c.in_ok-encode.field-0.bytes.items c.in_ok-encode.field-0.has_room
    (c.in_ok-encode.ensures.bytes ∙ ap (λ row. bytes_in row args body) c.row_of-row.ensures)
    (c.in_ok-encode.ensures.room ∙ ap (λ row. has_room row args body) c.row_of-row.ensures)

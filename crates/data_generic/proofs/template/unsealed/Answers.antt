use Rattle.std.proofs.Common.{refl, ◌∙◌}
use Rattle.data_generic.specs.declared.template.Writer.{Writer}
use Rattle.data_generic.proofs.Writes.{three_steps}
use Rattle.data_generic.proofs.template.unsealed.Goals as goal

pub returns : goal.returns
returns c =
    let first : Writer = record { alloc = c.args.alloc; table = c.args.table; headings = 0; pieces = c.new.result } in
    three_steps c.args.table first c.add_rows.new.self c.add_rows-2.new.self c.add_behind.new.self c.header_rows.result.now c.fixed_rows.result.now c.revision_of.result
    c.header_rows.ensures c.revision_of.ensures c.fixed_rows.ensures c.new.ensures refl refl (c.add_rows-2.ensures.table ∙ c.add_rows.ensures.table)
    c.in_ok-add_rows.ensures.pieces c.in_ok-add_rows-2.ensures.pieces c.in_ok-add_behind.ensures

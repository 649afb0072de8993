use Rattle.std.proofs.Common.{◌<◌, None, length, get_or, sym, ap, ◌∙◌, arith}
use Rattle.std.proofs.lemmas.List.{get_or_read}
use Rattle.descriptor_fields.proofs.Said.{none_behind, first_put, later_put, put_said}
use Rattle.descriptor_fields.proofs.nodes.put.Goals as goal

pub loop-table-preserved : goal.loop-table-preserved
loop-table-preserved g c n = ap (λ xs. get_or xs n None) c.in_ok-push.ensures.items ∙ none_behind c.loop-table.table.items n ∙ c.loop-table.invariant n

pub returns-in-None : goal.returns-in-None
returns-in-None g c =
    let within : c.args.number < length c.loop-table.table.items = omega (arith, c.loop-table-test.false, c.len.ensures) in
    let put = first_put c.args.table.now.items c.loop-table.table.items c.args.number c.args.value within c.loop-table.invariant
    (sym (get_or_read c.loop-table.table.items c.args.number c.index.result.now within c.index.ensures None) ∙ c.in-None.is) in
    record { put = put; said = put_said _ _ c.args.number c.args.value put }

pub returns-in-Some : goal.returns-in-Some
returns-in-Some g c =
    let within : c.args.number < length c.loop-table.table.items = omega (arith, c.loop-table-test.false, c.len.ensures) in
    let put = later_put c.args.table.now.items c.loop-table.table.items c.args.number c.args.value c.in-Some.field-0 c.loop-table.invariant
    (sym (get_or_read c.loop-table.table.items c.args.number c.index.result.now within c.index.ensures None) ∙ c.in-Some.is) in
    record { put = put; said = put_said _ _ c.args.number c.args.value put }

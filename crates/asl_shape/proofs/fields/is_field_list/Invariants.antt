use Rattle.std.proofs.Common.{◌≡◌, drop}
use Rattle.asl_shape.specs.Shapes.{begin}
use Rattle.asl_shape.specs.AtRaw.{is_field_list_at}
use Rattle.asl_shape.proofs.fields.is_field_list.Given as goal

abbrev pub invariant-loop-raw : goal.invariant-loop-raw
invariant-loop-raw l = is_field_list_at l.due (drop l.raw-index l.raws) ≡ is_field_list_at begin l.raws

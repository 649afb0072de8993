use Rattle.std.proofs.Common.{◌≡◌, ◌++◌, drop}
use Rattle.resource_macros.specs.Resources.{head_dues, field_dues, listed}
use Rattle.resource_macros.proofs.encoded.all_dues.Given as goal

abbrev pub invariant-loop-field : goal.invariant-loop-field
invariant-loop-field l = l.dues.items ++ field_dues l.args (listed l.members l.before l.bytes) (drop l.field-index l.fields) ≡ head_dues l.fn.row.head l.bytes ++ field_dues l.args (listed l.members l.before l.bytes) l.fields

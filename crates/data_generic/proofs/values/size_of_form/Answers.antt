use Rattle.std.proofs.Common.{Some, sym, ap, ◌∙◌}
use Rattle.data_generic.specs.declared.types.DataType.{DataType}
use Rattle.data_generic.specs.declared.types.DataType.TheVariants as d
use Rattle.data_generic.specs.Values.{bytes_by, plain_value, size_by}
use Rattle.data_generic.proofs.Wraps.{length_is}
use Rattle.data_generic.proofs.values.size_of_form.Goals as goal

pub returns-in_ok-buffer_bytes-in-Buffer : goal.returns-in_ok-buffer_bytes-in-Buffer
returns-in_ok-buffer_bytes-in-Buffer c =
    length_is (bytes_by d.Buffer) (plain_value d.Buffer c.args.value.now) c.in_ok-buffer_bytes-in-Buffer.field-0 c.length_of-in-Buffer.result c.in_ok-buffer_bytes-in-Buffer.ensures c.length_of-in-Buffer.ensures
    ∙ sym (ap (λ (form : DataType). size_by (Some form) c.args.value.now) c.in-Buffer.is)

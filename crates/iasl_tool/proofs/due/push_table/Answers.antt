use Rattle.std.proofs.Common.{refl, ◌∙◌, ap, ◌++◌}
use Rattle.iasl_options.specs.Shown.{asked_of}
use Rattle.iasl_tool.proofs.Outputs.{name_of_first, line_as}
use Rattle.iasl_tool.proofs.due.push_table.Goals as goal

pub returns : goal.returns
returns c =
    let files = c.in_ok-names.ensures.files c.args.table.pieces in
    let name = name_of_first (asked_of c.args.options.now) c.args.options.now.file c.args.table.own c.args.table.pieces c.in_ok-names.names files in
    record {
      one = record { names = c.in_ok-names.names; pieces = c.args.table.pieces };
      tables = c.in_ok-push.ensures.ok;
      lines = c.in_ok-push_line.ensures ∙ ap (λ line. c.args.all.now.lines.items ++ line) (line_as (c.as_bytes.ensures.value ∙ name) c.as_bytes-2.ensures c.as_slice.ensures);
      files = files;
      kinds = c.in_ok-names.ensures.kinds;
      pieces = refl;
    }

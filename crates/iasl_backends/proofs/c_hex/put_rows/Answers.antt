use Rattle.std.proofs.Common.{rules, arith, ◌++◌, false-eqb}
use Rattle.std.specs.List.{flat_map}
use Rattle.iasl_backends.specs.Table.{rows}
use Rattle.iasl_backends.specs.CText.{c_row}
use Rattle.iasl_backends.proofs.Steps.{c_row_next}
use Rattle.iasl_backends.proofs.c_hex.put_rows.Goals as goal

pub loop-rest-preserved : goal.loop-rest-preserved
loop-rest-preserved c =
    rw c.behind-rest.ensures
    (c_row_next c.loop-rest.out.items c.put_row.new.out.items c.loop-rest.rest.now (c.args.out.now.items ++ flat_map c_row (rows 8 c.args.bytes.now))
    (omega (arith, false-eqb _ 0 c.loop-rest-test.ensures)) (search (rules, c.put_row.ensures, c.front.ensures)) c.loop-rest.invariant)

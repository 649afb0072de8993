use Rattle.std.proofs.Common.{rules, arith, ◌++◌, false-eqb}
use Rattle.iasl_backends.specs.Table.{rows}
use Rattle.iasl_backends.specs.Listing.{listed_rows}
use Rattle.iasl_backends.proofs.Steps.{listed_row_next, row_room}
use Rattle.iasl_backends.proofs.listing.put_rows.Goals as goal

pub loop-rest-preserved : goal.loop-rest-preserved
loop-rest-preserved c = record {
  room = rw (c.behind-rest.ensures, c.front-row.ensures) (row_room c.loop-rest.at _ c.loop-rest.rest.now c.loop-rest.invariant.room);
  text =
      rw (c.behind-rest.ensures, c.front-row.ensures)
      (listed_row_next c.loop-rest.at c.loop-rest.out.items c.put_row.new.out.items c.loop-rest.rest.now (c.args.out.now.items ++ listed_rows c.args.offset (rows 16 c.args.bytes.now))
      (omega (arith, false-eqb _ 0 c.loop-rest-test.ensures)) (search (rules, c.put_row.ensures, c.front-row.ensures)) c.loop-rest.invariant.text);
}

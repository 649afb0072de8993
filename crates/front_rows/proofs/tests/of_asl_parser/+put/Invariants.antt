use Rattle.std.proofs.Common.{◌*◌, ◌+◌}
use Rattle.front_rows.proofs.tests.of_asl_parser.+put.Given as goal

abbrev pub decreases-put_all : goal.decreases-put_all
decreases-put_all l = 4 * l.room

abbrev pub decreases-put_item : goal.decreases-put_item
decreases-put_item l = 4 * l.room + 1

abbrev pub decreases-put_apply : goal.decreases-put_apply
decreases-put_apply l = 4 * l.room + 1

abbrev pub decreases-put : goal.decreases-put
decreases-put l = 4 * l.room + 2

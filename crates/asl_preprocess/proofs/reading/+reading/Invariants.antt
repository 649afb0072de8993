use Rattle.std.proofs.Common.{◌≡◌, ◌+◌, ◌*◌, ◌<◌, ◌^◌, length}
use Rattle.asl_preprocess.specs.RowsByCode.{rows_left, lines_left}
use Rattle.asl_preprocess.specs.State.{State}
use Rattle.asl_preprocess.specs.Told.{Shows}
use Rattle.asl_preprocess.specs.Sound.{IsSound}
use Rattle.asl_preprocess.specs.Rows.{rows_of}
use Rattle.asl_preprocess.proofs.Passing.{Passed}
use Rattle.asl_preprocess.proofs.reading.+reading.Given as goal

abbrev pub decreases-include : goal.decreases-include
decreases-include g l = 3 * l.own.now.levels

abbrev pub decreases-pass_row : goal.decreases-pass_row
decreases-pass_row g l = 3 * l.file.now.levels + 1

abbrev pub decreases-read_file : goal.decreases-read_file
decreases-read_file g l = 3 * l.file.now.levels + 2

abbrev pub invariant-read_file-loop-branches : goal.invariant-read_file-loop-branches
invariant-read_file-loop-branches g l =
    let told_by = g.F.Files.contents in
    let count = g.F.Files.faults in
    record {
      contents : told_by l.files ≡ told_by l.fn.files;
      faults : count l.files ≡ count l.fn.files;
      room : l.rows.number + lines_left l.rows < 2 ^ 32;
      passed : (state : State) → Shows l.fn.work state → IsSound state → l.file.number < length state.files
          → Passed (told_by l.fn.files) l.setting.directories.now l.setting.enabled l.file.levels l.file.number l.file.name.now l.work l.branches state (rows_of l.setting.enabled l.bytes) (rows_left l.rows);
    }

abbrev pub decreases-read_file-loop-branches : goal.decreases-read_file-loop-branches
decreases-read_file-loop-branches g l = length (rows_left l.rows)

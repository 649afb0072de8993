use Rattle.std.proofs.Common.{rules, ◌≡◌, ℕ, ◌-◌, ◌<◌, List, [], length, refl, ap, sym, ◌∙◌, arith}
use Rattle.asl_preprocess.specs.RowsByCode.{row_by, rows_left}
use Rattle.asl_preprocess.specs.Rows.{rows_of}
use Rattle.asl_preprocess.specs.State.{number_of, with_file, with_files}
use Rattle.asl_preprocess.specs.Preprocess.{of_file, included, reading_at}
use Rattle.asl_preprocess.specs.Told.{Shows, asked_for, setting_by}
use Rattle.asl_preprocess.specs.Sound.{IsSound}
use Rattle.asl_preprocess.specs.Reached.{Stands}
use Rattle.asl_preprocess.proofs.Passing.{passed_none, passed_more, passed_stops, passed_end, end_counts, one_of}
use Rattle.asl_preprocess.proofs.Rowing.{reaches_by, stops_by, more_files, sound_more, row_goes, row_stops, row_asks, row_counts, seek_stops, seek_reads}
use Rattle.asl_preprocess.proofs.reading.+reading.Goals as goal

pub include-returns-in-Err-clause-reached : goal.include-returns-in-Err-clause-reached
include-returns-in-Err-clause-reached g t c state shows sound known =
    let some : 0 < c.args.own.now.levels = omega arith in
    seek_stops (g.F.Files.contents c.args.files.now) c.args.setting.now.directories.now c.args.setting.now.enabled c.args.own.now.levels c.args.own.now.name.now state c.args.wanted.now some
    c.in-Err.stop c.args.work.now.files c.seek.new.work.files shows.files known c.in-Err.ensures.refused

pub include-returns-in-Ok-clause-reached : goal.include-returns-in-Ok-clause-reached
include-returns-in-Ok-clause-reached g t c state shows sound known =
    let some : 0 < c.args.own.now.levels = omega arith in
    let name = c.in-Ok.found.name in
    let new = with_files state (with_file name state.files) in
    let shows' : Shows c.seek.new.work new = c.in-Ok.ensures.shows state shows in
    let sound' : IsSound new = sound_more state (with_file name state.files) (more_files name state.files) sound in
    let within : c.in-Ok.found.number < length (with_file name state.files) = omega (arith, c.in-Ok.ensures.within, ap length shows'.files) in
    let number : c.in-Ok.found.number ≡ number_of c.as_bytes-in-Ok.result.now (with_file name state.files) =
    c.in-Ok.ensures.number ∙ ap (number_of name) shows'.files ∙ ap (λ (n : List ℕ). number_of n (with_file name state.files)) (sym c.as_bytes-in-Ok.ensures) in
    reaches_by c.read_file.result (g.F.Files.contents c.args.files.now) (g.F.Files.contents c.seek.new.files) c.read_file.new.work.files
    (λ later. Stands c.read_file.new.work later (length state.files)) (λ later. Stands c.read_file.new.work later (length (with_file name state.files)))
    (λ told. included (reading_at (setting_by told c.args.setting.now) c.args.own.now.levels) (setting_by told c.args.setting.now) c.args.own.now.name.now (asked_for c.args.wanted.now) c.args.wanted.now.place state)
    (λ told. of_file (setting_by told c.args.setting.now) (c.args.own.now.levels - 1) new c.as_bytes-in-Ok.result.now c.in-Ok.found.bytes)
    c.in-Ok.ensures.contents
    (λ later stands. record { shows = stands.shows; sound = stands.sound; grows = omega (arith, stands.grows, more_files name state.files) })
    (λ told k.
    seek_reads (g.F.Files.contents c.args.files.now) c.args.setting.now.directories.now c.args.setting.now.enabled c.args.own.now.levels c.args.own.now.name.now state c.args.wanted.now some name c.in-Ok.found.bytes told (c.in-Ok.ensures.found told k)
    ∙ ap (λ (n : List ℕ). of_file (setting_by told c.args.setting.now) (c.args.own.now.levels - 1) new n c.in-Ok.found.bytes) (sym c.as_bytes-in-Ok.ensures))
    (c.read_file.ensures.reached new shows' sound' within number)

pub pass_row-returns-in-Ok-Some-clause-reached : goal.pass_row-returns-in-Ok-Some-clause-reached
pass_row-returns-in-Ok-Some-clause-reached g t c state shows sound known =
    let does = (rw c.in-Ok-Some.field-0-is at c.in-Ok-Some.ensures) state shows in
    let asking = row_asks (g.F.Files.contents c.args.files.now) c.args.setting.now.directories.now c.args.setting.now.enabled c.args.file.now.levels c.args.file.now.name.now c.args.file.now.number state c.args.branches.now (row_by c.args.row) sound known
    c.take_row.new.work c.take_row.new.branches c.in-Ok-Some.wanted does in
    asking.next c.include.result c.include.new.work.files c.include.new.work (c.include.ensures.reached asking.now asking.shows asking.is_sound asking.within)

pub pass_row-returns-in-Ok-None-clause-reached : goal.pass_row-returns-in-Ok-None-clause-reached
pass_row-returns-in-Ok-None-clause-reached g t c state shows sound known =
    let does = (rw c.in-Ok-None.field-0-is at c.in-Ok-None.ensures) state shows in
    row_goes (g.F.Files.contents c.args.files.now) c.args.setting.now.directories.now c.args.setting.now.enabled c.args.file.now.levels c.args.file.now.name.now c.args.file.now.number state c.args.branches.now (row_by c.args.row) sound known
    c.take_row.new.work c.take_row.new.branches c.take_row.new.work.files does

pub pass_row-returns-in-Err-clause-reached : goal.pass_row-returns-in-Err-clause-reached
pass_row-returns-in-Err-clause-reached g t c state shows sound known =
    row_stops (g.F.Files.contents c.args.files.now) c.args.setting.now.directories.now c.args.setting.now.enabled c.args.file.now.levels c.args.file.now.name.now c.args.file.now.number state c.args.branches.now (row_by c.args.row) sound known
    c.in-Err.stop c.take_row.new.work.files (c.in-Err.ensures state shows)

pub read_file-loop-branches-init : goal.read_file-loop-branches-init
read_file-loop-branches-init g t c = record {
  contents = refl;
  faults = refl;
  room = omega arith;
  passed = λ state shows sound known.
      passed_none (g.F.Files.contents c.args.files.now) c.args.setting.now.directories.now c.args.setting.now.enabled c.args.file.now.levels c.args.file.now.number c.args.file.now.name.now c.args.work.now c.new-branches.result state
      (rows_of c.args.setting.now.enabled c.args.bytes.now) (rows_left c.new-rows.result) c.new-branches.ensures shows sound c.new-rows.ensures.rows;
}

pub read_file-loop-branches-preserved : goal.read_file-loop-branches-preserved
read_file-loop-branches-preserved g t c = record {
  contents = c.in-Ok.ensures.contents ∙ c.loop-branches.invariant.contents;
  faults = c.in-Ok.ensures.faults ∙ c.loop-branches.invariant.faults;
  room = omega (arith, c.in_ok-row.ensures.room);
  passed = λ state shows sound known.
      let p = c.loop-branches.invariant.passed state shows sound known in
      let e = rw c.in-Some.is at c.in_ok-row.ensures.row in
      let known' : c.args.file.now.number < length p.now.state.files = omega (arith, p.stands_in.stands.grows) in
      let r = c.in-Ok.ensures.reached p.now.state p.stands_in.stands.shows p.stands_in.stands.sound known' in
      passed_more (g.F.Files.contents c.args.files.now) c.args.setting.now.directories.now c.args.setting.now.enabled c.args.file.now.levels c.args.file.now.number c.args.file.now.name.now p (row_by c.in-Some.row) (rows_left c.next.new.self) e
      r.0 r.1 (λ told k. r.2 told (c.loop-branches.invariant.contents ∙ k));
}

pub read_file-returns-in-Err-clause-reached : goal.read_file-returns-in-Err-clause-reached
read_file-returns-in-Err-clause-reached g t c state shows sound known number =
    let p = c.loop-branches.invariant.passed state shows sound known in
    let e = rw c.in-Some.is at c.in_ok-row.ensures.row in
    let known' : c.args.file.now.number < length p.now.state.files = omega (arith, p.stands_in.stands.grows) in
    let r = c.in-Err.ensures.reached p.now.state p.stands_in.stands.shows p.stands_in.stands.sound known' in
    passed_stops (g.F.Files.contents c.args.files.now) c.args.setting.now.directories.now c.args.setting.now.enabled c.args.file.now.levels c.args.file.now.number c.args.file.now.name.now p (row_by c.in-Some.row) (rows_left c.next.new.self) e
    c.in-Err.stop c.pass_row.new.work.files c.args.bytes.now (refl {a = rows_of c.args.setting.now.enabled c.args.bytes.now}) number
    (stops_by c.in-Err.stop (g.F.Files.contents c.args.files.now) (g.F.Files.contents c.loop-branches.files) c.pass_row.new.work.files
    (λ told. one_of c.args.setting.now.directories.now c.args.setting.now.enabled c.args.file.now.levels c.args.file.now.number c.args.file.now.name.now told (row_by c.in-Some.row) (record { state = p.now.state; branches = c.loop-branches.branches }))
    c.loop-branches.invariant.contents r)

pub read_file-returns-clause-reached : goal.read_file-returns-clause-reached
read_file-returns-clause-reached g t c state shows sound known number =
    let p = c.loop-branches.invariant.passed state shows sound known in
    let none : rows_left c.loop-branches.rows ≡ [] = search rules in
    passed_end (g.F.Files.contents c.args.files.now) c.args.setting.now.directories.now c.args.setting.now.enabled c.args.file.now.levels c.args.file.now.number c.args.file.now.name.now {all = rows_of c.args.setting.now.enabled c.args.bytes.now} p c.args.bytes.now none (refl {a = rows_of c.args.setting.now.enabled c.args.bytes.now}) number known
    c.end.result c.loop-branches.work.files (refl {a = c.loop-branches.work.files}) (c.end.ensures p.now.state)

pub pass_row-returns-in-Ok-Some-clause-fault : goal.pass_row-returns-in-Ok-Some-clause-fault
pass_row-returns-in-Ok-Some-clause-fault g t c state shows sound known =
    let does = (rw c.in-Ok-Some.field-0-is at c.in-Ok-Some.ensures) state shows in
    let asking = row_asks (g.F.Files.contents c.args.files.now) c.args.setting.now.directories.now c.args.setting.now.enabled c.args.file.now.levels c.args.file.now.name.now c.args.file.now.number state c.args.branches.now (row_by c.args.row) sound known
    c.take_row.new.work c.take_row.new.branches c.in-Ok-Some.wanted does in
    c.include.ensures.fault asking.now asking.shows asking.is_sound asking.within

pub include-returns-in-Ok-clause-fault : goal.include-returns-in-Ok-clause-fault
include-returns-in-Ok-clause-fault g t c state shows sound known =
    let name = c.in-Ok.found.name in
    let new = with_files state (with_file name state.files) in
    let shows' : Shows c.seek.new.work new = c.in-Ok.ensures.shows state shows in
    let sound' : IsSound new = sound_more state (with_file name state.files) (more_files name state.files) sound in
    let within : c.in-Ok.found.number < length (with_file name state.files) = omega (arith, c.in-Ok.ensures.within, ap length shows'.files) in
    rw (sym c.in-Ok.ensures.faults) (c.read_file.ensures.fault new shows' sound' within)

pub read_file-returns-clause-fault : goal.read_file-returns-clause-fault
read_file-returns-clause-fault g t c state shows sound known =
    end_counts c.end.result c.args.file.now.number _ state (g.F.Files.faults c.args.files.now) (g.F.Files.faults c.loop-branches.files) c.loop-branches.invariant.faults (c.end.ensures state)

pub include-returns-in-Err-clause-fault : goal.include-returns-in-Err-clause-fault
include-returns-in-Err-clause-fault g t c state shows sound known = c.in-Err.ensures.fault

pub pass_row-returns-in-Err-clause-fault : goal.pass_row-returns-in-Err-clause-fault
pass_row-returns-in-Err-clause-fault g t c state shows sound known = row_counts c.in-Err.stop _ _ _ (c.in-Err.ensures state shows)

pub pass_row-returns-in-Ok-None-clause-fault : goal.pass_row-returns-in-Ok-None-clause-fault
pass_row-returns-in-Ok-None-clause-fault g t c state shows sound known = tt

pub read_file-returns-in-Err-clause-fault : goal.read_file-returns-in-Err-clause-fault
read_file-returns-in-Err-clause-fault g t c state shows sound known =
    let p = c.loop-branches.invariant.passed state shows sound known in
    let known' : c.args.file.now.number < length p.now.state.files = omega (arith, p.stands_in.stands.grows) in
    rw (sym c.loop-branches.invariant.faults) (c.in-Err.ensures.fault p.now.state p.stands_in.stands.shows p.stands_in.stands.sound known')

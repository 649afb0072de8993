use Rattle.std.proofs.Common.{refl, sym, subst, ◌∙◌}
use Rattle.std.specs.Result.{IsOkAnd}
use Rattle.asl_preprocess.specs.State.{Outcome}
use Rattle.asl_preprocess.specs.Lines.{RowEffect}
use Rattle.asl_preprocess.specs.Told.{StopsWith, ShowsGoing}
use Rattle.asl_preprocess.proofs.Asked.{line_passes, line_keeps, line_asks, line_stops}
use Rattle.asl_preprocess.proofs.lines.line.Goals as goal

pub returns-then-not-is_read : goal.returns-then-not-is_read
returns-then-not-is_read c = λ state shows.
    let line = c.args.line.now in
    let P : Outcome RowEffect → Type 0 = λ o. IsOkAnd o (ShowsGoing c.args.work.now c.args.branches.now) in
    subst P (sym (line_passes c.args.enabled line.file line.number line.in_comment line.text.whole.now state c.args.branches.now (sym c.is_read.ensures ∙ c.if-not-is_read.true))) (shows, refl)

pub returns-in-Ok : goal.returns-in-Ok
returns-in-Ok c = λ state shows.
    let line = c.args.line.now in
    let P : Outcome RowEffect → Type 0 = λ o. IsOkAnd o (ShowsGoing c.keep.new.self c.args.branches.now) in
    subst P (sym (line_keeps c.args.enabled line.file line.number line.in_comment line.text.whole.now state c.args.branches.now (sym c.is_read.ensures ∙ c.if-not-is_read.false) (rw c.in-Ok-None.field-0-is at c.in-Ok-None.ensures)))
    (c.in-Ok.ensures state c.args.branches.now shows)

pub returns-in-Err-keep : goal.returns-in-Err-keep
returns-in-Err-keep c = λ state shows.
    let line = c.args.line.now in
    let P : Outcome RowEffect → Type 0 = λ o. StopsWith c.in-Err-keep.stop c.keep.new.self.files o in
    subst P (sym (line_keeps c.args.enabled line.file line.number line.in_comment line.text.whole.now state c.args.branches.now (sym c.is_read.ensures ∙ c.if-not-is_read.false) (rw c.in-Ok-None.field-0-is at c.in-Ok-None.ensures)))
    (c.in-Err-keep.ensures state c.args.branches.now shows)

pub returns-in-Ok-Some : goal.returns-in-Ok-Some
returns-in-Ok-Some c = λ state shows.
    let line = c.args.line.now in
    line_asks c.args.enabled line.file line.number line.in_comment line.text.whole.now state c.args.branches.now (sym c.is_read.ensures ∙ c.if-not-is_read.false)
    c.args.work.now c.in-Ok-Some.wanted shows (rw c.in-Ok-Some.field-0-is at c.in-Ok-Some.ensures)

pub returns-in-Err : goal.returns-in-Err
returns-in-Err c = λ state shows.
    let line = c.args.line.now in
    line_stops c.args.enabled line.file line.number line.in_comment line.text.whole.now state c.args.branches.now (sym c.is_read.ensures ∙ c.if-not-is_read.false)
    c.in-Err.stop c.args.work.now shows c.in-Err.ensures

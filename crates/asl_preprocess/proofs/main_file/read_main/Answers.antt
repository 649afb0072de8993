use Rattle.std.proofs.Common.{◌≡◌, ℕ, List, Result, Ok, Err, length, ap, sym, subst, ◌∙◌, arith}
use Rattle.std.specs.Prelude.{IfErr}
use Rattle.std.specs.Option.{ForSome}
use Rattle.std.proofs.lemmas.Result.{IfOk-weaker}
use Rattle.asl_preprocess.specs.declared.main_file.Preprocessed.{Preprocessed}
use Rattle.asl_preprocess.specs.declared.main_file.PreStop.{PreStop}
use Rattle.asl_preprocess.specs.declared.main_file.PreStop.TheVariants.{Memory}
use Rattle.asl_preprocess.specs.Stops.{IsStop, HasPlace, MainCauses}
use Rattle.asl_preprocess.specs.Preprocess as spec
use Rattle.asl_preprocess.proofs.Mains.{main_number, first_sound, main_within, all_given, all_lines, all_notes, ends_stop, ends_place, ends_counts}
use Rattle.asl_preprocess.proofs.main_file.read_main.Goals as goal

pub returns-in-Ok-clause-given : goal.returns-in-Ok-clause-given
returns-in-Ok-clause-given g c =
    let first = spec.first_state c.args.name.now c.args.defines.now in
    let r = c.in-Ok.ensures.reached first c.in_ok-work.ensures (first_sound c.args.name.now c.args.defines.now) (omega arith) (main_number c.args.name.now c.as_bytes.result.now c.as_bytes.ensures.value) in
    all_given c.last_work.result r.0.files r.0.lines r.0.notes (λ told k.
    let S = spec.setting_of told c.args.dirs.now c.args.enabled in
    main_within S c.args.name.now c.args.defines.now c.args.bytes.now c.requires
    ∙ ap (λ (n : List ℕ). spec.given (spec.of_file S spec.most_levels first n c.args.bytes.now)) (sym c.as_bytes.ensures.value)
    ∙ ap spec.given (r.2 told k))
    (IfOk-weaker c.last_work.result _ _ (λ it e. e ∙ r.1.shows.files) c.last_work.ensures.files)
    (IfOk-weaker c.last_work.result _ _ (λ it e. e ∙ r.1.shows.lines) c.last_work.ensures.lines)
    (IfOk-weaker c.last_work.result _ _ (λ it e. e ∙ r.1.shows.notes) c.last_work.ensures.notes)

pub returns-in-Ok-clause-main : goal.returns-in-Ok-clause-main
returns-in-Ok-clause-main g c =
    let first = spec.first_state c.args.name.now c.args.defines.now in
    let r = c.in-Ok.ensures.reached first c.in_ok-work.ensures (first_sound c.args.name.now c.args.defines.now) (omega arith) (main_number c.args.name.now c.as_bytes.result.now c.as_bytes.ensures.value) in
    IfOk-weaker c.last_work.result _ _ (λ it e. omega (arith, r.1.grows, ap length (e ∙ r.1.shows.files))) c.last_work.ensures.files

pub returns-in-Ok-clause-lines : goal.returns-in-Ok-clause-lines
returns-in-Ok-clause-lines g c =
    let first = spec.first_state c.args.name.now c.args.defines.now in
    let r = c.in-Ok.ensures.reached first c.in_ok-work.ensures (first_sound c.args.name.now c.args.defines.now) (omega arith) (main_number c.args.name.now c.as_bytes.result.now c.as_bytes.ensures.value) in
    all_lines c.last_work.result r.0.files r.0.lines r.1.sound.lines
    (IfOk-weaker c.last_work.result _ _ (λ it e. e ∙ r.1.shows.files) c.last_work.ensures.files)
    (IfOk-weaker c.last_work.result _ _ (λ it e. e ∙ r.1.shows.lines) c.last_work.ensures.lines)

pub returns-in-Ok-clause-notes : goal.returns-in-Ok-clause-notes
returns-in-Ok-clause-notes g c =
    let first = spec.first_state c.args.name.now c.args.defines.now in
    let r = c.in-Ok.ensures.reached first c.in_ok-work.ensures (first_sound c.args.name.now c.args.defines.now) (omega arith) (main_number c.args.name.now c.as_bytes.result.now c.as_bytes.ensures.value) in
    all_notes c.last_work.result r.0.files r.0.notes r.1.sound.notes
    (IfOk-weaker c.last_work.result _ _ (λ it e. e ∙ r.1.shows.files) c.last_work.ensures.files)
    (IfOk-weaker c.last_work.result _ _ (λ it e. e ∙ r.1.shows.notes) c.last_work.ensures.notes)

pub returns-in-Ok-clause-stopped : goal.returns-in-Ok-clause-stopped
returns-in-Ok-clause-stopped g c = by c.last_work.result c.last_work.ensures.memory
  where
    by : (r : Result Preprocessed PreStop) → IfErr r (λ stop. stop ≡ Memory) → IfErr r (λ stop. ForSome (g.F.Files.contents c.args.files.now) (λ told. IsStop stop (spec.of_main (spec.setting_of told c.args.dirs.now c.args.enabled) c.args.name.now c.args.defines.now c.args.bytes.now)))
    by (Ok it) e = tt
    by (Err stop) e = λ told k. subst (λ s. IsStop s (spec.of_main (spec.setting_of told c.args.dirs.now c.args.enabled) c.args.name.now c.args.defines.now c.args.bytes.now)) (sym e) tt

pub returns-in-Ok-clause-place : goal.returns-in-Ok-clause-place
returns-in-Ok-clause-place g c = by c.last_work.result c.last_work.ensures.memory
  where
    by : (r : Result Preprocessed PreStop) → IfErr r (λ stop. stop ≡ Memory) → IfErr r HasPlace
    by (Ok it) e = tt
    by (Err stop) e = subst HasPlace (sym e) tt

pub returns-in-Ok-clause-fault : goal.returns-in-Ok-clause-fault
returns-in-Ok-clause-fault g c = by c.last_work.result c.last_work.ensures.memory
  where
    by : (r : Result Preprocessed PreStop) → IfErr r (λ stop. stop ≡ Memory) → IfErr r (λ stop. MainCauses stop (g.F.Files.faults c.args.files.now) (g.F.Files.faults c.read_file.new.files))
    by (Ok it) e = tt
    by (Err stop) e = subst (λ s. MainCauses s (g.F.Files.faults c.args.files.now) (g.F.Files.faults c.read_file.new.files)) (sym e) c.in-Ok.ensures.faults

pub returns-clause-stopped : goal.returns-clause-stopped
returns-clause-stopped g c told k =
    let first = spec.first_state c.args.name.now c.args.defines.now in
    let S = spec.setting_of told c.args.dirs.now c.args.enabled in
    ends_stop c.stopped.result c.in-Err.stop _ c.read_file.new.work.files _ (spec.of_main S c.args.name.now c.args.defines.now c.args.bytes.now) told k c.stopped.ensures
    (c.in-Err.ensures.reached first c.in_ok-work.ensures (first_sound c.args.name.now c.args.defines.now) (omega arith) (main_number c.args.name.now c.as_bytes.result.now c.as_bytes.ensures.value))
    (main_within S c.args.name.now c.args.defines.now c.args.bytes.now c.requires
    ∙ ap (λ (n : List ℕ). spec.given (spec.of_file S spec.most_levels first n c.args.bytes.now)) (sym c.as_bytes.ensures.value))

pub returns-clause-place : goal.returns-clause-place
returns-clause-place g c =
    ends_place c.stopped.result c.in-Err.stop _ c.read_file.new.work.files _ c.stopped.ensures
    (c.in-Err.ensures.reached (spec.first_state c.args.name.now c.args.defines.now) c.in_ok-work.ensures (first_sound c.args.name.now c.args.defines.now) (omega arith) (main_number c.args.name.now c.as_bytes.result.now c.as_bytes.ensures.value))

pub returns-clause-fault : goal.returns-clause-fault
returns-clause-fault g c =
    ends_counts c.stopped.result c.in-Err.stop c.read_file.new.work.files (g.F.Files.faults c.args.files.now) (g.F.Files.faults c.read_file.new.files) c.stopped.ensures
    (c.in-Err.ensures.fault (spec.first_state c.args.name.now c.args.defines.now) c.in_ok-work.ensures (first_sound c.args.name.now c.args.defines.now) (omega arith))

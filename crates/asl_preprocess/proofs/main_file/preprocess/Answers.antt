use Rattle.std.proofs.Common.{ap, sym, subst, ◌∙◌}
use Rattle.std.proofs.lemmas.Result.{IfOk-weaker, IfErr-weaker}
use Rattle.asl_preprocess.specs.Stops.{IsStop}
use Rattle.asl_preprocess.specs.Preprocess as spec
use Rattle.asl_preprocess.proofs.Mains.{main_causes, lacks_stop, lacks_place, lacks_causes}
use Rattle.asl_preprocess.proofs.main_file.preprocess.Goals as goal

pub returns-in-Ok-from_vec-clause-given : goal.returns-in-Ok-from_vec-clause-given
returns-in-Ok-from_vec-clause-given g c =
    IfOk-weaker c.read_main.result _ _ (λ it h told k.
    ap (spec.of_found (spec.setting_of told c.args.dirs.now c.args.enabled) c.args.name.now c.args.defines.now) (c.in-Ok.ensures.whole told k)
    ∙ ap (spec.of_main (spec.setting_of told c.args.dirs.now c.args.enabled) c.args.name.now c.args.defines.now) (sym c.in-Ok-from_vec.ensures)
    ∙ h told (c.in-Ok.ensures.contents ∙ k)) c.read_main.ensures.given

pub returns-in-Ok-from_vec-clause-stopped : goal.returns-in-Ok-from_vec-clause-stopped
returns-in-Ok-from_vec-clause-stopped g c =
    IfErr-weaker c.read_main.result _ _ (λ stop h told k.
    subst (IsStop stop) (sym (ap (spec.of_found (spec.setting_of told c.args.dirs.now c.args.enabled) c.args.name.now c.args.defines.now) (c.in-Ok.ensures.whole told k)
    ∙ ap (spec.of_main (spec.setting_of told c.args.dirs.now c.args.enabled) c.args.name.now c.args.defines.now) (sym c.in-Ok-from_vec.ensures)))
    (h told (c.in-Ok.ensures.contents ∙ k))) c.read_main.ensures.stopped

pub returns-in-Ok-from_vec-clause-cause : goal.returns-in-Ok-from_vec-clause-cause
returns-in-Ok-from_vec-clause-cause g c =
    IfErr-weaker c.read_main.result _ _ (λ stop h. main_causes stop _ _ _ _ _ c.in-Ok.ensures.faults h) c.read_main.ensures.fault

pub returns-in-Err-clause-stopped : goal.returns-in-Err-clause-stopped
returns-in-Err-clause-stopped g c told k =
    lacks_stop c.unread.result c.in-Err.fault (spec.setting_of told c.args.dirs.now c.args.enabled) c.args.name.now c.args.defines.now _ c.unread.ensures (c.in-Err.ensures.refused told k)

pub returns-in-Err-clause-place : goal.returns-in-Err-clause-place
returns-in-Err-clause-place g c = lacks_place c.unread.result c.in-Err.fault _ c.unread.ensures

pub returns-in-Err-clause-cause : goal.returns-in-Err-clause-cause
returns-in-Err-clause-cause g c = lacks_causes c.unread.result c.in-Err.fault _ _ _ _ _ _ _ c.unread.ensures c.in-Err.ensures.counts

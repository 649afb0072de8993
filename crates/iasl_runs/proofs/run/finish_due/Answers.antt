use Rattle.std.proofs.Common.{ap, Err}
use Rattle.iasl_ports.specs.declared.delivery.Stop.TheVariants.{Fault}
use Rattle.iasl_runs.proofs.Stopped.{torn_as, same_error, delivers_stopped}
use Rattle.iasl_runs.proofs.run.finish_due.Goals as goal

pub returns-in-Err : goal.returns-in-Err
returns-in-Err g c =
    let e = c.in-Err.ensures in
    delivers_stopped c.args.texts.fault.now c.args.texts.memory.now c.args.due.now c.fail.result _ _ _ _ _ c.in-Err.stop
    (record {
      files = torn_as (λ t. (same_error c.in-Err.stop Fault t.0, t.1)) e.some_files;
      all_but_told = λ h. e.all_but_told (ap Err h);
      cause = λ h. e.cause (ap Err h);
      text = e.some_text;
      no_text = e.no_text;
      no_text_yet = λ h. e.no_text_yet (ap Err h);
      memory_calm = λ h. e.memory_calm (ap Err h);
      put_later = e.put_later;
      told_later = e.told_later;
    }) c.fail.ensures

use Rattle.data_generic.proofs.Tables.{added}
use Rattle.data_generic.proofs.labels.Labels.add_new.Goals as goal

pub returns : goal.returns
returns c = added c.args.self.now (record { table = c.insert.new.self }) c.args.name c.args.label c.requires c.in_ok-insert.ensures.updates

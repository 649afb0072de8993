use Rattle.std.proofs.Common.{inl, None}
use Rattle.iasl_ports.specs.GainedLaws.{gains_none}
use Rattle.host_ports.proofs.host.HostOutputsOutputs.put.Goals as goal

pub returns-in-Err-clause-refused : goal.returns-in-Err-clause-refused
returns-in-Err-clause-refused g c = inl (gains_none None)

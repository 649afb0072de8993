use Rattle.std.proofs.Common.{sym}
use Rattle.std.proofs.lemmas.Slice.Zip.{seconds-zip}
use Rattle.iasl_ports.proofs.memory.MemoryOutputs.bodies.Goals as goal

pub returns : goal.returns
returns c = sym (seconds-zip _ _ c.args.self.now.same_len)

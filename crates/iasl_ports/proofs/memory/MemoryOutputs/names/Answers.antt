use Rattle.std.proofs.Common.{sym}
use Rattle.std.proofs.lemmas.Slice.Zip.{firsts-zip}
use Rattle.iasl_ports.proofs.memory.MemoryOutputs.names.Goals as goal

pub returns : goal.returns
returns c = sym (firsts-zip _ _ c.args.self.now.same_len)

use Rattle.std.proofs.Common.{refl, arith}
use Rattle.aml_writer.proofs.Headers.{filled_put}
use Rattle.aml_writer.proofs.header.put_filled.Goals as goal

pub returns-clause-bytes : goal.returns-clause-bytes
returns-clause-bytes c = filled_put c.args.text.now c.args.count c.min.result _ _ _ _ _ c.requires.few (omega (arith, c.min.ensures)) refl refl c.put-at.ensures.bytes c.put.ensures.bytes

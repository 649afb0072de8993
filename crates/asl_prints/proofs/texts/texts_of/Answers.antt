use Rattle.std.proofs.Common.{sym, ◌∙◌}
use Rattle.asl_prints.proofs.Cuts.{texts_byte}
use Rattle.asl_prints.proofs.texts.texts_of.Goals as goal

pub loop-texts-preserved : goal.loop-texts-preserved
loop-texts-preserved c =
    texts_byte c.loop-texts.texts.items c.loop-texts.text.items c.push-in-Byte.new.self.items c.loop-texts.rest.now c.behind-rest-in-Byte.result.now c.args.format.now c.in-Byte.byte (sym c.in-Byte.is ∙ c.first_mark.ensures)
    c.behind-rest-in-Byte.ensures c.in_ok-push-in-Byte.ensures.items c.loop-texts.invariant

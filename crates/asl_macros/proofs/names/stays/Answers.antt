use Rattle.asl_fragments.specs.Fragments.{fragments, identifiers}
use Rattle.asl_macros.specs.History.{text_in}
use Rattle.asl_macros.specs.Table.{text_at}
use Rattle.asl_macros.proofs.Clear.{clear_free}
use Rattle.asl_macros.proofs.Undefined.{replaced_free, free_by}
use Rattle.asl_macros.proofs.names.stays.Goals as goal

pub returns-then-is_clear : goal.returns-then-is_clear
returns-then-is_clear c = λ is within history tells.
    replaced_free within history c.args.in_comment c.args.text.now
    (free_by (text_at c.args.macros.now) (text_in history) tells.text (identifiers (fragments c.args.in_comment c.args.text.now)) (clear_free (text_at c.args.macros.now) c.args.in_comment c.args.text.now (c.is_clear.ensures is)))

pub returns-else-is_clear : goal.returns-else-is_clear
returns-else-is_clear c = λ is within history tells.
    replaced_free within history c.args.in_comment c.args.text.now (free_by (text_at c.args.macros.now) (text_in history) tells.text (identifiers (fragments c.args.in_comment c.args.text.now)) (c.is_free.ensures is))

use Rattle.source_laws.proofs.Conditionals.{rows_unread}
use Rattle.source_laws.proofs.laws.unread_rows_do_nothing.Goals as goal

pub returns : goal.returns
returns c = rows_unread

use Rattle.source_laws.proofs.Sights.{same_whole, same_front, same_comment, same_string}
use Rattle.source_laws.proofs.laws.same_strings_and_comments.Goals as goal

pub returns-clause-whole : goal.returns-clause-whole
returns-clause-whole c = same_whole

pub returns-clause-front : goal.returns-clause-front
returns-clause-front c = same_front

pub returns-clause-open_comment : goal.returns-clause-open_comment
returns-clause-open_comment c = same_comment

pub returns-clause-open_string : goal.returns-clause-open_string
returns-clause-open_string c = same_string

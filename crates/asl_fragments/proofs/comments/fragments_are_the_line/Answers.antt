use Rattle.asl_fragments.proofs.Joined.{fragments_joined, length-without_comments}
use Rattle.asl_fragments.proofs.comments.fragments_are_the_line.Goals as goal

pub returns-clause-joined : goal.returns-clause-joined
returns-clause-joined c = fragments_joined

pub returns-clause-long : goal.returns-clause-long
returns-clause-long c = length-without_comments

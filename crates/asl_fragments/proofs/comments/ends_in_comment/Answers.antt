use Rattle.std.proofs.Common.{rules, sym, ◌∙◌, ap, false}
use Rattle.asl_fragments.specs.Fragments.{open_behind, fragments}
use Rattle.asl_fragments.specs.Fragments as spec
use Rattle.asl_fragments.proofs.FragmentLaws.{no_fragments}
use Rattle.asl_fragments.proofs.comments.ends_in_comment.Goals as goal

pub returns : goal.returns
unfolding spec.ends_in_comment
returns c = sym (ap (open_behind c.loop-left_open.left_open) (no_fragments c.loop-left_open.inside c.loop-left_open.rest.now (search rules))) ∙ c.loop-left_open.invariant

pub loop-left_open-preserved : goal.loop-left_open-preserved
loop-left_open-preserved c =
    ap (λ r. open_behind c.first_part-length.result.1 (fragments false r)) c.split_at.ensures.back
    ∙ sym (c.first_part-length.ensures.open_ c.loop-left_open.left_open) ∙ c.loop-left_open.invariant

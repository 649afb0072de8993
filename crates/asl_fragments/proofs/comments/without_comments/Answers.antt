use Rattle.std.proofs.Common.{rules, ◌∙◌, ◌<◌, length}
use Rattle.asl_fragments.specs.Fragments as spec
use Rattle.asl_fragments.proofs.FragmentLaws.{blanked_step, blanked_end}
use Rattle.asl_fragments.proofs.comments.without_comments.Goals as goal

pub loop-rest-preserved : goal.loop-rest-preserved
loop-rest-preserved c =
    let some : 0 < length c.loop-rest.rest.now = search rules in
    blanked_step c.loop-rest.inside c.loop-rest.out.items _ c.loop-rest.rest.now c.split_at.result.0.now c.split_at.result.1.now c.first_fragment-fragment.result c.first_fragment-fragment.ensures.exact some c.first_fragment-fragment.ensures.forward c.split_at.ensures.front c.split_at.ensures.back
    c.in_ok-add.ensures ∙ c.loop-rest.invariant

pub returns : goal.returns
unfolding spec.without_comments
returns c = blanked_end c.loop-rest.inside c.loop-rest.out.items c.loop-rest.rest.now _ (search rules) c.loop-rest.invariant

use Rattle.std.proofs.Common.{rules, refl, ◌≡◌, false}
use Rattle.asl_fragments.proofs.FragmentLaws.{open_step}
use Rattle.asl_fragments.proofs.Skips.{plain_run}
use Rattle.asl_fragments.proofs.comments.first_part.Goals as goal

pub returns-then-plain-gt0-clause-open_ : goal.returns-then-plain-gt0-clause-open_
returns-then-plain-gt0-clause-open_ c = λ before.
    let outside : c.args.in_comment ≡ false = search rules in
    rw outside (plain_run before c.plain_length-plain.result c.args.text.now c.plain_length-plain.ensures.count c.if-plain-gt0.true)

pub returns-clause-open_ : goal.returns-clause-open_
returns-clause-open_ c = λ before. open_step c.args.in_comment before c.args.text.now _ c.first_fragment-fragment.result c.first_fragment-fragment.ensures.exact c.requires c.first_fragment-fragment.ensures.forward refl

use Rattle.std.proofs.Common.{◌≡◌, ℕ, suc, ◌+◌, Bool, subst, refl, arith}
use Rattle.asl_syntax.specs.declared.raw.Raw.TheVariants as raw
use Rattle.asl_syntax.specs.Grow.{leaf, no_subtrees}
use Rattle.asl_syntax.specs.Marks.{mark}
use Rattle.asl_syntax.specs.Opens.{added}
use Rattle.asl_parser.specs.Pairs.{plain, AddsNode}
use Rattle.asl_parser.proofs.Skipped.{member_goes_over}
use Rattle.asl_parser.proofs.pairs.member_goes.Goals as goal

pub returns-then-branch-clause-passes : goal.returns-then-branch-clause-passes
returns-then-branch-clause-passes c =
    let t = mark c.args.number c.args.first.now in
    let adds = subst (λ (b : Bool). AddsNode b (plain t) c.args.stack.now c.add_plain.new.stack) c.if-branch.true c.in_ok-add_plain.ensures in
    let next : c.args.number + 1 ≡ suc c.args.number = omega arith in
    let last = subst (λ (n : ℕ). c.append.new.self ≡ (no_subtrees, added (leaf n raw.Comma) c.add_plain.new.stack.1)) next c.in_ok-append.ensures in
    member_goes_over t (mark (suc c.args.number) c.args.second.now) (plain t) c.args.stack.now c.add_plain.new.stack c.append.new.self refl adds c.requires.body c.requires.comma last

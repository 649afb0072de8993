use Rattle.std.proofs.Common.{◌≡◌, ◌<◌, [], Some, get_or, length, set, refl, arith}
use Rattle.std.proofs.lemmas.List.{length-set}
use Rattle.std.proofs.lemmas.List.Elements.{All-pop, All-weaker}
use Rattle.acpi_names.specs.Errors.{final}
use Rattle.name_kinds.specs.Ends.{ended}
use Rattle.name_kinds.specs.declared.ends.WalkState.TheVariants as Mark
use Rattle.name_kinds.proofs.Following.{settled, emptied, marked_kept, end_is_marked}
use Rattle.name_kinds.proofs.ends.settle.Goals as goal

pub loop-number-init : goal.loop-number-init
loop-number-init c = record { size = c.requires.size; inside = c.requires.inside; marked = λ paths known m e. (m, e); others = λ n h. h }

pub loop-number-preserved : goal.loop-number-preserved
loop-number-preserved c =
    let old = c.loop-number.walks in
    let number = c.in-Some.number in
    let chain = c.pop.new.self.items in
    let within = All-pop (λ n. n < length old.marks.items) old.chain.items chain (Some number) c.in-Some.ensures.items c.loop-number.invariant.inside in
    record {
      size = omega (arith, c.loop-number.invariant.size, length-set old.marks.items number Mark.Ended, length-set old.ends.items number c.args.end);
      inside = All-weaker (λ n. n < length old.marks.items) (λ n. n < length (set old.marks.items number Mark.Ended)) (λ n h. omega (arith, h, length-set old.marks.items number Mark.Ended)) chain within.0;
      marked = λ paths known m e.
          let prior = c.loop-number.invariant.marked paths known m e in
          let ends = All-pop (λ n. final known (get_or paths n []) ≡ ended paths c.args.end) old.chain.items chain (Some number) c.in-Some.ensures.items prior.1 in
          let inside = All-pop (λ n. n < length paths) old.chain.items chain (Some number) c.in-Some.ensures.items prior.0.inside in
          (settled paths known old _ number c.args.end inside.1 refl refl c.in-Some.ensures.items ends.1 inside.0 prior.0, ends.0);
      others = λ n h. marked_kept old.marks.items number n Mark.Ended within.1 end_is_marked (c.loop-number.invariant.others n h);
    }

pub returns-clause-marked : goal.returns-clause-marked
returns-clause-marked c paths known m e =
    emptied paths known c.loop-number.walks _ refl refl (omega (arith, c.in_default.ensures.cases.0)) (omega (arith, c.in_default.ensures.cases.1)) (c.loop-number.invariant.marked paths known m e).0

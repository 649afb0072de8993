use Rattle.std.proofs.Common.{◌≡◌, subst, IfOk, arith}
use Rattle.std.proofs.lemmas.List.{nil_from_length}
use Rattle.block_outcomes.specs.Joined.{joined}
use Rattle.asl_tables.specs.Compiled.{outcomes_in}
use Rattle.asl_tables.proofs.Items.{all_right, next_right, none_compiled, one_compiled, all_compiled}
use Rattle.asl_tables.proofs.compile.compile_items.Goals as goal

pub loop-read-init : goal.loop-read-init
loop-read-init c = record {
  right = all_right c.args.reads.items _ c.reverse.ensures.items c.requires;
  comes = λ items kept right reads. none_compiled c.args.style c.args.lines.now items c.args.reads.items _ _ _ c.reverse.ensures.items kept right reads c.none_sorted-sorted.ensures c.new-notes.ensures;
}

pub compile_item-requires : goal.compile_item-requires
compile_item-requires c = (next_right c.loop-read.left.items c.pop.new.self.items c.in-Some.read c.in-Some.ensures.items c.loop-read.invariant.right).0

pub loop-read-preserved : goal.loop-read-preserved
loop-read-preserved c =
    let l = c.loop-read in let it = c.in-Some.read in record {
      right = (next_right l.left.items c.pop.new.self.items it c.in-Some.ensures.items l.invariant.right).1;
      comes = λ items kept right reads. one_compiled c.args.style c.args.lines.now items l.left.items c.pop.new.self.items it l.sorted c.in_ok-sorted.sorted l.notes c.in_ok-it.it.notes c.in_ok-notes.notes c.in_ok-it.it.outcome
          c.in-Some.ensures.items c.in_ok-it.ensures.outcome c.in_ok-it.ensures.notes c.in_ok-notes.ensures c.in_ok-sorted.ensures (l.invariant.comes items kept right reads);
    }

pub returns : goal.returns
returns c = λ items kept right reads.
    let outcomes = outcomes_in c.args.style c.args.lines.now items in
    let all = all_compiled c.args.style c.args.lines.now items c.loop-read.left.items c.loop-read.sorted c.loop-read.notes (nil_from_length c.loop-read.left.items (omega (arith, c.in_default.ensures.cases.0))) (c.loop-read.invariant.comes items kept right reads) in
    subst (λ notes. IfOk c.join.result (λ it. it ≡ joined notes outcomes)) all.1 (c.join.ensures outcomes all.0)

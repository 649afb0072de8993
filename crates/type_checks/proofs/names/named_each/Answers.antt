use Rattle.std.proofs.Common.{◌≡◌, ◌∷◌, [], ◌+◌, ℕ, length, length-append, get_or, sym, ap, ◌∙◌, subst, ◌<◌, arith}
use Rattle.name_entries.specs.declared.kind.ObjectType.TheVariants as N
use Rattle.type_checks.specs.Names.{kind_known}
use Rattle.type_checks.proofs.Naming.{led, named_more, named_all}
use Rattle.type_checks.proofs.names.named_each.Goals as goal

pub loop-target-preserved : goal.loop-target-preserved
loop-target-preserved g c =
    let i = c.loop-target.target-index in
    let look = led c.args.known.now.facts.index.paths (kind_known g.whole) c.args.uses.now in
    record {
      size = ap length c.in_ok-push.ensures.items ∙ omega (arith, length-append c.loop-target.all.items (c.named_by.result ∷ []), c.loop-target.invariant.size);
      each = subst (λ all. (n : ℕ) → n < i + 1 → get_or all n N.Data ≡ look n) (sym c.in_ok-push.ensures.items)
          (named_more c.loop-target.all.items c.named_by.result i look c.loop-target.invariant.size c.loop-target.invariant.each c.named_by.ensures);
    }

pub returns : goal.returns
returns g c =
    named_all c.args.known.now.facts.index.paths (kind_known g.whole) c.args.uses.now c.loop-target.all.items c.loop-target.target-index c.loop-target.invariant.size c.loop-target-test.false c.loop-target.invariant.each

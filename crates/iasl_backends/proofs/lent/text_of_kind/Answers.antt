use Rattle.std.proofs.Common.{rules, arith, ◌≢◌, ap, length}
use Rattle.iasl_backends.proofs.EachLaws.{all_of_first}
use Rattle.iasl_backends.proofs.lent.text_of_kind.Goals as goal

pub returns-then-eq-clause-text : goal.returns-then-eq-clause-text
returns-then-eq-clause-text g c = (
  c.loop-backend.backend-index,
  c.backend-item.result,
  search (rules, c.loop-backend-test.true),
  search (rules, c.backend-item.is),
  search (rules, c.loop-backend.invariant.none_yet),
  search (rules, c.kind_of_box.ensures, c.eq.ensures, c.if-eq.ensures),
  search (rules, c.kind_of_box.ensures, c.eq.ensures, c.if-eq.ensures, c.text_of_box.ensures),
)

pub returns-clause-none : goal.returns-clause-none
returns-clause-none g c =
    all_of_first (λ b. (goal.Backend-dyn g (b.vtable, b.value)).kind_of b.value ≢ c.args.kind) c.loop-backend.backend-index c.args.backends.now.items
    (omega (arith, c.loop-backend-test.false, ap length c.deref-backend-items.ensures.value)) (search (rules, c.loop-backend.invariant.none_yet, c.deref-backend-items.ensures.value))
